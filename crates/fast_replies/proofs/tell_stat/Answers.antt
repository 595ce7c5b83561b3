-- `fast_replies::tell_stat` meets its contract: the stat's numbers, as the record at the front of x has them.
use mathlib.Core.Path.{ap}
use native.Mathlib.Omega.{arith}
use Rattle.protocol.specs.Bytes.{put}
use Rattle.boundary.specs.Told.{reply_bytes}
use Rattle.session_phases.proofs.Turns.{case}
use Rattle.session.specs.Phases.{stat_size_of}
use Rattle.session.specs.declared.Reply.TheVariants.{Told}
use Rattle.session.specs.declared.Version.{Version}
use Rattle.fast_replies.specs.Direct.{stat_told}
use Rattle.fast_replies.proofs.Stats.{v1_replied, v2_replied}
use Rattle.fast_replies.proofs.tell_stat.Goals as goal

pub returns-in-V1 : goal.returns-in-V1
returns-in-V1 c =
    let a = c.args in
    let v = c.in-V1.is in
    let z = ap stat_size_of v in
    case (λ (q : Version). put a.out.now 0 (reply_bytes (Told (stat_told q a.x.now)))) v
    (v1_replied a.out.now a.x.now _ (omega arith) c.stat_v1_at.ensures c.put_stat.ensures)

pub returns-in-V2 : goal.returns-in-V2
returns-in-V2 c =
    let a = c.args in
    let v = c.in-V2.is in
    let z = ap stat_size_of v in
    case (λ (q : Version). put a.out.now 0 (reply_bytes (Told (stat_told q a.x.now)))) v
    (v2_replied a.out.now a.x.now _ (omega arith) c.stat_v2_at.ensures c.put_stat_v2.ensures)
