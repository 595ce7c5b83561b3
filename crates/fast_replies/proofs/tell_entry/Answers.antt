-- `fast_replies::tell_entry` meets its contract: the entry's numbers, as the record at the front of x has them.
use mathlib.Core.Path.{ap, ◌∙◌}
use native.Mathlib.Omega.{arith}
use Rattle.protocol.specs.Bytes.{put}
use Rattle.boundary.specs.Told.{reply_bytes}
use Rattle.session_phases.proofs.Turns.{case}
use Rattle.session.specs.Phases.{entry_size_of}
use Rattle.session.specs.declared.Reply.TheVariants.{Told}
use Rattle.session.specs.declared.Version.{Version}
use Rattle.fast_replies.specs.Direct.{name_length_of, entry_told}
use Rattle.fast_replies.proofs.Entries.{v1_told, v2_told}
use Rattle.fast_replies.proofs.tell_entry.Goals as goal

pub returns-in-V1 : goal.returns-in-V1
returns-in-V1 c =
    let a = c.args in
    let v = c.in-V1.is in
    let z = ap entry_size_of v in
    case (λ (q : Version). put a.out.now 0 (reply_bytes (Told (entry_told q a.x.now a.at)))) v
    (v1_told a.out.now a.x.now a.at a.len _ (omega arith) (c.requires.1 ∙ ap (λ (q : Version). name_length_of q a.x.now) v) c.stat_v1_at.ensures c.put_stat.ensures)

pub returns-in-V2 : goal.returns-in-V2
returns-in-V2 c =
    let a = c.args in
    let v = c.in-V2.is in
    let z = ap entry_size_of v in
    case (λ (q : Version). put a.out.now 0 (reply_bytes (Told (entry_told q a.x.now a.at)))) v
    (v2_told a.out.now a.x.now a.at a.len _ (omega arith) (c.requires.1 ∙ ap (λ (q : Version). name_length_of q a.x.now) v) c.stat_v2_at.ensures c.put_stat_v2.ensures)
