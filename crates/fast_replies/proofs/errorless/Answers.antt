-- `fast_replies::errorless` meets its contract.
use mathlib.Core.Path.{ap, ◌∙◌}
use Prim.Native.Nat.{ℕ}
use native.Mathlib.Omega.{arith}
use lib.Dec.{eqb}
use Rattle.session_phases.proofs.Turns.{case}
use Rattle.session.specs.Phases.{stat_size_of}
use Rattle.session.specs.declared.Version.{Version}
use Rattle.fast_replies.specs.Direct.{errorless}
use Rattle.fast_replies.proofs.Entries.{u32_read}
use Rattle.fast_replies.proofs.Stats.{error-number}
use Rattle.fast_replies.proofs.errorless.Goals as goal

pub returns-in-V2 : goal.returns-in-V2
returns-in-V2 c =
    let a = c.args in
    let v = c.in-V2.is in
    let z = ap stat_size_of v in
    case (λ (q : Version). errorless q a.x.now) v
    (ap (λ (n : ℕ). eqb n 0) (c.u32_at.ensures ∙ u32_read a.x.now 4 (omega arith) ∙ error-number a.x.now))
