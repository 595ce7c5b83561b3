-- `session_part::within` meets its contract.
use mathlib.Core.Path.{sym}
use native.Mathlib.Omega.{arith}
use Rattle.session_part.proofs.Laws.{inside-in, inside-out}
use Rattle.session_part.proofs.within.Goals.{in_default-via-in-Some+else-end-s, in_default-via-in_default}
use Rattle.session_part.proofs.within.Goals as goal

pub returns-in-Some : goal.returns-in-Some
returns-in-Some c = let a = c.args in inside-in a.s.now a.at a.len _ (omega arith) (omega arith)

pub returns-in_default : goal.returns-in_default
returns-in_default c =
    elim c.in_default.branch [
      | in_default-via-in-Some+else-end-s w ↦ sym (inside-out _ _ _ (omega arith))
      | in_default-via-in_default w ↦ sym (inside-out _ _ _ (omega arith))
    ]
