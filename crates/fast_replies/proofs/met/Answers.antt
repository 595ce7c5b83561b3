-- `fast_replies::met` meets its contract.
use mathlib.Core.Path.{ap, ◌∙◌}
use Prim.Native.Nat.{ℕ, ◌+◌}
use native.Mathlib.Omega.{arith}
use Rattle.fast_record.proofs.Found.{found_none, found-some}
use Rattle.fast_replies.proofs.Ends.{end-out, end-in}
use Rattle.fast_replies.proofs.met.Goals as goal

pub returns-then-count-eq0 : goal.returns-then-count-eq0
returns-then-count-eq0 c = let a = c.args in found_none (end-out a.rec.now a.rx.now a.count (grind arith))

pub returns-then-end-number : goal.returns-then-end-number
returns-then-end-number c = let a = c.args in found_none (end-out a.rec.now a.rx.now a.count (grind arith))

pub returns : goal.returns
returns c =
    let a = c.args in
    found-some (omega arith) (ap (λ (t : ℕ). t + a.count) c.number-tail.ensures ∙ end-in a.rec.now a.rx.now a.count (grind arith))
