-- Answers to goals of `decimal::put_digits`.
use mathlib.Core.Path.{refl}
use native.Mathlib.Omega.{arith}
use Rattle.protocol.proofs.Decimal.{decimal_nonempty}
use Rattle.decimal.proofs.Laws.{left-next}
use Rattle.decimal.proofs.put_digits.Goals as goal

pub loop-at-init : goal.loop-at-init
loop-at-init c =
    let h = decimal_nonempty c.args.n in
    (λ z. (omega arith, refl), λ z. absurd (omega arith))

pub loop-at-preserved : goal.loop-at-preserved
loop-at-preserved c =
    let l = c.loop-at in
    left-next l.at l.m l.out _ c.loop-at-test.true (omega arith) l.invariant

pub returns : goal.returns
returns c = c.loop-at.invariant.1 (omega arith)
