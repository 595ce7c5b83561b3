-- `decimal::put_digits` meets its contract. The invariant of its loop: where places are left, m's digits belong there.
use Rattle.protocol.specs.Bytes.{over}
use Rattle.protocol.specs.Decimal.{decimal}
use Rattle.decimal.proofs.Laws.{Left}
use Rattle.decimal.proofs.put_digits.Given as goal

abbrev pub invariant-loop-at : goal.invariant-loop-at
invariant-loop-at l = Left l.at l.m l.out (over l.initial.out 0 (decimal l.n))
