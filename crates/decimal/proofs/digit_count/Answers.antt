-- `decimal::digit_count` meets its contract.
use mathlib.Core.Path.{sym}
use native.Mathlib.Omega.{arith}
use Rattle.protocol.proofs.Digits.{length-small}
use Rattle.decimal.proofs.Laws.{length-power}
use Rattle.decimal.proofs.digit_count.Goals as goal

pub returns-in-Some : goal.returns-in-Some
returns-in-Some c = sym (length-power c.in-Some.k c.args.n c.in-Some.ensures.power_le c.in-Some.ensures.next_power_gt)

pub returns-in-None : goal.returns-in-None
returns-in-None c = let z = c.in-None.ensures.none in sym (length-small 10 (omega arith) c.args.n (omega arith))
