-- `decimal::parse_digits` meets its contract. The invariant of its loop: n is what the bytes read so far spell.
use mathlib.Core.Path.{◌≡◌}
use lib.ListN.{drop}
use Rattle.protocol.specs.Digits.{spelled}
use Rattle.decimal.proofs.parse_digits.Given as goal

abbrev pub invariant-loop-b : goal.invariant-loop-b
invariant-loop-b l = spelled l.base 0 l.text ≡ spelled l.base l.n (drop l.b-index l.text)
