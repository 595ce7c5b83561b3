-- `decimal::parse_u32` meets its contract.
use mathlib.Core.Path.{sym, ◌∙◌}
use native.Mathlib.Omega.{arith}
use Rattle.std.proofs.lemmas.Grind.{common_steps}
use Rattle.protocol.proofs.Decimal.{canonical-empty, canonical-leading, canonical-spelled}
use Rattle.decimal.proofs.parse_u32.Goals as goal

pub returns-then-is_empty : goal.returns-then-is_empty
returns-then-is_empty c = sym (canonical-empty _ (grind (arith, common_steps)))

pub returns-then-text-eq48 : goal.returns-then-text-eq48
returns-then-text-eq48 c = sym (canonical-leading c.args.text.now (omega arith) (omega arith))

pub returns : goal.returns
returns c = c.parse_digits.ensures ∙ sym (canonical-spelled c.args.text.now (grind (arith, common_steps)) (λ h e. grind arith))
