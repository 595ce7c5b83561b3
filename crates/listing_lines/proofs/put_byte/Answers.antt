-- `listing_lines::put_byte` meets its contract.
use mathlib.Core.Path.{refl}
use native.Mathlib.Omega.{arith}
use Rattle.listing_lines.proofs.Laws.{set-over}
use Rattle.listing_lines.proofs.put_byte.Goals as goal

pub returns : goal.returns
returns c = record { bytes = set-over _ _ _ (omega arith); ends = refl }
