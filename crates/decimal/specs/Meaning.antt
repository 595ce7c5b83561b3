-- The number that a parser gives, if any.
-- Assumes nothing.
use Rattle.std.specs.Prelude.{ℕ, Option, Some, None}
use Rattle.std.proofs.Math.Option as M

abbrev pub parsed : Option ℕ → M.Option ℕ
parsed (Some n) = M.some n
parsed None = M.none
