-- A number that is there or not, where a definition gives 0 for none.
-- Assumes nothing.
use Rattle.std.specs.Prelude.{ℕ, zero, suc, Option, Some, None}

abbrev pub found : ℕ → Option ℕ
found zero = None
found (suc n) = Some (suc n)
