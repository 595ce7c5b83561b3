-- Decimal numbers: "A u32 as digits, no leading zero; 0 is "0"" (document 01, decimal.rs), and the reading of them.
-- Assumes nothing.
use Rattle.std.specs.Prelude.{ℕ, List, [], ◌∷◌, eqb}
use Rattle.std.proofs.Math.Option.{Option, none}
use Rattle.protocol.specs.Bytes.{pick}
use Rattle.protocol.specs.Digits.{digits, spelled}

-- n in digits, no leading zero; 0 is "0"
abbrev pub decimal : ℕ → List ℕ
decimal n = digits 10 n

-- the u32 that a text is the canonical decimal of: digits, no leading zero but in "0"
unfoldable pub canonical : List ℕ → Option ℕ
canonical [] = none
canonical (b ∷ []) = spelled 10 0 (b ∷ [])
canonical (b ∷ c ∷ text) = pick (eqb b 48) none (spelled 10 0 (b ∷ c ∷ text))
