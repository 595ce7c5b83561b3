-- The mode of a SEND, by the text behind its comma. The host writes it in canonical decimal; the oldest sender "with a leading 0 and means
-- octal, as C does" (document 02, [5]): "A leading 0 followed by one to eleven octal digits whose value fits 32 bits is octal; a lone "0" is
-- zero as ever; other text goes as before."
-- Assumes nothing.
use Rattle.std.specs.Prelude.{ℕ, ◌+◌, ◌≤◌, ◌&&◌, List, [], ◌∷◌, ◌++◌, ◌≡◌, eqb, leb, length, replicate}
use Rattle.std.proofs.Math.Option.{Option, none, or_else}
use Rattle.protocol.specs.Bytes.{pick}
use Rattle.protocol.specs.Decimal.{canonical}
use Rattle.protocol.specs.Digits.{digits, spelled}

-- "octal", and "one to eleven octal digits"
abbrev pub octal_base : ℕ
octal_base = 8

abbrev pub octal_most : ℕ
octal_most = 11

-- ---- reading

-- "A leading 0 followed by one to eleven octal digits whose value fits 32 bits"
unfoldable pub octal_in : List ℕ → Option ℕ
octal_in [] = none
octal_in (b ∷ text) = pick (eqb b 48 && leb 1 (length text) && leb (length text) octal_most) (spelled octal_base 0 text) none

-- ".. is octal; .. other text goes as before"
unfoldable pub mode_in : List ℕ → Option ℕ
mode_in text = or_else (octal_in text) (canonical text)

-- ---- writing

-- n in octal digits, no leading zero
abbrev pub octal : ℕ → List ℕ
octal n = digits octal_base n

-- the mode m in octal: a 0, then its digits behind any zeros
abbrev pub octal_text : (zeros m : ℕ) → List ℕ
octal_text z m = 48 ∷ (replicate z 48 ++ octal m)

-- a text that is the mode m in octal
abbrev pub InOctal : List ℕ → ℕ → Type 0
InOctal text m = (zeros : ℕ) × (zeros + length (octal m) ≤ octal_most) × (text ≡ octal_text zeros m)
