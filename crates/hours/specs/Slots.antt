-- Hours as fourteen numbers: for each day from Monday on its opening and its closing minute, 0 and 0 for a day without a span. So they can stand in lent
-- bytes, two to a number.
-- Assumes nothing.
use Rattle.std.specs.Prelude.{ℕ, zero, suc, List, [], ◌∷◌, ◌++◌, ◌≡◌, eqb, length, get_or, drop, replicate}
use Rattle.std.proofs.Math.Option.{Option, none, some}
use Rattle.protocol.specs.Bytes.{pick, le, bytes_of}
use Rattle.protocol.specs.Hours.{Hours, LegalHours, Kept}

-- n days from day d on
unfoldable pub slots_from : (n d : ℕ) → Hours → List ℕ
slots_from zero d h = []
slots_from (suc n) d [] = 0 ∷ 0 ∷ slots_from n (suc d) []
slots_from (suc n) d (s ∷ h) = pick (eqb s.day d) (s.opens ∷ s.closes ∷ slots_from n (suc d) h) (0 ∷ 0 ∷ slots_from n (suc d) (s ∷ h))

abbrev pub slots_of : Hours → List ℕ
slots_of h = slots_from 7 0 h

-- the spans of numbers, two for each day from d on
unfoldable pub spans_from : ℕ → List ℕ → Hours
spans_from d [] = []
spans_from d (o ∷ []) = []
spans_from d (o ∷ c ∷ l) = pick (eqb c 0) (spans_from (suc d) l) (record { day = d; opens = o; closes = c } ∷ spans_from (suc d) l)

abbrev pub hours_from : List ℕ → Hours
hours_from l = spans_from 0 l

-- ---- in 32 bytes: 1 where there are hours and else 0, three zeros, the fourteen numbers

abbrev pub pairs : List ℕ → List ℕ
pairs [] = []
pairs (n ∷ ns) = bytes_of 2 n ++ pairs ns

abbrev pub numbers : List ℕ → List ℕ
numbers [] = []
numbers (a ∷ []) = []
numbers (a ∷ b ∷ l) = le (a ∷ b ∷ []) ∷ numbers l

abbrev pub hours_bytes : Option Hours → List ℕ
hours_bytes none = replicate 32 0
hours_bytes (some h) = 1 ∷ 0 ∷ 0 ∷ 0 ∷ pairs (slots_of h)

unfoldable pub hours_of : List ℕ → Option Hours
hours_of b = pick (eqb (get_or b 0 0) 0) none (some (hours_from (numbers (drop 4 b))))

pub record SlotsClaim : Type 0 where
  pub fourteen : (h : Hours) → length (slots_of h) ≡ 14
  pub back : (h : Hours) → LegalHours h → hours_from (slots_of h) ≡ h
  -- the hours, or none, that a session keeps are those of its bytes
  pub thirty_two : (h : Option Hours) → length (hours_bytes h) ≡ 32
  pub bytes_back : (h : Option Hours) → Kept h → hours_of (hours_bytes h) ≡ h
