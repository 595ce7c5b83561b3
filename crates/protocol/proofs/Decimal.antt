-- Laws of `specs/Decimal.antt`: how many digits a decimal has, and that `canonical` reads them back and nothing else. Assumes nothing.
use mathlib.Core.List.{List, [], ◌∷◌}
use mathlib.Core.Option.{none, some, none-ne-some}
use mathlib.Core.Path.{◌≡◌, refl, ◌∙◌}
use mathlib.Core.Bool.{false}
use Prim.Native.Nat.{ℕ, ◌≤◌, ◌<◌}
use native.Mathlib.Decide.{dec_lt, ℕ_discrete}
use native.Mathlib.Omega.{arith}
use borrow.Author.Tests.{eq-eqb, ne_eqb}
use lib.ListN.{length, get_or}
use Rattle.protocol.specs.Bytes.{has}
use Rattle.protocol.specs.Decimal.{decimal, canonical}
use Rattle.protocol.specs.Digits.{is_digit, spelled}
use Rattle.protocol.proofs.Digits as Digits

-- ---- the digits of a number, in base 10

ten : 2 ≤ 10
ten = omega arith

pub decimal_nonempty : (n : ℕ) → 0 < length (decimal n)
decimal_nonempty = Digits.digits-nonempty 10 ten

pub decimal-length : (n : ℕ) → n < 0x1_0000_0000 → length (decimal n) ≤ 10
decimal-length n h = Digits.digits-width 10 ten 9 n (omega arith)

-- a byte that is no digit's stands in no decimal
pub decimal-has_not : (b n : ℕ) → is_digit 10 b ≡ false → has b (decimal n) ≡ false
decimal-has_not = Digits.digits-has_not 10 ten

-- ---- canonical decimals

-- which texts are none before a digit is read; any other text is read digit by digit
pub canonical-empty : (t : List ℕ) → length t ≡ 0 → canonical t ≡ none
unfolding canonical
canonical-empty [] h = refl
canonical-empty (b ∷ t) h = absurd (omega arith)

pub canonical-leading : (t : List ℕ) → 1 < length t → get_or t 0 0 ≡ 48 → canonical t ≡ none
unfolding canonical
canonical-leading [] h e = refl
canonical-leading (b ∷ []) h e = absurd (omega arith)
canonical-leading (b ∷ c ∷ t) h e = rw (eq-eqb b 48 e)

pub canonical-spelled : (t : List ℕ) → 0 < length t → (1 < length t → get_or t 0 0 ≡ 48 → ⊥) → canonical t ≡ spelled 10 0 t
unfolding canonical
canonical-spelled [] h f = absurd (omega arith)
canonical-spelled (b ∷ []) h f = refl
canonical-spelled (b ∷ c ∷ t) h f = rw (ne_eqb b 48 (f (omega arith)))

-- no leading zero
pub decimal-leading : (n : ℕ) → 1 < length (decimal n) → get_or (decimal n) 0 0 ≡ 48 → ⊥
decimal-leading n h e = go (dec_lt 0 n)
  where
    go : Dec (0 < n) → ⊥
    go (yes p) = omega (arith, Digits.digits-first 10 ten n p)
    go (no z) = omega (arith, Digits.length-small 10 ten n (omega arith))

-- what was written is read back
pub canonical-decimal : (n : ℕ) → n < 0x1_0000_0000 → canonical (decimal n) ≡ some n
canonical-decimal n l = canonical-spelled (decimal n) (decimal_nonempty n) (decimal-leading n) ∙ Digits.spelled-digits 10 ten n l

-- what is read was written: a canonical text is its number's decimal
pub decimal-canonical : (t : List ℕ) (n : ℕ) → canonical t ≡ some n → (t ≡ decimal n) × (n < 0x1_0000_0000)
unfolding canonical
decimal-canonical [] n e = absurd (none-ne-some n e)
decimal-canonical (b ∷ []) n e = Digits.first-digit 10 ten b [] n (λ h. absurd (omega arith)) e
decimal-canonical (b ∷ c ∷ t) n e = go (ℕ_discrete b 48)
  where
    go : Dec (b ≡ 48) → (b ∷ c ∷ t ≡ decimal n) × (n < 0x1_0000_0000)
    go (yes z) = absurd (none-ne-some n (rw (eq-eqb b 48 z) at e))
    go (no f) = Digits.first-digit 10 ten b (c ∷ t) n (λ h. f) (rw (ne_eqb b 48 f) at e)
