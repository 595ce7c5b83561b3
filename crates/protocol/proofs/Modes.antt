-- Laws of `specs/Modes.antt`: a mode in decimal is read, and one in octal behind a 0 and any zeros, and no other text. Assumes nothing.
use mathlib.Core.Bool.{Bool, true, false, ◌&&◌}
use mathlib.Core.List.{List, [], ◌∷◌}
use mathlib.Core.Logic.{◌⊎◌, inl, inr}
use mathlib.Core.Option.{Option, none, some, or_else, none-ne-some}
use mathlib.Core.Path.{◌≡◌, refl, sym, ap, ◌∙◌}
use Prim.Native.Nat.{ℕ, zero, suc, ◌+◌, ◌≤◌, ◌<◌}
use native.Mathlib.Decide.{dec_le, dec_lt, ℕ_discrete}
use native.Mathlib.Omega.{arith}
use borrow.Author.Tests.{le-leb, lt-leb, eq-eqb, ne_eqb}
use lib.Dec.{eqb}
use lib.ListN.{length, get_or, drop, replicate, length-append, length-replicate}
use Rattle.protocol.specs.Bytes.{pick, has}
use Rattle.protocol.specs.Decimal.{decimal, canonical}
use Rattle.protocol.specs.Digits.{spelled}
use Rattle.protocol.specs.Modes.{octal_base, octal_most, octal_in, mode_in, octal, octal_text, InOctal}
use Rattle.protocol.proofs.Bytes.{has-append}
use Rattle.protocol.proofs.Decimal.{decimal-length, decimal-has_not, decimal-leading, canonical-leading, canonical-decimal, decimal-canonical}
use Rattle.protocol.proofs.Digits.{digits-nonempty, digits-width, digits-has_not, zeros-spelled, spelled-zeros}

two : 2 ≤ octal_base
two = omega arith

-- ---- texts of modes: how long they are at most; no comma stands in them

pub decimal-text : (m : ℕ) → m < 0x1_0000_0000 → (length (decimal m) ≤ 10) × (has 44 (decimal m) ≡ false)
decimal-text m h = (decimal-length m h, decimal-has_not 44 m refl)

-- every u32 has room behind the 0
pub octal-length : (m : ℕ) → m < 0x1_0000_0000 → length (octal m) ≤ octal_most
octal-length m h = omega (arith, digits-width octal_base two 10 m (omega arith))

text-length : (z m : ℕ) → length (octal_text z m) ≡ 1 + (z + length (octal m))
text-length z m = omega (arith, length-append (replicate z 48) (octal m), length-replicate {A = ℕ} z 48)

zeros-clear : (z : ℕ) → has 44 (replicate z 48) ≡ false
zeros-clear zero = refl
zeros-clear (suc z) = zeros-clear z

pub octal-text : (t : List ℕ) (m : ℕ) → InOctal t m → (length t ≤ 1 + octal_most) × (has 44 t ≡ false)
octal-text t m (z, h, e) =
    rw e (
      omega (arith, text-length z m),
      has-append 44 (replicate z 48) (octal m) ∙ rw (zeros-clear z) (digits-has_not octal_base two 44 m refl),
    )

-- ---- which text is read how

-- a text with a leading 0 and more behind it is no decimal: what is left is the octal
or_none : (o : Option ℕ) → or_else o none ≡ o
unfolding or_else
or_none none = refl
or_none (some n) = refl

pub mode-octal : (t : List ℕ) → 1 < length t → get_or t 0 0 ≡ 48 → length t ≤ 1 + octal_most → mode_in t ≡ spelled octal_base 0 (drop 1 t)
unfolding mode_in octal_in
mode-octal [] more e h = absurd (omega arith)
mode-octal (b ∷ t) more e h =
    rw (canonical-leading (b ∷ t) more e, or_none, eq-eqb b 48 e, le-leb 1 (length t) (omega arith), le-leb (length t) octal_most (omega arith))

pub mode-long : (t : List ℕ) → 1 + octal_most < length t → get_or t 0 0 ≡ 48 → mode_in t ≡ none
unfolding mode_in octal_in
mode-long [] h e = absurd (omega arith)
mode-long (b ∷ t) h e =
    rw (canonical-leading (b ∷ t) (omega arith) e, or_none, eq-eqb b 48 e, le-leb 1 (length t) (omega arith), lt-leb (length t) octal_most (omega arith))

-- any other text is read as before
pub mode-decimal : (t : List ℕ) → (1 < length t → get_or t 0 0 ≡ 48 → ⊥) → mode_in t ≡ canonical t
unfolding mode_in octal_in or_else
mode-decimal [] f = refl
mode-decimal (b ∷ []) f = go (eqb b 48)
  where
    go : (q : Bool) → or_else (pick (q && false && true) (spelled octal_base 0 []) none) (canonical (b ∷ [])) ≡ canonical (b ∷ [])
    go true = refl
    go false = refl
mode-decimal (b ∷ c ∷ t) f = rw (ne_eqb b 48 (f (omega arith)))

-- ---- what is written is read, and what is read was written so

pub decimal-mode : (m : ℕ) → m < 0x1_0000_0000 → mode_in (decimal m) ≡ some m
decimal-mode m h = mode-decimal (decimal m) (decimal-leading m) ∙ canonical-decimal m h

module _ (t : List ℕ) (m : ℕ) (written : InOctal t m) where
  two_bytes : 1 < length t
  two_bytes = let (z, h, e) = written in omega (arith, ap length e, text-length z m, digits-nonempty octal_base two m)

  leading : get_or t 0 0 ≡ 48
  leading = let (z, h, e) = written in ap (λ (s : List ℕ). get_or s 0 0) e

  pub octal-mode : m < 0x1_0000_0000 → mode_in t ≡ some m
  octal-mode l =
      let (z, h, e) = written in
      mode-octal t two_bytes leading (octal-text t m written).0 ∙ ap (λ (s : List ℕ). spelled octal_base 0 (drop 1 s)) e ∙ zeros-spelled octal_base two z m l

  -- an octal text is no decimal
  pub octal-canonical : canonical t ≡ none
  octal-canonical = canonical-leading t two_bytes leading

-- a text of the mode m
abbrev pub Written : List ℕ → ℕ → Type 0
Written t m = (t ≡ decimal m) ⊎ InOctal t m

in_decimal : (t : List ℕ) (m : ℕ) → (1 < length t → get_or t 0 0 ≡ 48 → ⊥) → mode_in t ≡ some m → Written t m × (m < 0x1_0000_0000)
in_decimal t m f e =
    let (w, l) = decimal-canonical t m (sym (mode-decimal t f) ∙ e) in
    (inl w, l)

pub mode-written : (t : List ℕ) (m : ℕ) → mode_in t ≡ some m → Written t m × (m < 0x1_0000_0000)
mode-written [] m e = in_decimal [] m (λ h. absurd (omega arith)) e
mode-written (b ∷ t) m e = go (dec_lt 0 (length t)) (ℕ_discrete b 48)
  where
    in_octal : 0 < length t → b ≡ 48 → Dec (length t ≤ octal_most) → Written (b ∷ t) m × (m < 0x1_0000_0000)
    in_octal h q (no f) = absurd (none-ne-some m (sym (mode-long (b ∷ t) (omega arith) q) ∙ e))
    in_octal h q (yes k) =
        let (z, w, l) = spelled-zeros octal_base two t m h (sym (mode-octal (b ∷ t) (omega arith) q (omega arith)) ∙ e) in
        (inr (z, omega (arith, text-length z m, ap length w), ap (λ (x : ℕ). x ∷ t) q ∙ ap (λ (s : List ℕ). 48 ∷ s) w), l)

    go : Dec (0 < length t) → Dec (b ≡ 48) → Written (b ∷ t) m × (m < 0x1_0000_0000)
    go (yes h) (yes q) = in_octal h q (dec_le (length t) octal_most)
    go (yes h) (no f) = in_decimal (b ∷ t) m (λ _. f) e
    go (no h) d = in_decimal (b ∷ t) m (λ k. absurd (omega arith)) e
