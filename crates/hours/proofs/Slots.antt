-- Legal hours are the hours of their numbers. Assumes nothing.
use Prim.Native.Nat.{ℕ, zero, suc, ◌+◌, ◌≤◌, ◌<◌}
use mathlib.Core.Bool.{Bool, true, false}
use mathlib.Core.List.{List, [], ◌∷◌}
use mathlib.Core.Option.{Option, none, some}
use mathlib.Core.Path.{◌≡◌, refl, sym, ap, ◌∙◌}
use native.Mathlib.Omega.{arith}
use borrow.Author.Tests.{eqb-true, eqb-false, ne_eqb}
use lib.Dec.{eqb}
use lib.ListN.{length}
use Rattle.protocol.specs.Bytes.{pick}
use Rattle.protocol.specs.Hours.{Span, Hours, AllSpans, Rising, LegalHours, Kept}
use Rattle.protocol.proofs.Bytes.{le-bytes_of}
use Rattle.hours.specs.Slots.{slots_from, slots_of, spans_from, hours_from, pairs, numbers, hours_bytes, hours_of, SlotsClaim}

-- n days have 2 n numbers
pub slots_length : (n d : ℕ) (h : Hours) → length (slots_from n d h) ≡ n + n
unfolding slots_from
slots_length zero d h = refl
slots_length (suc n) d [] = omega (arith, slots_length n (suc d) [])
slots_length (suc n) d (s ∷ h) = go (eqb s.day d) (slots_length n (suc d) h) (slots_length n (suc d) (s ∷ h))
  where
    go : (b : Bool) → length (slots_from n (suc d) h) ≡ n + n → length (slots_from n (suc d) (s ∷ h)) ≡ n + n
        → length (pick b (s.opens ∷ s.closes ∷ slots_from n (suc d) h) (0 ∷ 0 ∷ slots_from n (suc d) (s ∷ h))) ≡ suc n + suc n
    go true x y = omega (arith, x)
    go false x y = omega (arith, y)

-- the spans lie from day d on
abbrev From : ℕ → Hours → Type 0
From d [] = Unit {0}
From d (s ∷ h) = d ≤ s.day

from_next : (d : ℕ) (s : Span) (h : Hours) → s.day ≡ d → Rising (s ∷ h) → From (suc d) h
from_next d s [] e r = tt
from_next d s (t ∷ h) e r = omega (arith, e, r.0)

rising-next : (s : Span) (h : Hours) → Rising (s ∷ h) → Rising h
rising-next s [] r = tt
rising-next s (t ∷ h) r = r.1

-- no span lies behind the last day
abbrev Before : ℕ → Hours → Type 0
Before d [] = Unit {0}
Before d (s ∷ h) = (s.day < d) × Before d h

spans-none : (n d : ℕ) → spans_from d (slots_from n d []) ≡ []
unfolding slots_from spans_from
spans-none zero d = refl
spans-none (suc n) d = spans-none n (suc d)

spans-back : (n d : ℕ) (h : Hours) → AllSpans h → Rising h → From d h → Before (d + n) h → spans_from d (slots_from n d h) ≡ h
unfolding slots_from spans_from
spans-back n d [] a r f b = spans-none n d
spans-back zero d (s ∷ h) a r f b = absurd (omega (arith, f, b.0))
spans-back (suc n) d (s ∷ h) a r f b =
    go (eqb s.day d) refl (spans-back n (suc d) h a.1 (rising-next s h r)) (spans-back n (suc d) (s ∷ h) a r)
  where
    next : (h : Hours) → Before (d + suc n) h → Before (suc d + n) h
    next [] x = tt
    next (t ∷ h) x = (omega (arith, x.0), next h x.1)

    go : (x : Bool) → eqb s.day d ≡ x → (From (suc d) h → Before (suc d + n) h → spans_from (suc d) (slots_from n (suc d) h) ≡ h)
        → (From (suc d) (s ∷ h) → Before (suc d + n) (s ∷ h) → spans_from (suc d) (slots_from n (suc d) (s ∷ h)) ≡ s ∷ h)
        → spans_from d (pick x (s.opens ∷ s.closes ∷ slots_from n (suc d) h) (0 ∷ 0 ∷ slots_from n (suc d) (s ∷ h))) ≡ s ∷ h
    go true e here later =
        let same : s.day ≡ d = eqb-true s.day d e in
        let some-minutes : eqb s.closes 0 ≡ false = ne_eqb s.closes 0 (λ z. omega (arith, z, a.0.1.0)) in
        rw (some-minutes, here (from_next d s h same r) (next h b.1), sym same)
    go false e here later = later (omega (arith, f, eqb-false s.day d e)) (next (s ∷ h) b)

before-seven : (h : Hours) → AllSpans h → Before 7 h
before-seven [] a = tt
before-seven (s ∷ h) a = (omega (arith, a.0.0), before-seven h a.1)

from_start : (h : Hours) → From 0 h
from_start [] = tt
from_start (s ∷ h) = omega arith

legal-back : (h : Hours) → LegalHours h → hours_from (slots_of h) ≡ h
legal-back h l = spans-back 7 0 h l.spans l.rises (from_start h) (before-seven h l.spans)

-- ---- the bytes

abbrev Small : List ℕ → Type 0
Small [] = Unit {0}
Small (n ∷ ns) = (n < 65536) × Small ns

pub slots_small : (n d : ℕ) (h : Hours) → AllSpans h → Small (slots_from n d h)
unfolding slots_from
slots_small zero d h a = tt
slots_small (suc n) d [] a = (omega arith, (omega arith, slots_small n (suc d) [] tt))
slots_small (suc n) d (s ∷ h) a = go (eqb s.day d) (slots_small n (suc d) h a.1) (slots_small n (suc d) (s ∷ h) a)
  where
    go : (b : Bool) → Small (slots_from n (suc d) h) → Small (slots_from n (suc d) (s ∷ h))
        → Small (pick b (s.opens ∷ s.closes ∷ slots_from n (suc d) h) (0 ∷ 0 ∷ slots_from n (suc d) (s ∷ h)))
    go true x y = (omega (arith, a.0), (omega (arith, a.0), x))
    go false x y = (omega arith, (omega arith, y))

pub pairs-back : (ns : List ℕ) → Small ns → numbers (pairs ns) ≡ ns
pairs-back [] s = refl
pairs-back (n ∷ ns) s = rw (le-bytes_of 2 n (omega (arith, s.0)), pairs-back ns s.1)

pairs-length : (ns : List ℕ) → length (pairs ns) ≡ length ns + length ns
pairs-length [] = refl
pairs-length (n ∷ ns) = omega (arith, pairs-length ns)

pub kept-length : (h : Option Hours) → length (hours_bytes h) ≡ 32
kept-length none = refl
kept-length (some h) = omega (arith, pairs-length (slots_of h), slots_length 7 0 h)

pub kept_back : (h : Option Hours) → Kept h → hours_of (hours_bytes h) ≡ h
unfolding hours_of
kept_back none k = refl
kept_back (some h) k = ap some (ap hours_from (pairs-back (slots_of h) (slots_small 7 0 h k.spans)) ∙ legal-back h k)

pub slots : SlotsClaim
slots = record { fourteen = λ h. slots_length 7 0 h; back = legal-back; thirty_two = kept-length; bytes_back = kept_back }
