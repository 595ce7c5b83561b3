-- The bytes of hours are those that `is_hours` accepts. Assumes nothing.
use Prim.Native.Nat.{ℕ, zero, suc, ◌+◌, ◌≤◌, ◌<◌}
use mathlib.Core.Bool.{Bool, true, false, ◌&&◌, and-eq-true_iff, true≢false}
use mathlib.Core.List.{List, [], ◌∷◌, ◌++◌}
use mathlib.Core.Option.{Option, none, some}
use mathlib.Core.Path.{◌≡◌, refl, sym, ap, ap₂, ◌∙◌, subst}
use native.Mathlib.Omega.{arith}
use borrow.Author.Tests.{eq-eqb, ne_eqb, lt-ltb, le-leb, eqb-true, eqb-false, ltb-true, leb-true}
use lib.Dec.{eqb, leb, ltb}
use lib.ListN.{length, take, drop, replicate, length-drop, take-append-drop}
use lib.Seq.{length-take-le}
use Rattle.protocol.specs.Bytes.{Bytes, pick, le, bytes_of}
use Rattle.protocol.specs.Hours.{Span, Hours, AllSpans, Rising, Kept}
use Rattle.protocol.proofs.Bytes.{bytes-head, bytes-tail, bytes_drop, bytes_of-le}
use Rattle.hours.specs.Settings.{hours_size, day_minutes, all_zero, is_day, are_days, flagged, is_hours}
use Rattle.hours.specs.Slots.{slots_from, slots_of, spans_from, hours_from, pairs, numbers, hours_bytes}
use Rattle.hours.proofs.Slots.{slots_small, pairs-back, kept-length}

-- ---- legal hours have such bytes

day-tested : (o c : ℕ) → o < c → c ≤ day_minutes → is_day o c ≡ true
day-tested o c h k = rw (ne_eqb c 0 (λ e. omega (arith, e)), lt-ltb o c h, le-leb c day_minutes k)

days-tested : (n d : ℕ) (h : Hours) → AllSpans h → are_days (slots_from n d h) ≡ true
unfolding slots_from
days-tested zero d h a = refl
days-tested (suc n) d [] a = days-tested n (suc d) [] tt
days-tested (suc n) d (s ∷ h) a = go (eqb s.day d) (days-tested n (suc d) h a.1) (days-tested n (suc d) (s ∷ h) a)
  where
    go : (b : Bool) → are_days (slots_from n (suc d) h) ≡ true → are_days (slots_from n (suc d) (s ∷ h)) ≡ true
        → are_days (pick b (s.opens ∷ s.closes ∷ slots_from n (suc d) h) (0 ∷ 0 ∷ slots_from n (suc d) (s ∷ h))) ≡ true
    go true x y = rw (day-tested s.opens s.closes a.0.1.0 a.0.1.1, x)
    go false x y = y

pub lent : (h : Option Hours) → Kept h → is_hours (hours_bytes h) ≡ true
unfolding is_hours
lent none k = refl
lent (some h) k =
    rw (eq-eqb (length (hours_bytes (some h))) hours_size (kept-length (some h)), pairs-back (slots_of h) (slots_small 7 0 h k.spans))
    (days-tested 7 0 h k.spans)

-- ---- such bytes are those of legal hours

all-zero : (l : List ℕ) → all_zero l ≡ true → l ≡ replicate (length l) 0
all-zero [] e = refl
all-zero (x ∷ l) e =
    let b = (and-eq-true_iff (eqb x 0) (all_zero l)).0 e in
    ap₂ (λ (y : ℕ) (m : List ℕ). y ∷ m) (eqb-true x 0 b.0) (all-zero l b.1)

-- a day's two numbers
data DayIs (o c : ℕ) : Type 0 where
  closed : o ≡ 0 → c ≡ 0 → DayIs o c
  span : (c ≡ 0 → ⊥) → o < c → c ≤ day_minutes → DayIs o c

day-is : (o c : ℕ) → is_day o c ≡ true → DayIs o c
day-is o c e = go (eqb c 0) refl e
  where
    go : (z : Bool) → eqb c 0 ≡ z → pick z (eqb o 0) (ltb o c && leb c day_minutes) ≡ true → DayIs o c
    go true q k = closed (eqb-true o 0 k) (eqb-true c 0 q)
    go false q k =
        let b = (and-eq-true_iff (ltb o c) (leb c day_minutes)).0 k in
        span (eqb-false c 0 q) (ltb-true o c b.0) (leb-true c day_minutes b.1)

-- the spans of such numbers: from day d on, rising, legal, and their numbers are these again
record Spans (n d : ℕ) (ns : List ℕ) (h : Hours) : Type 0 where
  pub begins : (s : Span) (r : Hours) → h ≡ s ∷ r → d ≤ s.day
  pub spans : AllSpans h
  pub rises : Rising h
  pub back : slots_from n d h ≡ ns

no-spans : (n d : ℕ) → Spans n d (slots_from n d []) []
no-spans n d = record { begins = λ s r e. absurd (omega (arith, ap length e)); spans = tt; rises = tt; back = refl }

head-same : (s t : Span) (r q : Hours) → s ∷ r ≡ t ∷ q → s ≡ t
head-same s t r q e = ap (λ (l : Hours). elim l [ [] ↦ s | ◌∷◌ x m ↦ x ]) e

closed-day : (n d : ℕ) (ns : List ℕ) (h : Hours) → Spans n (suc d) ns h → Spans (suc n) d (0 ∷ 0 ∷ ns) h
unfolding slots_from
closed-day n d ns [] s = record { begins = λ t r e. absurd (omega (arith, ap length e)); spans = tt; rises = tt; back = ap (λ (l : List ℕ). 0 ∷ 0 ∷ l) s.back }
closed-day n d ns (t ∷ h) s =
    let later = s.begins t h refl in
    record {
      begins = λ u r e. subst (λ (x : Span). d ≤ x.day) (head-same t u h r e) (omega arith);
      spans = s.spans;
      rises = s.rises;
      back = rw (ne_eqb t.day d (λ e. omega (arith, e, later)), s.back);
    }

span-day : (n d o c : ℕ) (ns : List ℕ) (h : Hours) → d ≤ 6 → o < c → c ≤ day_minutes → Spans n (suc d) ns h
    → Spans (suc n) d (o ∷ c ∷ ns) (record { day = d; opens = o; closes = c } ∷ h)
unfolding slots_from
span-day n d o c ns h k p q s =
    let one : Span = record { day = d; opens = o; closes = c } in
    record {
      begins = λ u r e. subst (λ (x : Span). d ≤ x.day) (head-same one u h r e) (omega arith);
      spans = ((k, (p, q)), s.spans);
      rises = go h s.begins s.rises;
      back = rw (eq-eqb d d refl, s.back);
    }
  where
    go : (h : Hours) → ((t : Span) (r : Hours) → h ≡ t ∷ r → suc d ≤ t.day) → Rising h → Rising (record { day = d; opens = o; closes = c } ∷ h)
    go [] b r = tt
    go (t ∷ h) b r = (b t h refl, r)

spans-are : (n d : ℕ) (ns : List ℕ) → d + n ≤ 7 → length ns ≡ n + n → are_days ns ≡ true → Spans n d ns (spans_from d ns)
unfolding spans_from slots_from
spans-are zero d [] e l a = no-spans zero d
spans-are zero d (o ∷ ns) e l a = absurd (omega arith)
spans-are (suc n) d [] e l a = absurd (omega arith)
spans-are (suc n) d (o ∷ []) e l a = absurd (omega arith)
spans-are (suc n) d (o ∷ c ∷ ns) e l a =
    let b = (and-eq-true_iff (is_day o c) (are_days ns)).0 a in
    go (day-is o c b.0) (spans-are n (suc d) ns (omega arith) (omega arith) b.1)
  where
    go : DayIs o c → Spans n (suc d) ns (spans_from (suc d) ns)
        → Spans (suc n) d (o ∷ c ∷ ns) (pick (eqb c 0) (spans_from (suc d) ns) (record { day = d; opens = o; closes = c } ∷ spans_from (suc d) ns))
    go (closed p q) s = rw (p, q) (closed-day n d ns (spans_from (suc d) ns) s)
    go (span z p q) s = rw (ne_eqb c 0 z) (span-day n d o c ns (spans_from (suc d) ns) (omega arith) p q s)

-- two bytes are those of their number
numbers-length : (n : ℕ) (l : List ℕ) → length l ≡ n + n → length (numbers l) ≡ n
numbers-length zero [] e = refl
numbers-length zero (a ∷ l) e = absurd (omega arith)
numbers-length (suc n) [] e = absurd (omega arith)
numbers-length (suc n) (a ∷ []) e = absurd (omega arith)
numbers-length (suc n) (a ∷ b ∷ l) e = ap suc (numbers-length n l (omega arith))

bytes_take : (n : ℕ) (s : List ℕ) → Bytes s → Bytes (take n s)
bytes_take zero s b i = omega arith
bytes_take (suc n) [] b i = omega arith
bytes_take (suc n) (x ∷ s) b zero = bytes-head x s b
bytes_take (suc n) (x ∷ s) b (suc i) = bytes_take n s (bytes-tail x s b) i

numbers-back : (n : ℕ) (l : List ℕ) → length l ≡ n + n → Bytes l → pairs (numbers l) ≡ l
numbers-back zero [] e p = refl
numbers-back zero (a ∷ l) e p = absurd (omega arith)
numbers-back (suc n) [] e p = absurd (omega arith)
numbers-back (suc n) (a ∷ []) e p = absurd (omega arith)
numbers-back (suc n) (a ∷ b ∷ l) e p =
    ap₂ (λ (x y : List ℕ). x ++ y) (bytes_of-le (a ∷ b ∷ []) (bytes_take 2 (a ∷ b ∷ l) p)) (numbers-back n l (omega arith) (bytes-tail b l (bytes-tail a (b ∷ l) p)))

abbrev Lends : List ℕ → Type 0
Lends b = (h : Option Hours) × Kept h × (b ≡ hours_bytes h)

module _ (b : List ℕ) (p : Bytes b) (size : length b ≡ hours_size) where
  -- the flag, and what stands behind it
  parted : (flag : ℕ) → le (take 4 b) ≡ flag → b ≡ bytes_of 4 flag ++ drop 4 b
  parted flag e =
      let four : length (take 4 b) ≡ 4 = length-take-le 4 b (omega arith) in
      let front : take 4 b ≡ bytes_of 4 flag = sym (bytes_of-le (take 4 b) (bytes_take 4 b p)) ∙ ap₂ bytes_of four e in
      sym (take-append-drop 4 b) ∙ ap (λ (l : List ℕ). l ++ drop 4 b) front

  behind : length (drop 4 b) ≡ 28
  behind = omega (arith, length-drop 4 b)

  none_lent : le (take 4 b) ≡ 0 → all_zero (drop 4 b) ≡ true → Lends b
  none_lent e z = (none, tt, parted 0 e ∙ ap (λ (l : List ℕ). bytes_of 4 0 ++ l) (all-zero (drop 4 b) z ∙ ap (λ (n : ℕ). replicate n 0) behind))

  some-lent : le (take 4 b) ≡ 1 → are_days (numbers (drop 4 b)) ≡ true → Lends b
  some-lent e a =
      let ns = numbers (drop 4 b) in
      let s = spans-are 7 0 ns (omega arith) (numbers-length 14 (drop 4 b) behind) a in
      let days : drop 4 b ≡ pairs (slots_of (hours_from ns)) = sym (ap pairs s.back ∙ numbers-back 14 (drop 4 b) behind (bytes_drop 4 b p)) in
      (some (hours_from ns), record { spans = s.spans; rises = s.rises }, parted 1 e ∙ ap (λ (l : List ℕ). bytes_of 4 1 ++ l) days)

  flag-lent : flagged (le (take 4 b)) (drop 4 b) ≡ true → Lends b
  flag-lent e = go (eqb (le (take 4 b)) 0) refl e
    where
      go : (t : Bool) → eqb (le (take 4 b)) 0 ≡ t → pick t (all_zero (drop 4 b)) (eqb (le (take 4 b)) 1 && are_days (numbers (drop 4 b))) ≡ true → Lends b
      go true q k = none_lent (eqb-true (le (take 4 b)) 0 q) k
      go false q k =
          let c = (and-eq-true_iff (eqb (le (take 4 b)) 1) (are_days (numbers (drop 4 b)))).0 k in
          some-lent (eqb-true (le (take 4 b)) 1 c.0) c.1

pub lends : (b : List ℕ) → Bytes b → is_hours b ≡ true → Lends b
unfolding is_hours
lends b p e = go (eqb (length b) hours_size) refl e
  where
    go : (t : Bool) → eqb (length b) hours_size ≡ t → pick t (flagged (le (take 4 b)) (drop 4 b)) false ≡ true → Lends b
    go true q k = flag-lent b p (eqb-true (length b) hours_size q) k
    go false q k = absurd (true≢false (sym k))
