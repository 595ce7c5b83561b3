-- Hours and their files determine each other. Assumes nothing.
use Prim.Native.Nat.{ℕ, ◌+◌, ◌≤◌, ◌<◌}
use mathlib.Core.Bool.{Bool, true, false, ◌&&◌, ◌||◌, and-eq-true_iff, true≢false}
use mathlib.Core.List.{List, [], ◌∷◌, ◌++◌, map}
use mathlib.Core.Option.{Option, none, some, none-ne-some}
use mathlib.Core.Path.{◌≡◌, refl, sym, ap, ap₂, ◌∙◌, subst}
use native.Mathlib.Omega.{arith}
use borrow.Author.Tests.{le-leb, lt-ltb, leb-true, ltb-true, eq-eqb, eqb-true}
use lib.Dec.{eqb, leb, ltb}
use lib.ListN.{length}
use Rattle.protocol.specs.Bytes.{pick, same}
use Rattle.protocol.specs.Decimal.{decimal, canonical}
use Rattle.protocol.proofs.Bytes.{same-eq}
use Rattle.protocol.proofs.Decimal.{canonical-decimal, decimal-canonical, decimal-has_not}
use Rattle.text_lines.specs.Claim.{Every, Field, Line}
use Rattle.text_lines.specs.Lines.{file_of, lines_of}
use Rattle.text_lines.proofs.Lines.{text-lines}
use Rattle.id_table.specs.IdsFile.{same_all}
use Rattle.protocol.specs.Hours.{Span, Hours, AllSpans, Rising, LegalHours, day_at, weekday, minute_at, in_span, within}
use Rattle.hours.specs.Claim.{Falls}
use Rattle.hours.specs.File.{heading, is_span, checked_span, numbered, span_in, and_span, spans_in, rising, in_order, under_heading, hours_in, line_of, hours_file}

some_same : {A : Type 0} {a b : A} → some a ≡ some b → a ≡ b
some_same {A} {a} e = ap (λ (o : Option A). elim o [ none ↦ a | some x ↦ x ]) e

-- ---- a span and its line

span_tested : (s : Span) → (s.day ≤ 6) × ((s.opens < s.closes) × (s.closes ≤ 1440)) → is_span s ≡ true
span_tested s h = rw (le-leb s.day 6 h.0, lt-ltb s.opens s.closes h.1.0, le-leb s.closes 1440 h.1.1)

span-back : (s : Span) → (s.day ≤ 6) × ((s.opens < s.closes) × (s.closes ≤ 1440)) → span_in (line_of s) ≡ some s
span-back s h =
    rw (canonical-decimal s.day (omega arith), canonical-decimal s.opens (omega arith), canonical-decimal s.closes (omega arith), span_tested s h)

spans-back : (h : Hours) → AllSpans h → spans_in (map line_of h) ≡ some h
spans-back [] a = refl
spans-back (s ∷ h) a = rw (span-back s a.0, spans-back h a.1)

rising-tested : (h : Hours) → Rising h → rising h ≡ true
rising-tested [] r = refl
rising-tested (s ∷ []) r = refl
rising-tested (s ∷ t ∷ h) r = rw (lt-ltb s.day t.day r.0, rising-tested (t ∷ h) r.1)

number-field : (n : ℕ) → Field (decimal n)
number-field n = record { no_comma = decimal-has_not 44 n refl; no_end = decimal-has_not 10 n refl }

line-line : (s : Span) → Line (line_of s)
line-line s = record { some = omega arith; fields = (number-field s.day, (number-field s.opens, (number-field s.closes, tt))) }

lines-lines : (h : Hours) → Every Line (map line_of h)
lines-lines [] = tt
lines-lines (s ∷ h) = (line-line s, lines-lines h)

heading-line : Line heading
heading-line = record { some = omega arith; fields = (record { no_comma = refl; no_end = refl }, (record { no_comma = refl; no_end = refl }, (record { no_comma = refl; no_end = refl }, tt))) }

pub loads : (h : Hours) → LegalHours h → hours_in (hours_file h) ≡ some h
unfolding hours_in
loads h l =
    ap under_heading (text-lines.back (heading ∷ map line_of h) (heading-line, lines-lines h))
    ∙ ap in_order (spans-back h l.spans) ∙ ap (λ (b : Bool). pick b (some h) none) (rising-tested h l.rises)

-- ---- from a file

pub record IsSpan (l : List (List ℕ)) (s : Span) : Type 0 where
  pub whole : l ≡ line_of s
  pub spans : (s.day ≤ 6) × ((s.opens < s.closes) × (s.closes ≤ 1440))

checked-span : (s t : Span) → checked_span s ≡ some t → (s ≡ t) × (is_span s ≡ true)
checked-span s t e = go (is_span s) refl e
  where
    go : (b : Bool) → is_span s ≡ b → pick b (some s) none ≡ some t → (s ≡ t) × (is_span s ≡ true)
    go true q k = (some_same k, q)
    go false q k = absurd (none-ne-some t k)

tested_span : (s : Span) → is_span s ≡ true → (s.day ≤ 6) × ((s.opens < s.closes) × (s.closes ≤ 1440))
tested_span s e =
    let a = (and-eq-true_iff (leb s.day 6 && ltb s.opens s.closes) (leb s.closes 1440)).0 e in
    let b = (and-eq-true_iff (leb s.day 6) (ltb s.opens s.closes)).0 a.0 in
    (leb-true s.day 6 b.0, (ltb-true s.opens s.closes b.1, leb-true s.closes 1440 a.1))

pub span-only : (l : List (List ℕ)) (s : Span) → span_in l ≡ some s → IsSpan l s
span-only [] s e = absurd (none-ne-some s e)
span-only (a ∷ []) s e = absurd (none-ne-some s e)
span-only (a ∷ b ∷ []) s e = absurd (none-ne-some s e)
span-only (a ∷ b ∷ c ∷ []) s e = go (canonical a) (canonical b) (canonical c) refl refl refl e
  where
    go : (x y z : Option ℕ) → canonical a ≡ x → canonical b ≡ y → canonical c ≡ z → numbered x y z ≡ some s → IsSpan (a ∷ b ∷ c ∷ []) s
    go none y z p q r k = absurd (none-ne-some s k)
    go (some x) none z p q r k = absurd (none-ne-some s k)
    go (some x) (some y) none p q r k = absurd (none-ne-some s k)
    go (some x) (some y) (some z) p q r k =
        let t = checked-span (record { day = x; opens = y; closes = z }) s k in
        let whole : a ∷ b ∷ c ∷ [] ≡ line_of (record { day = x; opens = y; closes = z }) =
        rw ((decimal-canonical a x p).0, (decimal-canonical b y q).0, (decimal-canonical c z r).0) in
        subst (IsSpan (a ∷ b ∷ c ∷ [])) t.0 (record { whole = whole; spans = tested_span _ t.1 })
span-only (a ∷ b ∷ c ∷ d ∷ l) s e = absurd (none-ne-some s e)

record AreSpans (ls : List (List (List ℕ))) (h : Hours) : Type 0 where
  pub whole : ls ≡ map line_of h
  pub spans : AllSpans h

spans-only : (ls : List (List (List ℕ))) (h : Hours) → spans_in ls ≡ some h → AreSpans ls h
spans-only [] h e = subst (AreSpans []) (some_same e) (record { whole = refl; spans = tt })
spans-only (l ∷ ls) h e = go (span_in l) (spans_in ls) (span-only l) (spans-only ls) e
  where
    go : (x : Option Span) (y : Option Hours) → ((s : Span) → x ≡ some s → IsSpan l s) → ((k : Hours) → y ≡ some k → AreSpans ls k) → and_span x y ≡ some h → AreSpans (l ∷ ls) h
    go none y f g k = absurd (none-ne-some h k)
    go (some s) none f g k = absurd (none-ne-some h k)
    go (some s) (some r) f g k =
        let one = f s refl in
        let more = g r refl in
        subst (AreSpans (l ∷ ls)) (some_same k) (record { whole = ap₂ (λ (a : List (List ℕ)) (b : List (List (List ℕ))). a ∷ b) one.whole more.whole; spans = (one.spans, more.spans) })

rising-only : (h : Hours) → rising h ≡ true → Rising h
rising-only [] e = tt
rising-only (s ∷ []) e = tt
rising-only (s ∷ t ∷ h) e = let a = (and-eq-true_iff (ltb s.day t.day) (rising (t ∷ h))).0 e in (ltb-true s.day t.day a.0, rising-only (t ∷ h) a.1)

same-all : (ps qs : List (List ℕ)) → same_all ps qs ≡ true → ps ≡ qs
same-all [] [] e = refl
same-all [] (q ∷ qs) e = absurd (true≢false (sym e))
same-all (p ∷ ps) [] e = absurd (true≢false (sym e))
same-all (p ∷ ps) (q ∷ qs) e =
    let b = (and-eq-true_iff (same p q) (same_all ps qs)).0 e in
    ap₂ (λ (x : List ℕ) (xs : List (List ℕ)). x ∷ xs) (same-eq p q b.0) (same-all ps qs b.1)

ordered : (o : Option Hours) (h : Hours) → in_order o ≡ some h → (o ≡ some h) × (rising h ≡ true)
ordered none h e = absurd (none-ne-some h e)
ordered (some k) h e = go (rising k) refl e
  where
    go : (b : Bool) → rising k ≡ b → pick b (some k) none ≡ some h → (some k ≡ some h) × (rising h ≡ true)
    go true r p = (p, sym (ap rising (some_same p)) ∙ r)
    go false r p = absurd (none-ne-some h p)

pub only : (file : List ℕ) (h : Hours) → hours_in file ≡ some h → (hours_file h ≡ file) × LegalHours h
unfolding hours_in
only file h e = go (lines_of file) refl e
  where
    headed : (first : List (List ℕ)) (ls : List (List (List ℕ))) → lines_of file ≡ some (first ∷ ls) → (b : Bool) → same_all first heading ≡ b
        → pick b (in_order (spans_in ls)) none ≡ some h → (hours_file h ≡ file) × LegalHours h
    headed first ls l true s k =
        let o = ordered (spans_in ls) h k in
        let are = spans-only ls h o.0 in (
          ap₂ (λ (x : List (List ℕ)) (xs : List (List (List ℕ))). file_of (x ∷ xs)) (sym (same-all first heading s)) (sym are.whole) ∙ text-lines.whole file (first ∷ ls) l,
          record { spans = are.spans; rises = rising-only h o.1 },
        )
    headed first ls l false s k = absurd (none-ne-some h k)

    go : (o : Option (List (List (List ℕ)))) → lines_of file ≡ o → under_heading o ≡ some h → (hours_file h ≡ file) × LegalHours h
    go none l k = absurd (none-ne-some h k)
    go (some []) l k = absurd (none-ne-some h k)
    go (some (first ∷ ls)) l k = headed first ls l (same_all first heading) refl k

-- ---- seven days at most: each line's day is at least its place

from-day : (s : Span) (h : Hours) → AllSpans (s ∷ h) → Rising (s ∷ h) → s.day + length h ≤ 6
from-day s [] a r = omega (arith, a.0.0)
from-day s (t ∷ h) a r = omega (arith, r.0, from-day t h a.1 r.1)

pub seven : (h : Hours) → LegalHours h → length h ≤ 7
seven [] l = omega arith
seven (s ∷ h) l = omega (arith, from-day s h l.spans l.rises)

-- ---- moments

pub lets_in_lem : (h : Hours) (t : ℕ) → within h t ≡ true → Falls h t
lets_in_lem [] t e = absurd (true≢false (sym e))
lets_in_lem (s ∷ h) t e = go (in_span s t) refl e (lets_in_lem h t)
  where
    go : (b : Bool) → in_span s t ≡ b → (b || within h t) ≡ true → (within h t ≡ true → Falls h t) → Falls (s ∷ h) t
    go true q k n =
        let a = (and-eq-true_iff (eqb s.day (weekday (day_at t))) (leb s.opens (minute_at t) && ltb (minute_at t) s.closes)).0 q in
        let c = (and-eq-true_iff (leb s.opens (minute_at t)) (ltb (minute_at t) s.closes)).0 a.1 in
        record { before = []; span = s; behind = h; stands = refl; today = eqb-true _ _ a.0; from = leb-true s.opens (minute_at t) c.0; until = ltb-true (minute_at t) s.closes c.1 }
    go false q k n =
        let f = n k in
        record { before = s ∷ f.before; span = f.span; behind = f.behind; stands = ap (λ (l : Hours). s ∷ l) f.stands; today = f.today; from = f.from; until = f.until }

or-true : (b : Bool) → (b || true) ≡ true
or-true true = refl
or-true false = refl

span-in : (b a : Hours) (s : Span) (t : ℕ) → in_span s t ≡ true → within (b ++ s ∷ a) t ≡ true
span-in [] a s t e = ap (λ (x : Bool). x || within a t) e
span-in (r ∷ b) a s t e = ap (λ (x : Bool). in_span r t || x) (span-in b a s t e) ∙ or-true (in_span r t)

pub falls_in : (h : Hours) (t : ℕ) → Falls h t → within h t ≡ true
falls_in h t f =
    ap (λ (l : Hours). within l t) f.stands
    ∙ span-in f.before f.behind f.span t (rw (eq-eqb _ _ f.today, le-leb _ _ f.from, lt-ltb _ _ f.until))
