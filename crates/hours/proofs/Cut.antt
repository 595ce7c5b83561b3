-- A text cut at the first of its bytes 10, and a line at its commas. Assumes nothing.
use Prim.Native.Nat.{ℕ, suc, ◌+◌, ◌-◌, ◌≤◌, ◌<◌}
use mathlib.Core.Bool.{Bool, true, false, ◌&&◌, true≢false}
use mathlib.Core.List.{List, [], ◌∷◌}
use mathlib.Core.Option.{Option, none, some}
use mathlib.Core.Path.{◌≡◌, refl, sym, ap, ap₂, ◌∙◌}
use native.Mathlib.Decide.{ℕ_discrete}
use native.Mathlib.Numerals.{add-one}
use native.Mathlib.Omega.{arith}
use borrow.Author.Tests.{ltb-true, ltb-false}
use lib.Dec.{eqb, ltb}
use Rattle.std.specs.Prelude.{cond, position, Some, None, IfSome, Option as Optional}
use Rattle.std.specs.List.{position_or_len}
use Rattle.std.specs.Cmp.Lexicographic.{pointwise}
use Rattle.std.proofs.lemmas.List.Recursion.{is_position_or_len}
use lib.ListN.{length, take, drop}
use Rattle.protocol.specs.Bytes.{pick, has, same}
use Rattle.protocol.specs.Decimal.{canonical}
use Rattle.protocol.proofs.Bytes.{end_whole}
use Rattle.protocol.proofs.Decimal.{decimal-canonical, decimal-has_not}
use Rattle.text_lines.specs.Lines.{comma, line_end, in_front, cut_at, and_line, ended, lines_of}
use Rattle.hours.specs.File.{numbered, span_in}
use Rattle.hours.specs.Scan.{before, before_of}

-- ---- the first b from i on

before-place : (b : ℕ) (s : List ℕ) → before b s ≡ position_or_len (λ x. eqb x b) s
unfolding before
before-place b s = is_position_or_len (before b) (λ x. eqb x b) refl (λ x l. step (eqb x b) (before b l)) s
  where
    step : (t : Bool) (n : ℕ) → pick t 0 (suc n) ≡ cond t 0 (1 + n)
    step true n = refl
    step false n = omega arith

before-most : (b : ℕ) (s : List ℕ) → before b s ≤ length s
unfolding before
before-most b [] = omega arith
before-most b (x ∷ s) = go (eqb x b) (before-most b s)
  where
    go : (t : Bool) → before b s ≤ length s → pick t 0 (suc (before b s)) ≤ suc (length s)
    go true h = omega arith
    go false h = omega arith

found : (b : ℕ) (s : List ℕ) → (before_of (length s) (position (λ x. eqb x b) s) ≡ before b s) × IfSome (position (λ x. eqb x b) s) (λ i. i < length s)
found b s = go (ltb (position_or_len (λ x. eqb x b) s) (length s)) refl
  where
    go : (t : Bool) → ltb (position_or_len (λ x. eqb x b) s) (length s) ≡ t
        → (before_of (length s) (cond t (Some (position_or_len (λ x. eqb x b) s)) None) ≡ before b s) × IfSome (cond t (Some (position_or_len (λ x. eqb x b) s)) None) (λ i. i < length s)
    go true h = (sym (before-place b s), ltb-true _ _ h)
    go false h = (omega (arith, before-place b s, before-most b s, ltb-false _ _ h), tt)

-- where a search found the first b, or found none
module _ (b : ℕ) (s : List ℕ) {o : Optional ℕ} (e : o ≡ position (λ x. eqb x b) s) where
  pub found_at : (i : ℕ) → o ≡ Some i → (i ≡ before b s) × (i < length s)
  found_at i f =
      let at : position (λ x. eqb x b) s ≡ Some i = sym e ∙ f in
      let h = rw at at (found b s) in
      (h.0, h.1)

  pub found_none : o ≡ None → length s ≡ before b s
  found_none f =
      let at : position (λ x. eqb x b) s ≡ None = sym e ∙ f in
      (rw at at (found b s)).0

-- ---- a text is cut there

pub cut-there : (b : ℕ) (s : List ℕ) → before b s < length s → cut_at b s ≡ take (before b s) s ∷ cut_at b (drop (suc (before b s)) s)
unfolding before
cut-there b [] h = absurd (omega arith)
cut-there b (x ∷ s) h = go (eqb x b) h (cut-there b s)
  where
    go : (t : Bool) → pick t 0 (suc (before b s)) < suc (length s) → (before b s < length s → cut_at b s ≡ take (before b s) s ∷ cut_at b (drop (suc (before b s)) s))
        → in_front t x (cut_at b s) ≡ take (pick t 0 (suc (before b s))) (x ∷ s) ∷ cut_at b (drop (pick t 0 (suc (before b s))) s)
    go true k rest = refl
    go false k rest = rw (rest (omega arith))

pub cut-nowhere : (b : ℕ) (s : List ℕ) → length s ≤ before b s → cut_at b s ≡ s ∷ []
unfolding before
cut-nowhere b [] h = refl
cut-nowhere b (x ∷ s) h = go (eqb x b) h (cut-nowhere b s)
  where
    go : (t : Bool) → suc (length s) ≤ pick t 0 (suc (before b s)) → (length s ≤ before b s → cut_at b s ≡ s ∷ [])
        → in_front t x (cut_at b s) ≡ (x ∷ s) ∷ []
    go true k rest = absurd (omega arith)
    go false k rest = rw (rest (omega arith))

before-has : (b : ℕ) (s : List ℕ) → before b s < length s → has b s ≡ true
unfolding before
before-has b [] h = absurd (omega arith)
before-has b (x ∷ s) h = go (eqb x b) h (before-has b s)
  where
    go : (t : Bool) → pick t 0 (suc (before b s)) < suc (length s) → (before b s < length s → has b s ≡ true) → pick t true (has b s) ≡ true
    go true k rest = refl
    go false k rest = rest (omega arith)

-- there is always a piece
front-some : (t : Bool) (x : ℕ) (ps : List (List ℕ)) → 0 < length (in_front t x ps)
front-some true x ps = omega arith
front-some false x [] = omega arith
front-some false x (p ∷ ps) = omega arith

cut-some : (b : ℕ) (s : List ℕ) → 0 < length (cut_at b s)
cut-some b [] = omega arith
cut-some b (x ∷ s) = front-some (eqb x b) x (cut_at b s)

-- ---- the first line, and the rest

ended-more : (p : List ℕ) (qs : List (List ℕ)) → 0 < length qs → ended (p ∷ qs) ≡ and_line (cut_at comma p) (ended qs)
ended-more p [] h = absurd (omega arith)
ended-more [] (q ∷ qs) h = refl
ended-more (x ∷ p) (q ∷ qs) h = refl

pub lines_cut : (p s rest : List ℕ) → cut_at line_end s ≡ p ∷ cut_at line_end rest → lines_of s ≡ and_line (cut_at comma p) (lines_of rest)
unfolding lines_of
lines_cut p s rest e = ap ended e ∙ ended-more p (cut_at line_end rest) (cut-some line_end rest)

pub lines_next : (s : List ℕ) → before line_end s < length s
    → lines_of s ≡ and_line (cut_at comma (take (before line_end s) s)) (lines_of (drop (suc (before line_end s)) s))
lines_next s h = lines_cut (take (before line_end s) s) s (drop (suc (before line_end s)) s) (cut-there line_end s h)

pub lines-open : (s : List ℕ) → 0 < length s → length s ≤ before line_end s → lines_of s ≡ none
unfolding lines_of
lines-open [] h k = absurd (omega arith)
lines-open (x ∷ s) h k = ap ended (cut-nowhere line_end (x ∷ s) k)

-- ---- a line's fields

pub one_field : (l : List ℕ) → length l ≤ before comma l → span_in (cut_at comma l) ≡ none
one_field l h = ap span_in (cut-nowhere comma l h)

pub two_fields : (l r : List ℕ) → before comma l < length l → r ≡ drop (suc (before comma l)) l → length r ≤ before comma r → span_in (cut_at comma l) ≡ none
two_fields l r h e k = rw (cut-there comma l h, ← e, cut-nowhere comma r k)

numbered-none : (x y : Option ℕ) → numbered x y none ≡ none
numbered-none none y = refl
numbered-none (some x) none = refl
numbered-none (some x) (some y) = refl

-- a field with a comma in it is no number
comma-none : (f : List ℕ) → before comma f < length f → canonical f ≡ none
comma-none f h = go (canonical f) refl
  where
    go : (o : Option ℕ) → canonical f ≡ o → o ≡ none
    go none e = refl
    go (some n) e = absurd (true≢false (sym (before-has comma f h) ∙ ap (has comma) (decimal-canonical f n e).0 ∙ decimal-has_not comma n refl))

four-fields : (a b c : List ℕ) (ps : List (List ℕ)) → 0 < length ps → span_in (a ∷ b ∷ c ∷ ps) ≡ none
four-fields a b c [] h = absurd (omega arith)
four-fields a b c (p ∷ ps) h = refl

last-field : (a b f : List ℕ) → before comma f ≤ length f → span_in (a ∷ b ∷ cut_at comma f) ≡ numbered (canonical a) (canonical b) (canonical f)
last-field a b f h = go (ℕ_discrete (before comma f) (length f))
  where
    go : Dec (before comma f ≡ length f) → span_in (a ∷ b ∷ cut_at comma f) ≡ numbered (canonical a) (canonical b) (canonical f)
    go (yes e) = rw (cut-nowhere comma f (omega arith))
    go (no n) =
        let l : before comma f < length f = omega arith in
        let rest = drop (suc (before comma f)) f in
        rw (cut-there comma f l, comma-none f l, numbered-none)
        (four-fields a b (take (before comma f) f) (cut_at comma rest) (cut-some comma rest))

before-within : (b : ℕ) (s : List ℕ) → before b s ≤ length s
unfolding before
before-within b [] = omega arith
before-within b (x ∷ s) = go (eqb x b) (before-within b s)
  where
    go : (t : Bool) → before b s ≤ length s → pick t 0 (suc (before b s)) ≤ suc (length s)
    go true h = omega arith
    go false h = omega arith

pub three-fields : (l r : List ℕ) → before comma l < length l → r ≡ drop (suc (before comma l)) l → before comma r < length r
    → span_in (cut_at comma l) ≡ numbered (canonical (take (before comma l) l)) (canonical (take (before comma r) r)) (canonical (drop (suc (before comma r)) r))
three-fields l r h e k =
    let f = drop (suc (before comma r)) r in
    rw (cut-there comma l h, ← e, cut-there comma r k) (last-field (take (before comma l) l) (take (before comma r) r) f (before-within comma f))

-- the same by the places where the commas stand, and by the parts of the slice
abbrev pub past : List ℕ → ℕ → List ℕ
past l i = take (length l - (i + 1)) (drop (i + 1) l)

past_drop : (l : List ℕ) (i : ℕ) → i < length l → past l i ≡ drop (suc i) l
past_drop l i h = end_whole l (i + 1) (omega arith) ∙ ap (λ (j : ℕ). drop j l) (add-one i)

pub second_none : (l : List ℕ) (i j : ℕ) → i ≡ before comma l → i < length l → j ≡ before comma (past l i) → length (past l i) ≤ j
    → span_in (cut_at comma l) ≡ none
second_none l i j e h f k =
    let r : past l i ≡ drop (suc (before comma l)) l = past_drop l i h ∙ ap (λ (n : ℕ). drop (suc n) l) e in
    two_fields l (past l i) (omega arith) r (omega arith)

pub all_three : (l : List ℕ) (i j : ℕ) → i ≡ before comma l → i < length l → j ≡ before comma (past l i) → j < length (past l i)
    → span_in (cut_at comma l) ≡ numbered (canonical (take i l)) (canonical (take j (past l i))) (canonical (past (past l i) j))
all_three l i j e h f k =
    let r : past l i ≡ drop (suc (before comma l)) l = past_drop l i h ∙ ap (λ (n : ℕ). drop (suc n) l) e in
    let last : past (past l i) j ≡ drop (suc (before comma (past l i))) (past l i) = past_drop (past l i) j k ∙ ap (λ (n : ℕ). drop (suc n) (past l i)) f in
    three-fields l (past l i) (omega arith) r (omega arith)
    ∙ ap₂ (λ (x y : List ℕ). numbered (canonical x) (canonical y) (canonical (drop (suc (before comma (past l i))) (past l i))))
    (ap (λ (n : ℕ). take n l) (sym e)) (ap (λ (n : ℕ). take n (past l i)) (sym f))
    ∙ ap (λ (x : List ℕ). numbered (canonical (take i l)) (canonical (take j (past l i))) (canonical x)) (sym last)

-- ---- a text that begins with another

pub same-pointwise : (s t : List ℕ) → pointwise eqb s t ≡ same s t
same-pointwise [] [] = refl
same-pointwise [] (y ∷ t) = refl
same-pointwise (x ∷ s) [] = refl
same-pointwise (x ∷ s) (y ∷ t) = ap (λ b. eqb x y && b) (same-pointwise s t)
