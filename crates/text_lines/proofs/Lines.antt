-- The laws of `specs/Claim.antt`: pieces joined and cut, then lines. Assumes nothing.
use Prim.Native.Nat.{ℕ, ◌<◌}
use mathlib.Core.Bool.{Bool, true, false, true≢false}
use mathlib.Core.List.{List, [], ◌∷◌, ◌++◌}
use mathlib.Core.Option.{Option, none, some, none-ne-some, some-injective}
use mathlib.Core.Path.{◌≡◌, refl, sym, ap, ◌∙◌, subst}
use native.Mathlib.Omega.{arith}
use borrow.Author.Tests.{eqb-true, eq-eqb, ne_eqb}
use lib.Dec.{eqb}
use lib.ListN.{length}
use Rattle.protocol.specs.Bytes.{pick, has}
use Rattle.protocol.proofs.Bytes.{has-append}
use Rattle.text_lines.specs.Lines.{comma, line_end, joined_by, file_of, in_front, cut_at, and_line, ended, lines_of}
use Rattle.text_lines.specs.Claim.{Every, Field, Line, TextLines}

-- pieces without a byte
abbrev pub Without : ℕ → List ℕ → Type 0
Without b p = has b p ≡ false

-- a piece, and what follows its cut; the last piece
cut-piece : (b : ℕ) (p s : List ℕ) → Without b p → cut_at b (p ++ b ∷ s) ≡ p ∷ cut_at b s
cut-piece b [] s e = rw (eq-eqb b b refl)
cut-piece b (x ∷ p) s e = go (cut-piece b p s) (eqb x b) e
  where
    go : (Without b p → cut_at b (p ++ b ∷ s) ≡ p ∷ cut_at b s) → (t : Bool) → pick t true (has b p) ≡ false
        → in_front t x (cut_at b (p ++ b ∷ s)) ≡ (x ∷ p) ∷ cut_at b s
    go rest true f = absurd (true≢false f)
    go rest false f = rw (rest f)

cut-last : (b : ℕ) (p : List ℕ) → Without b p → cut_at b p ≡ p ∷ []
cut-last b [] e = refl
cut-last b (x ∷ p) e = go (cut-last b p) (eqb x b) e
  where
    go : (Without b p → cut_at b p ≡ p ∷ []) → (t : Bool) → pick t true (has b p) ≡ false → in_front t x (cut_at b p) ≡ (x ∷ p) ∷ []
    go rest true f = absurd (true≢false f)
    go rest false f = rw (rest f)

-- pieces that were joined are cut again
cut-joined : (b : ℕ) (ps : List (List ℕ)) → 0 < length ps → Every (Without b) ps → cut_at b (joined_by b ps) ≡ ps
cut-joined b [] h e = absurd (omega arith)
cut-joined b (p ∷ []) h e = cut-last b p e.0
cut-joined b (p ∷ q ∷ ps) h e =
    cut-piece b p (joined_by b (q ∷ ps)) e.0 ∙ ap (λ (l : List (List ℕ)). p ∷ l) (cut-joined b (q ∷ ps) (omega arith) e.1)

-- there is always a piece
front-some : (t : Bool) (x : ℕ) (ps : List (List ℕ)) → 0 < length (in_front t x ps)
front-some true x ps = omega arith
front-some false x [] = omega arith
front-some false x (p ∷ ps) = omega arith

cut-some : (b : ℕ) (s : List ℕ) → 0 < length (cut_at b s)
cut-some b [] = omega arith
cut-some b (x ∷ s) = front-some (eqb x b) x (cut_at b s)

-- pieces that were cut are joined again
join-nil : (b : ℕ) (ps : List (List ℕ)) → 0 < length ps → joined_by b ([] ∷ ps) ≡ b ∷ joined_by b ps
join-nil b [] h = absurd (omega arith)
join-nil b (p ∷ ps) h = refl

join_front : (b x : ℕ) (p : List ℕ) (ps : List (List ℕ)) → joined_by b ((x ∷ p) ∷ ps) ≡ x ∷ joined_by b (p ∷ ps)
join_front b x p [] = refl
join_front b x p (q ∷ ps) = refl

front-joined : (b x : ℕ) (ps : List (List ℕ)) → 0 < length ps → joined_by b (in_front (eqb x b) x ps) ≡ x ∷ joined_by b ps
front-joined b x ps h = go (eqb x b) refl ps h
  where
    go : (t : Bool) → eqb x b ≡ t → (qs : List (List ℕ)) → 0 < length qs → joined_by b (in_front t x qs) ≡ x ∷ joined_by b qs
    go true e qs k = join-nil b qs k ∙ ap (λ (y : ℕ). y ∷ joined_by b qs) (sym (eqb-true x b e))
    go false e [] k = absurd (omega arith)
    go false e (p ∷ qs) k = join_front b x p qs

joined-cut : (b : ℕ) (s : List ℕ) → joined_by b (cut_at b s) ≡ s
joined-cut b [] = refl
joined-cut b (x ∷ s) = front-joined b x (cut_at b s) (cut-some b s) ∙ ap (λ (l : List ℕ). x ∷ l) (joined-cut b s)

-- no piece has the byte of the cuts, nor one that the text does not have
front-without : (c x : ℕ) (t : Bool) (ps : List (List ℕ)) → (t ≡ false → eqb x c ≡ false) → Every (Without c) ps → Every (Without c) (in_front t x ps)
front-without c x true ps f e = (refl, e)
front-without c x false [] f e = (rw (f refl), tt)
front-without c x false (p ∷ ps) f e = (rw (f refl, e.0), e.1)

cut-without : (b : ℕ) (s : List ℕ) → Every (Without b) (cut_at b s)
cut-without b [] = (refl, tt)
cut-without b (x ∷ s) = front-without b x (eqb x b) (cut_at b s) (λ h. h) (cut-without b s)

has_other : (c x : ℕ) (s : List ℕ) → has c (x ∷ s) ≡ false → (eqb x c ≡ false) × (has c s ≡ false)
has_other c x s e = go (eqb x c) refl e
  where
    go : (t : Bool) → eqb x c ≡ t → pick t true (has c s) ≡ false → (eqb x c ≡ false) × (has c s ≡ false)
    go true h f = absurd (true≢false f)
    go false h f = (h, f)

cut_keeps : (b c : ℕ) (s : List ℕ) → Without c s → Every (Without c) (cut_at b s)
cut_keeps b c [] e = (refl, tt)
cut_keeps b c (x ∷ s) e =
    let o = has_other c x s e in
    front-without c x (eqb x b) (cut_at b s) (λ h. o.0) (cut_keeps b c s o.1)

-- fields are two such conditions
fields-of : (fs : List (List ℕ)) → Every (Without comma) fs → Every (Without line_end) fs → Every Field fs
fields-of [] c e = tt
fields-of (f ∷ fs) c e = (record { no_comma = c.0; no_end = e.0 }, fields-of fs c.1 e.1)

no-commas : (fs : List (List ℕ)) → Every Field fs → Every (Without comma) fs
no-commas [] e = tt
no-commas (f ∷ fs) e = (e.0.no_comma, no-commas fs e.1)

-- a line has no byte 10
joined-without : (fs : List (List ℕ)) → Every Field fs → Without line_end (joined_by comma fs)
joined-without [] e = refl
joined-without (f ∷ []) e = e.0.no_end
joined-without (f ∷ g ∷ fs) e =
    rw (has-append line_end f (comma ∷ joined_by comma (g ∷ fs)), e.0.no_end) (joined-without (g ∷ fs) e.1)

-- a piece in front of others is a line
ended-more : (p : List ℕ) (qs : List (List ℕ)) → 0 < length qs → ended (p ∷ qs) ≡ and_line (cut_at comma p) (ended qs)
ended-more p [] h = absurd (omega arith)
ended-more [] (q ∷ qs) h = refl
ended-more (x ∷ p) (q ∷ qs) h = refl

back : (ls : List (List (List ℕ))) → Every Line ls → ended (cut_at line_end (file_of ls)) ≡ some ls
back [] e = refl
back (l ∷ ls) e =
    let rest = file_of ls in
    ap ended (cut-piece line_end (joined_by comma l) rest (joined-without l e.0.fields))
    ∙ ended-more (joined_by comma l) (cut_at line_end rest) (cut-some line_end rest)
    ∙ rw (cut-joined comma l e.0.some (no-commas l e.0.fields), back ls e.1)

-- what was read: the file of its lines, and they are lines
abbrev Read : List (List ℕ) → List (List (List ℕ)) → Type 0
Read ps ls = (file_of ls ≡ joined_by line_end ps) × Every Line ls

line_read : (p : List ℕ) (qs : List (List ℕ)) → Without line_end p → 0 < length qs
    → (o : Option (List (List (List ℕ)))) → ((ms : List (List (List ℕ))) → o ≡ some ms → Read qs ms)
    → (ls : List (List (List ℕ))) → and_line (cut_at comma p) o ≡ some ls → Read (p ∷ qs) ls
line_read p qs w h none f ls e = absurd (none-ne-some ls e)
line_read p [] w h (some ms) f ls e = absurd (omega arith)
line_read p (q ∷ qs) w h (some ms) f ls e =
    let r = f ms refl in
    let l : Line (cut_at comma p) =
    record { some = cut-some comma p; fields = fields-of (cut_at comma p) (cut-without comma p) (cut_keeps comma line_end p w) } in
    let g = some-injective (cut_at comma p ∷ ms) ls e in
    subst (λ (k : List (List (List ℕ))). Read (p ∷ q ∷ qs) k) g (rw (joined-cut comma p, r.0) refl, (l, r.1))

read : (ps : List (List ℕ)) → Every (Without line_end) ps → (ls : List (List (List ℕ))) → ended ps ≡ some ls → Read ps ls
read [] w ls e = absurd (none-ne-some ls e)
read ([] ∷ []) w ls e = subst (λ (k : List (List (List ℕ))). Read ([] ∷ []) k) (some-injective [] ls e) (refl, tt)
read ((x ∷ p) ∷ []) w ls e = absurd (none-ne-some ls e)
read (p ∷ q ∷ ps) w ls e = line_read p (q ∷ ps) w.0 (omega arith) (ended (q ∷ ps)) (read (q ∷ ps) w.1) ls (sym (ended-more p (q ∷ ps) (omega arith)) ∙ e)

-- the last byte is not 10
none-front : (t : Bool) (x : ℕ) (ps : List (List ℕ)) → 0 < length ps → ended ps ≡ none → ended (in_front t x ps) ≡ none
none-front true x ps h e = ended-more [] ps h ∙ rw e
none-front false x [] h e = absurd (omega arith)
none-front false x (p ∷ []) h e = refl
none-front false x (p ∷ q ∷ ps) h e = go (ended (q ∷ ps)) (sym (ended-more p (q ∷ ps) (omega arith)) ∙ e)
  where
    go : (o : Option (List (List (List ℕ)))) → and_line (cut_at comma p) o ≡ none → and_line (cut_at comma (x ∷ p)) o ≡ none
    go none f = refl
    go (some ls) f = absurd (none-ne-some (cut_at comma p ∷ ls) (sym f))

unended : (s : List ℕ) (b : ℕ) → (b ≡ line_end → ⊥) → ended (cut_at line_end (s ++ b ∷ [])) ≡ none
unended [] b f = rw (ne_eqb b line_end f)
unended (x ∷ s) b f = none-front (eqb x line_end) x (cut_at line_end (s ++ b ∷ [])) (cut-some line_end (s ++ b ∷ [])) (unended s b f)

-- ... and where it is: two pieces or more, of which the last is empty
abbrev Found : List (List ℕ) → Type 0
Found ps = (1 < length ps) × ((ls : List (List (List ℕ))) × (ended ps ≡ some ls))

found_front : (t : Bool) (x : ℕ) (ps : List (List ℕ)) → Found ps → Found (in_front t x ps)
found_front true x ps e = (omega arith, (cut_at comma [] ∷ e.1.0, ended-more [] ps (omega arith) ∙ rw e.1.1))
found_front false x [] e = absurd (omega arith)
found_front false x (p ∷ []) e = absurd (omega arith)
found_front false x (p ∷ q ∷ ps) e = (omega arith, go (ended (q ∷ ps)) (sym (ended-more p (q ∷ ps) (omega arith)) ∙ e.1.1))
  where
    go : (o : Option (List (List (List ℕ)))) → and_line (cut_at comma p) o ≡ some e.1.0 → (ls : List (List (List ℕ))) × (and_line (cut_at comma (x ∷ p)) o ≡ some ls)
    go none f = absurd (none-ne-some e.1.0 f)
    go (some ls) f = (cut_at comma (x ∷ p) ∷ ls, refl)

found : (s : List ℕ) → Found (cut_at line_end (s ++ line_end ∷ []))
found [] = (omega arith, (([] ∷ []) ∷ [], refl))
found (x ∷ s) = found_front (eqb x line_end) x (cut_at line_end (s ++ line_end ∷ [])) (found s)

pub text-lines : TextLines
unfolding lines_of
text-lines =
    record {
      back = back;
      whole = λ f ls e. (read (cut_at line_end f) (cut-without line_end f) ls e).0 ∙ joined-cut line_end f;
      lines = λ f ls e. (read (cut_at line_end f) (cut-without line_end f) ls e).1;
      empty = refl;
      ended = λ s. (found s).1;
      unended = unended;
    }
