-- The file by its lines and the file by its places are the same. Assumes nothing.
use mathlib.Core.Bool.{Bool, true, false, not, ◌&&◌, and-eq-true_iff, and-false, true≢false}
use mathlib.Core.List.{List, [], ◌∷◌, ◌++◌, append_assoc}
use mathlib.Core.Logic.{◌⊎◌, inl, inr}
use mathlib.Core.Option.{Option, none, some}
use mathlib.Core.Path.{◌≡◌, refl, sym, ap, ap₂, ◌∙◌}
use Prim.Native.Nat.{ℕ, zero, suc, ◌+◌, ◌*◌, ◌≤◌, ◌<◌}
use native.Mathlib.Omega.{arith}
use borrow.Author.Tests.{leb-true, eqb-true, eq-eqb, ne_eqb, not-true}
use lib.Dec.{eqb, leb}
use lib.ListN.{length, drop, length-drop, drop_of_length-le}
use lib.Seq.{drop-drop}
use Rattle.protocol.specs.Bytes.{pick, same}
use Rattle.protocol.specs.Ids.{is_letter, are_letters, is_value}
use Rattle.protocol.proofs.Bytes.{same-eq}
use Rattle.protocol.proofs.Ids.{value-four}
use Rattle.text_lines.specs.Claim.{Every, Field}
use Rattle.text_lines.specs.Lines.{comma, line_end, joined_by, lines_of}
use Rattle.text_lines.proofs.Lines.{text-lines}
use Rattle.id_table.specs.IdsFile.{count, bad_form, equal_values, IdsRead, ids, refused, are_values, two_equal, checked, heading, same_all, two_lines, ids_in, file_with}
use Rattle.id_table.specs.Places.{groups, marked, line_size, file_size, formed}

-- ---- `checked`, by its tests

pub groups-length : (step n : ℕ) (s : List ℕ) → length (groups step n s) ≡ n
unfolding groups
groups-length step zero s = refl
groups-length step (suc n) s = ap suc (groups-length step n (drop step s))

module _ (vs : List (List ℕ)) where
  pub checked-bad : are_values vs ≡ false → checked vs ≡ refused bad_form
  unfolding checked
  checked-bad e = rw (e, and-false)

  checked-unformed : eqb (length vs) count && are_values vs ≡ false → checked vs ≡ refused bad_form
  unfolding checked
  checked-unformed e = rw e

  module _ (fifteen : length vs ≡ count) (values : are_values vs ≡ true) where
    pub checked-equal : two_equal vs ≡ true → checked vs ≡ refused equal_values
    unfolding checked
    checked-equal e = rw (eq-eqb _ _ fifteen, values, e)

    pub checked-good : two_equal vs ≡ false → checked vs ≡ ids vs
    unfolding checked
    checked-good e = rw (eq-eqb _ _ fifteen, values, e)

-- ---- values as fields

abbrev pub Fours : List (List ℕ) → Type 0
Fours vs = Every (λ (v : List ℕ). length v ≡ 4) vs

pub fours : (vs : List (List ℕ)) → are_values vs ≡ true → Fours vs
fours [] e = tt
fours (v ∷ vs) e = let b = (and-eq-true_iff (is_value v) (are_values vs)).0 e in (value-four v b.0, fours vs b.1)

-- a letter is neither a comma nor byte 10
other_byte : (x : ℕ) → is_letter x ≡ true → (eqb x comma ≡ false) × (eqb x line_end ≡ false)
other_byte x e =
    let b = (and-eq-true_iff (leb 33 x && leb x 126) (not (eqb x 44))).0 e in
    let low = leb-true 33 x ((and-eq-true_iff (leb 33 x) (leb x 126)).0 b.0).0 in
    (not-true (eqb x 44) b.1, ne_eqb x line_end (λ h. omega arith))

letters-field : (s : List ℕ) → are_letters s ≡ true → Field s
letters-field [] e = record { no_comma = refl; no_end = refl }
letters-field (x ∷ s) e =
    let b = (and-eq-true_iff (is_letter x) (are_letters s)).0 e in
    let o = other_byte x b.0 in
    let r = letters-field s b.1 in
    record { no_comma = rw o.0 r.no_comma; no_end = rw o.1 r.no_end }

value-field : (v : List ℕ) → is_value v ≡ true → Field v
value-field v e = letters-field v ((and-eq-true_iff (eqb (length v) 4) (are_letters v)).0 e).1

fields : (vs : List (List ℕ)) → are_values vs ≡ true → Every Field vs
fields [] e = tt
fields (v ∷ vs) e = let b = (and-eq-true_iff (is_value v) (are_values vs)).0 e in (value-field v b.0, fields vs b.1)

heading-values : are_values heading ≡ true
heading-values = refl

-- a file of fifteen values is read as its lines
pub lines-with : (vs : List (List ℕ)) → 0 < length vs → are_values vs ≡ true → lines_of (file_with vs) ≡ some (heading ∷ vs ∷ [])
lines-with vs h e =
    text-lines.back (heading ∷ vs ∷ [])
    (record { some = omega arith; fields = fields heading heading-values }, (record { some = h; fields = fields vs e }, tt))

pub read-with : (vs : List (List ℕ)) → length vs ≡ count → are_values vs ≡ true → ids_in (file_with vs) ≡ checked vs
unfolding ids_in
read-with vs n e = rw (lines-with vs (omega arith) e)

-- ---- a line by its places

-- what is behind n times five bytes
abbrev past : ℕ → List ℕ → List ℕ
past zero s = s
past (suc n) s = past n (drop 5 s)

past_line : (s : List ℕ) → past count s ≡ drop line_size s
past_line s = simp drop-drop

-- four bytes; five bytes and more
pub four : (P : List ℕ → Type 0) → ((a b c d : ℕ) → P (a ∷ b ∷ c ∷ d ∷ [])) → (v : List ℕ) → length v ≡ 4 → P v
four P f [] e = absurd (omega arith)
four P f (a ∷ []) e = absurd (omega arith)
four P f (a ∷ b ∷ []) e = absurd (omega arith)
four P f (a ∷ b ∷ c ∷ []) e = absurd (omega arith)
four P f (a ∷ b ∷ c ∷ d ∷ []) e = f a b c d
four P f (a ∷ b ∷ c ∷ d ∷ x ∷ v) e = absurd (omega arith)

five : (P : List ℕ → Type 0) → ((a b c d x : ℕ) (s : List ℕ) → P (a ∷ b ∷ c ∷ d ∷ x ∷ s)) → (s : List ℕ) → 5 ≤ length s → P s
five P f [] e = absurd (omega arith)
five P f (a ∷ []) e = absurd (omega arith)
five P f (a ∷ b ∷ []) e = absurd (omega arith)
five P f (a ∷ b ∷ c ∷ []) e = absurd (omega arith)
five P f (a ∷ b ∷ c ∷ d ∷ []) e = absurd (omega arith)
five P f (a ∷ b ∷ c ∷ d ∷ x ∷ s) e = f a b c d x s

-- fields of four bytes that were joined stand at those places
record Placed (vs : List (List ℕ)) (rest s : List ℕ) : Type 0 where
  pub fields : groups 5 (length vs) s ≡ vs
  pub marks : marked (length vs) s ≡ true
  pub behind : past (length vs) s ≡ rest
  pub size : length s ≡ 5 * length vs + length rest

placed-last : (v rest : List ℕ) → length v ≡ 4 → Placed (v ∷ []) rest (v ++ line_end ∷ rest)
unfolding groups marked
placed-last v rest =
    four (λ (u : List ℕ). Placed (u ∷ []) rest (u ++ line_end ∷ rest)) (λ a b c d. record { fields = refl; marks = refl; behind = refl; size = omega arith }) v

placed-next : (v w : List ℕ) (ws : List (List ℕ)) (rest s : List ℕ) → Placed (w ∷ ws) rest s → length v ≡ 4
    → Placed (v ∷ w ∷ ws) rest (v ++ comma ∷ s)
unfolding groups marked
placed-next v w ws rest s p =
    four (λ (u : List ℕ). Placed (u ∷ w ∷ ws) rest (u ++ comma ∷ s))
    (λ a b c d. record {
      fields = ap (λ (l : List (List ℕ)). (a ∷ b ∷ c ∷ d ∷ []) ∷ l) p.fields;
      marks = p.marks;
      behind = p.behind;
      size = omega (arith, p.size);
    })
    v

placed : (vs : List (List ℕ)) (rest : List ℕ) → 0 < length vs → Fours vs → Placed vs rest (joined_by comma vs ++ line_end ∷ rest)
placed [] rest h e = absurd (omega arith)
placed (v ∷ []) rest h e = placed-last v rest e.0
placed (v ∷ w ∷ ws) rest h e =
    rw (append_assoc v (comma ∷ joined_by comma (w ∷ ws)) (line_end ∷ rest))
    (placed-next v w ws rest (joined_by comma (w ∷ ws) ++ line_end ∷ rest) (placed (w ∷ ws) rest (omega arith) e.1) e.0)

-- bytes that have the marks are such a line
abbrev Lined : ℕ → List ℕ → Type 0
Lined n s = 5 * n ≤ length s → marked n s ≡ true → joined_by comma (groups 5 n s) ++ line_end ∷ past n s ≡ s

lined-last : (s : List ℕ) → 5 ≤ length s → Lined 1 s
unfolding groups marked
lined-last s = five (Lined 1) (λ a b c d x t h e. ap (λ (y : ℕ). a ∷ b ∷ c ∷ d ∷ y ∷ t) (sym (eqb-true x line_end e))) s

lined-next : (n : ℕ) → ((s : List ℕ) → Lined (suc n) s) → (s : List ℕ) → 5 ≤ length s → Lined (suc (suc n)) s
unfolding groups marked
lined-next n rest s =
    five (Lined (suc (suc n)))
    (λ a b c d x t h e.
    let p = (and-eq-true_iff (eqb x comma) (marked (suc n) t)).0 e in
    ap₂ (λ (y : ℕ) (u : List ℕ). a ∷ b ∷ c ∷ d ∷ y ∷ u) (sym (eqb-true x comma p.0)) (rest t (omega arith) p.1))
    s

lined : (n : ℕ) (s : List ℕ) → Lined (suc n) s
lined zero s h = lined-last s (omega arith) h
lined (suc n) s h = lined-next n (lined n) s (omega arith) h

-- ---- the two readings

module _ (vs : List (List ℕ)) (fifteen : length vs ≡ count) (values : are_values vs ≡ true) where
  second : Placed vs [] (joined_by comma vs ++ line_end ∷ [])
  second = placed vs [] (omega arith) (fours vs values)

  pub with-groups : groups 5 count (drop line_size (file_with vs)) ≡ vs
  with-groups = rw fifteen at second.fields

  pub with_size : length (file_with vs) ≡ file_size
  with_size = omega (arith, second.size)

  first_marks : marked count (file_with vs) ≡ true
  unfolding marked
  first_marks = refl

  first-groups : same_all (groups 5 count (file_with vs)) heading ≡ true
  unfolding groups
  first-groups = refl

  pub with-formed : formed (file_with vs) ≡ true
  unfolding formed
  with-formed = rw (eq-eqb _ _ with_size, first_marks, rw fifteen at second.marks, first-groups)

-- lists compared
same-all : (ps qs : List (List ℕ)) → same_all ps qs ≡ true → ps ≡ qs
same-all [] [] e = refl
same-all [] (q ∷ qs) e = absurd (true≢false (sym e))
same-all (p ∷ ps) [] e = absurd (true≢false (sym e))
same-all (p ∷ ps) (q ∷ qs) e =
    let b = (and-eq-true_iff (same p q) (same_all ps qs)).0 e in
    ap₂ (λ (x : List ℕ) (xs : List (List ℕ)). x ∷ xs) (same-eq p q b.0) (same-all ps qs b.1)

-- a file of that form: its size, its marks and its heading
record Formed (f : List ℕ) : Type 0 where
  pub size : length f ≡ file_size
  pub first : marked count f ≡ true
  pub second : marked count (drop line_size f) ≡ true
  pub names : groups 5 count f ≡ heading

has-formed : (f : List ℕ) → formed f ≡ true → Formed f
unfolding formed
has-formed f e =
    let a = (and-eq-true_iff (eqb (length f) file_size && marked count f && marked count (drop line_size f)) (same_all (groups 5 count f) heading)).0 e in
    let b = (and-eq-true_iff (eqb (length f) file_size && marked count f) (marked count (drop line_size f))).0 a.0 in
    let c = (and-eq-true_iff (eqb (length f) file_size) (marked count f)).0 b.0 in
    record { size = eqb-true (length f) file_size c.0; first = c.1; second = b.1; names = same-all (groups 5 count f) heading a.1 }

pub formed-size : (f : List ℕ) → formed f ≡ true → length f ≡ file_size
formed-size f e = (has-formed f e).size

-- ... is the file of what stands at the places of its values
pub formed-whole : (f : List ℕ) → formed f ≡ true → file_with (groups 5 count (drop line_size f)) ≡ f
formed-whole f e =
    let h = has-formed f e in
    let g = drop line_size f in
    let one : joined_by comma heading ++ line_end ∷ g ≡ f =
    ap₂ (λ (ps : List (List ℕ)) (r : List ℕ). joined_by comma ps ++ line_end ∷ r) (sym h.names) (sym (past_line f)) ∙ lined 14 f (omega (arith, h.size)) h.first in
    let end : past count g ≡ [] = past_line g ∙ drop_of_length-le g {i = line_size} (omega (arith, h.size, length-drop line_size f)) in
    let two : joined_by comma (groups 5 count g) ++ line_end ∷ [] ≡ g =
    ap (λ (r : List ℕ). joined_by comma (groups 5 count g) ++ line_end ∷ r) (sym end) ∙ lined 14 g (omega (arith, h.size, length-drop line_size f)) h.second in
    ap (λ (r : List ℕ). joined_by comma heading ++ line_end ∷ r) two ∙ one

-- what is read: another form, or the values of the second line
abbrev pub Reads : List ℕ → IdsRead → Type 0
Reads f r = (r ≡ refused bad_form) ⊎ ((vs : List (List ℕ)) × (lines_of f ≡ some (heading ∷ vs ∷ [])) × (r ≡ checked vs))

reads-named : (f : List ℕ) (first vs : List (List ℕ)) → lines_of f ≡ some (first ∷ vs ∷ [])
    → (t : Bool) → same_all first heading ≡ t → Reads f (pick t (checked vs) (refused bad_form))
reads-named f first vs e true h = inr (vs, rw (same-all first heading h) at e, refl)
reads-named f first vs e false h = inl refl

reads_lines : (f : List ℕ) (o : Option (List (List (List ℕ)))) → lines_of f ≡ o → Reads f (two_lines o)
reads_lines f none e = inl refl
reads_lines f (some []) e = inl refl
reads_lines f (some (first ∷ [])) e = inl refl
reads_lines f (some (first ∷ vs ∷ [])) e = reads-named f first vs e (same_all first heading) refl
reads_lines f (some (first ∷ vs ∷ l ∷ ls)) e = inl refl

pub reads : (f : List ℕ) → Reads f (ids_in f)
unfolding ids_in
reads f = reads_lines f (lines_of f) refl

-- by its places
abbrev pub places_of : List ℕ → IdsRead
places_of f = pick (formed f) (checked (groups 5 count (drop line_size f))) (refused bad_form)

-- ... where another form was read
bad-places : (f : List ℕ) → ids_in f ≡ refused bad_form → ids_in f ≡ places_of f
bad-places f e = go (formed f) refl (are_values (groups 5 count (drop line_size f))) refl
  where
    go : (t : Bool) → formed f ≡ t → (u : Bool) → are_values (groups 5 count (drop line_size f)) ≡ u
        → ids_in f ≡ pick t (checked (groups 5 count (drop line_size f))) (refused bad_form)
    go true h true k =
        ap ids_in (sym (formed-whole f h)) ∙ read-with (groups 5 count (drop line_size f)) (groups-length 5 count (drop line_size f)) k
    go true h false k = e ∙ sym (checked-bad (groups 5 count (drop line_size f)) k)
    go false h u k = e

-- ... and where values were
good-places : (f : List ℕ) (vs : List (List ℕ)) → file_with vs ≡ f → ids_in f ≡ checked vs → ids_in f ≡ places_of f
good-places f vs w e = go (eqb (length vs) count && are_values vs) refl
  where
    go : (t : Bool) → eqb (length vs) count && are_values vs ≡ t → ids_in f ≡ places_of f
    go true h =
        let b = (and-eq-true_iff (eqb (length vs) count) (are_values vs)).0 h in
        let n = eqb-true (length vs) count b.0 in
        e ∙ sym (ap places_of (sym w) ∙ rw (with-formed vs n b.1, with-groups vs n b.1))
    go false h = bad-places f (e ∙ checked-unformed vs h)

pub read-places : (f : List ℕ) → ids_in f ≡ places_of f
read-places f = go (reads f)
  where
    go : Reads f (ids_in f) → ids_in f ≡ places_of f
    go (inl e) = bad-places f e
    go (inr (vs, e, r)) = good-places f vs (text-lines.whole f (heading ∷ vs ∷ []) e) r
