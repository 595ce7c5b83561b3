-- The promises of `specs/Claim.antt` hold. Assumes nothing.
use mathlib.Core.Bool.{Bool, true, false, ◌&&◌, ◌||◌, and-eq-true_iff, true≢false}
use mathlib.Core.List.{List, [], ◌∷◌, ◌++◌, map}
use mathlib.Core.Logic.{◌⊎◌, inl, inr}
use mathlib.Core.Path.{◌≡◌, refl, sym, ap, ap₂, ◌∙◌, subst, fun_ext}
use Prim.Native.Nat.{ℕ, zero, suc, ◌+◌, ◌*◌, ◌<◌}
use native.Mathlib.Omega.{arith}
use borrow.Author.Tests.{eqb-true, eq-eqb, ne_eqb}
use lib.Dec.{eqb, lit<}
use lib.ListN.{length, get_or, drop, replicate, length-append, drop_of_length-le}
use lib.Seq.{drop-cons, drop_at}
use Rattle.protocol.specs.Bytes.{pick, same, over}
use Rattle.protocol.specs.Features.{some_is}
use Rattle.protocol.specs.Ids.{Id, STAT, STA2, LIST, LIS2, SEND, SND2, RECV, RCV2, DATA, DONE, OKAY, FAIL, DENT, DNT2, QUIT, all, letters, Table, under, Apart, is_value, Legal}
use Rattle.protocol.specs.Messages.{joined}
use Rattle.protocol.proofs.Bytes.{same_refl, same-eq, over-length}
use Rattle.protocol.proofs.Ids.{published-legal}
use Rattle.ids.specs.declared.Ids.{Ids}
use Rattle.ids.specs.Ids.{dialect_of, ids_of}
use Rattle.ids.proofs.Laws.{dialect-back}
use Rattle.text_lines.proofs.Lines.{text-lines}
use Rattle.id_table.specs.Claim.{FileOf, TwoEqual, LentTable, IdTables}
use Rattle.id_table.specs.IdsFile.{count, bad_form, equal_values, IdsRead, ids, refused, are_values, two_equal, checked, heading, ids_in, file_with, ids_file}
use Rattle.id_table.specs.Places.{groups, file_size, fault_of}
use Rattle.id_table.specs.Settings.{settings_size, table_size, room_size, misplaced, place, table_from, table_in, settings_of, taken, loaded, lent, lent_in}
use Rattle.id_table.specs.Lent as L
use Rattle.id_table.proofs.Form.{checked-bad, checked-equal, checked-good, Fours, fours, four, read-with, with_size, Reads, reads}
use Rattle.id_table.proofs.Tables.{in_groups}

-- ---- the places of the ids

places : (i : Id) → (place i < count) × (get_or all (place i) STAT ≡ i)
places =
    elim [
      | STAT ↦ (lit< tt, refl)
      | STA2 ↦ (lit< tt, refl)
      | LIST ↦ (lit< tt, refl)
      | LIS2 ↦ (lit< tt, refl)
      | SEND ↦ (lit< tt, refl)
      | SND2 ↦ (lit< tt, refl)
      | RECV ↦ (lit< tt, refl)
      | RCV2 ↦ (lit< tt, refl)
      | DATA ↦ (lit< tt, refl)
      | DONE ↦ (lit< tt, refl)
      | OKAY ↦ (lit< tt, refl)
      | FAIL ↦ (lit< tt, refl)
      | DENT ↦ (lit< tt, refl)
      | DNT2 ↦ (lit< tt, refl)
      | QUIT ↦ (lit< tt, refl)
    ]

same_place : (i j : Id) → place i ≡ place j → i ≡ j
same_place i j e = sym (places i).1 ∙ ap (λ (k : ℕ). get_or all k STAT) e ∙ (places j).1

-- a table's values, from the table and back
at_map : (t : Table) (is : List Id) (k : ℕ) → k < length is → get_or (map t is) k [] ≡ t (get_or is k STAT)
at_map t [] k h = absurd (omega arith)
at_map t (i ∷ is) zero h = refl
at_map t (i ∷ is) (suc k) h = at_map t is k (omega arith)

pub from-map : (t : Table) → table_from (map t all) ≡ t
from-map t = fun_ext (λ i. at_map t all (place i) (places i).0 ∙ ap t (places i).1)

abbrev picks : (n k : ℕ) → List (List ℕ) → List (List ℕ)
picks zero k vs = []
picks (suc n) k vs = get_or vs k [] ∷ picks n (suc k) vs

picks_all : (n k : ℕ) (vs : List (List ℕ)) → length vs ≡ k + n → picks n k vs ≡ drop k vs
picks_all zero k vs e = sym (drop_of_length-le vs {i = k} (omega arith))
picks_all (suc n) k vs e =
    ap (λ (l : List (List ℕ)). get_or vs k [] ∷ l) (picks_all n (suc k) vs (omega arith)) ∙ sym (drop-cons vs k [] (omega arith))

pub map-from : (vs : List (List ℕ)) → length vs ≡ count → map (table_from vs) all ≡ vs
map-from vs e = picks_all count 0 vs (omega arith)

-- ---- the values that `checked` accepts are those of the tables that loading accepts

pub record Accepted (vs : List (List ℕ)) : Type 0 where
  pub fifteen : length vs ≡ count
  pub values : are_values vs ≡ true
  pub apart : two_equal vs ≡ false

accepted : (vs : List (List ℕ)) → Accepted vs → checked vs ≡ ids vs
accepted vs a = checked-good vs a.fifteen a.values a.apart

-- what `checked` says, and when
data Said (vs : List (List ℕ)) : IdsRead → Type 0 where
  good : Accepted vs → Said vs (ids vs)
  equal : length vs ≡ count → are_values vs ≡ true → two_equal vs ≡ true → Said vs (refused equal_values)
  bad : Said vs (refused bad_form)

said : (vs : List (List ℕ)) → Said vs (checked vs)
unfolding checked
said vs = go (eqb (length vs) count && are_values vs) refl (two_equal vs) refl
  where
    go : (t : Bool) → eqb (length vs) count && are_values vs ≡ t → (u : Bool) → two_equal vs ≡ u
        → Said vs (pick t (pick u (refused equal_values) (ids vs)) (refused bad_form))
    go true h true k =
        let b = (and-eq-true_iff (eqb (length vs) count) (are_values vs)).0 h in
        equal (eqb-true (length vs) count b.0) b.1 k
    go true h false k =
        let b = (and-eq-true_iff (eqb (length vs) count) (are_values vs)).0 h in
        good (record { fifteen = eqb-true (length vs) count b.0; values = b.1; apart = k })
    go false h u k = bad

-- the values of a table
map-values : (t : Table) → ((i : Id) → is_value (t i) ≡ true) → (is : List Id) → are_values (map t is) ≡ true
map-values t v [] = refl
map-values t v (i ∷ is) = rw (v i, map-values t v is)

module _ (t u : Table) (apart-t : Apart (under t)) (apart-u : Apart (under u)) where
  same-both : (i j : Id) → same (t i) (t j) ≡ same (u i) (u j)
  same-both i j = go (same (t i) (t j)) refl (same (u i) (u j)) refl
    where
      go : (a : Bool) → same (t i) (t j) ≡ a → (b : Bool) → same (u i) (u j) ≡ b → a ≡ b
      go true e true f = refl
      go true e false f = sym (same_refl (u i)) ∙ ap (λ (k : Id). same (u i) (u k)) (apart-t i j (same-eq (t i) (t j) e)) ∙ f
      go false e true f = sym e ∙ ap (λ (k : Id). same (t i) (t k)) (sym (apart-u i j (same-eq (u i) (u j) f))) ∙ same_refl (t i)
      go false e false f = refl

  some-both : (i : Id) (is : List Id) → some_is (t i) (map t is) ≡ some_is (u i) (map u is)
  some-both i [] = refl
  some-both i (j ∷ is) = ap₂ (λ (a b : Bool). a || b) (same-both j i) (some-both i is)

  equal-both : (is : List Id) → two_equal (map t is) ≡ two_equal (map u is)
  equal-both [] = refl
  equal-both (i ∷ is) = ap₂ (λ (a b : Bool). a || b) (some-both i is) (equal-both is)

pub legal-accepted : (t : Table) → Legal t → Accepted (map t all)
legal-accepted t l =
    record { fifteen = refl; values = map-values t l.value all; apart = equal-both t letters l.apart published-legal.apart all }

-- ... and the table of such values
value-at : (vs : List (List ℕ)) → are_values vs ≡ true → (k : ℕ) → k < length vs → is_value (get_or vs k []) ≡ true
value-at [] e k h = absurd (omega arith)
value-at (v ∷ vs) e zero h = ((and-eq-true_iff (is_value v) (are_values vs)).0 e).0
value-at (v ∷ vs) e (suc k) h = value-at vs ((and-eq-true_iff (is_value v) (are_values vs)).0 e).1 k (omega arith)

some_at : (v : List ℕ) (vs : List (List ℕ)) (k : ℕ) → k < length vs → get_or vs k [] ≡ v → some_is v vs ≡ true
some_at v [] k h e = absurd (omega arith)
some_at v (w ∷ vs) zero h e = rw (e, same_refl v)
some_at v (w ∷ vs) (suc k) h e = go (same w v) (some_at v vs k (omega arith) e)
  where
    go : (t : Bool) → some_is v vs ≡ true → t || some_is v vs ≡ true
    go true f = refl
    go false f = f

or_none : (a b : Bool) → a || b ≡ false → (a ≡ false) × (b ≡ false)
or_none true b e = absurd (true≢false e)
or_none false b e = (refl, e)

apart-at : (vs : List (List ℕ)) → two_equal vs ≡ false → (j k : ℕ) → j < length vs → k < length vs → get_or vs j [] ≡ get_or vs k [] → j ≡ k
apart-at [] e j k h i f = absurd (omega arith)
apart-at (v ∷ vs) e zero zero h i f = refl
apart-at (v ∷ vs) e zero (suc k) h i f =
    absurd (true≢false (sym (some_at v vs k (omega arith) (sym f)) ∙ (or_none (some_is v vs) (two_equal vs) e).0))
apart-at (v ∷ vs) e (suc j) zero h i f =
    absurd (true≢false (sym (some_at v vs j (omega arith) f) ∙ (or_none (some_is v vs) (two_equal vs) e).0))
apart-at (v ∷ vs) e (suc j) (suc k) h i f = ap suc (apart-at vs (or_none (some_is v vs) (two_equal vs) e).1 j k (omega arith) (omega arith) f)

pub accepted-legal : (vs : List (List ℕ)) → Accepted vs → Legal (table_from vs)
accepted-legal vs a =
    record {
      value = λ i. value-at vs a.values (place i) (omega (arith, (places i).0, a.fifteen));
      apart = λ i j e. same_place i j
          (apart-at vs a.apart (place i) (place j) (omega (arith, (places i).0, a.fifteen)) (omega (arith, (places j).0, a.fifteen)) e);
    }

-- ---- files

pub loads : (t : Table) → Legal t → ids_in (ids_file t) ≡ ids (map t all)
loads t l =
    let a = legal-accepted t l in
    read-with (map t all) a.fifteen a.values ∙ accepted (map t all) a

size : (t : Table) → Legal t → length (ids_file t) ≡ file_size
size t l = let a = legal-accepted t l in with_size (map t all) a.fifteen a.values

-- what is read of a file, and when
data Told (f : List ℕ) : IdsRead → Type 0 where
  good : (vs : List (List ℕ)) → file_with vs ≡ f → Accepted vs → Told f (ids vs)
  equal : (vs : List (List ℕ)) → file_with vs ≡ f → length vs ≡ count → are_values vs ≡ true → two_equal vs ≡ true → Told f (refused equal_values)
  bad : Told f (refused bad_form)

told : (f : List ℕ) → Told f (ids_in f)
told f = go (reads f)
  where
    by : (vs : List (List ℕ)) → file_with vs ≡ f → (r : IdsRead) → Said vs r → Told f r
    by vs w r (good a) = good vs w a
    by vs w r (equal n v e) = equal vs w n v e
    by vs w r bad = bad

    go : Reads f (ids_in f) → Told f (ids_in f)
    go (inl e) = subst (Told f) (sym e) bad
    go (inr (vs, e, r)) = subst (Told f) (sym r) (by vs (text-lines.whole f (heading ∷ vs ∷ []) e) (checked vs) (said vs))

only-told : (f : List ℕ) (vs : List (List ℕ)) (r : IdsRead) → Told f r → r ≡ ids vs → (file_with vs ≡ f) × Accepted vs
only-told f vs r (good us w a) e =
    let q : us ≡ vs = cc in
    subst (λ (l : List (List ℕ)). (file_with l ≡ f) × Accepted l) q (w, a)
only-told f vs r (equal us w n v t) e = absurd (omega (arith, ap fault_of e))
only-told f vs r bad e = absurd (omega (arith, ap fault_of e))

only : (f : List ℕ) (vs : List (List ℕ)) → ids_in f ≡ ids vs → FileOf f vs
only f vs e =
    let t = only-told f vs (ids_in f) (told f) e in
    let m = map-from vs t.1.fifteen in
    record { legal = accepted-legal vs t.1; listed = m; whole = ap file_with m ∙ t.0 }

-- two equal values, and where they stand
record Equals (vs : List (List ℕ)) : Type 0 where
  pub first : ℕ
  pub second : ℕ
  pub before : first < second
  pub within : second < length vs
  pub equal : get_or vs first [] ≡ get_or vs second []

some-found : (v : List ℕ) (vs : List (List ℕ)) → some_is v vs ≡ true → (k : ℕ) × (k < length vs) × (get_or vs k [] ≡ v)
some-found v [] e = absurd (true≢false (sym e))
some-found v (w ∷ vs) e = go (same w v) refl e (some-found v vs)
  where
    go : (t : Bool) → same w v ≡ t → t || some_is v vs ≡ true → (some_is v vs ≡ true → (k : ℕ) × (k < length vs) × (get_or vs k [] ≡ v))
        → (k : ℕ) × (k < length (w ∷ vs)) × (get_or (w ∷ vs) k [] ≡ v)
    go true f g rest = (0, omega arith, same-eq w v f)
    go false f g rest = let r = rest g in (suc r.0, omega (arith, r.1), r.2)

equals-found : (vs : List (List ℕ)) → two_equal vs ≡ true → Equals vs
equals-found [] e = absurd (true≢false (sym e))
equals-found (v ∷ vs) e = go (some_is v vs) refl e (equals-found vs)
  where
    go : (t : Bool) → some_is v vs ≡ t → t || two_equal vs ≡ true → (two_equal vs ≡ true → Equals vs) → Equals (v ∷ vs)
    go true f g rest =
        let r = some-found v vs f in
        record { first = 0; second = suc r.0; before = omega arith; within = omega (arith, r.1); equal = sym r.2 }
    go false f g rest =
        let r = rest g in
        record { first = suc r.first; second = suc r.second; before = omega (arith, r.before); within = omega (arith, r.within); equal = r.equal }

equals-told : (f : List ℕ) (r : IdsRead) → Told f r → r ≡ refused equal_values → (vs : List (List ℕ)) × TwoEqual f vs
equals-told f r (good us w a) e = absurd (omega (arith, ap fault_of e))
equals-told f r (equal us w n v t) e =
    let q = equals-found us t in (
      us,
      record { whole = w; fifteen = n; formed = v; first = q.first; second = q.second; before = q.before; within = omega (arith, q.within); equal = q.equal },
    )
equals-told f r bad e = absurd (omega (arith, ap fault_of e))

-- ... and they are found
equals-there : (vs : List (List ℕ)) (j k : ℕ) → j < k → k < length vs → get_or vs j [] ≡ get_or vs k [] → two_equal vs ≡ true
equals-there vs j k h i f = go (two_equal vs) refl
  where
    go : (t : Bool) → two_equal vs ≡ t → t ≡ true
    go true e = refl
    go false e = let q : j ≡ k = apart-at vs e j k (omega arith) i f in absurd (omega arith)

doubles : (f : List ℕ) (vs : List (List ℕ)) → TwoEqual f vs → ids_in f ≡ refused equal_values
doubles f vs d =
    let t = equals-there vs d.first d.second d.before (omega (arith, d.within, d.fifteen)) d.equal in
    ap ids_in (sym d.whole) ∙ read-with vs d.fifteen d.formed ∙ checked-equal vs d.fifteen d.formed t

numbers-told : (f : List ℕ) (n : ℕ) (r : IdsRead) → Told f r → r ≡ refused n → (n ≡ bad_form) ⊎ (n ≡ equal_values)
numbers-told f n r (good us w a) e = let z : ◌≡◌ {A = ℕ} 0 1 = cc in absurd (omega arith)
numbers-told f n r (equal us w m v t) e = inr (sym (ap fault_of e))
numbers-told f n r bad e = inl (sym (ap fault_of e))

-- ---- settings

groups-joined : (vs : List (List ℕ)) (rest : List ℕ) → Fours vs → groups 4 (length vs) (joined vs ++ rest) ≡ vs
unfolding groups
groups-joined [] rest e = refl
groups-joined (v ∷ vs) rest e =
    four (λ (u : List ℕ). groups 4 (length (u ∷ vs)) (joined (u ∷ vs) ++ rest) ≡ u ∷ vs)
    (λ a b c d. ap (λ (l : List (List ℕ)). (a ∷ b ∷ c ∷ d ∷ []) ∷ l) (groups-joined vs rest e.1)) v e.0

length-joined : (vs : List (List ℕ)) → Fours vs → length (joined vs) ≡ 4 * length vs
length-joined [] e = refl
length-joined (v ∷ vs) e = omega (arith, length-append v (joined vs), e.0, length-joined vs e.1)

module _ (vs : List (List ℕ)) (a : Accepted vs) where
  -- in the settings
  pub table-length : length (joined vs) ≡ table_size
  table-length = omega (arith, length-joined vs (fours vs a.values), a.fifteen)

  pub groups-table : (rest : List ℕ) → groups 4 count (joined vs ++ rest) ≡ vs
  groups-table rest = rw a.fifteen at (groups-joined vs rest (fours vs a.values))

  pub lent-with : (s : List ℕ) → length s ≡ settings_size → groups 4 count s ≡ vs → lent_in s ≡ L.Ids (ids_of (table_from vs))
  unfolding lent_in
  lent-with s e g =
      let m : map (table_in s) all ≡ vs = in_groups s ∙ g in
      let t : table_in s ≡ table_from vs = sym (from-map (table_in s)) ∙ ap table_from m in
      rw (eq-eqb _ _ e, m, accepted vs a) (ap (λ (u : Table). L.Ids (ids_of u)) t)

  module _ (s : List ℕ) (e : length s ≡ settings_size) where
    over-size : length (over s 0 (joined vs)) ≡ settings_size
    over-size = over-length s 0 (joined vs) (omega (arith, table-length)) ∙ e

    over-groups : groups 4 count (over s 0 (joined vs)) ≡ vs
    unfolding over
    over-groups = groups-table (drop (0 + length (joined vs)) s)

    over-room : drop table_size (over s 0 (joined vs)) ≡ drop table_size s
    unfolding over
    over-room = drop_at (joined vs) (drop (0 + length (joined vs)) s) table_size table-length ∙ ap (λ (n : ℕ). drop (0 + n) s) table-length

-- what a load comes to, by the length of the settings and what was read
module _ (s f : List ℕ) where
  abbrev Came : Bool → IdsRead → List ℕ × ℕ
  Came t r = pick t (taken s r) (s, misplaced)

  keeps-by : (t : Bool) → eqb (length s) settings_size ≡ t → (r : IdsRead) → ids_in f ≡ r → Told f r → (Came t r).1 ≡ 0
      → (values : List (List ℕ)) × (ids_in f ≡ ids values) × (lent_in (Came t r).0 ≡ L.Ids (ids_of (table_from values)))
  keeps-by true h r g (good vs w a) e =
      let n = eqb-true (length s) settings_size h in
      (vs, g, lent-with vs a (over s 0 (joined vs)) (over-size vs a s n) (over-groups vs a s n))
  keeps-by true h r g (equal vs w n v t) e = absurd (omega (arith, e))
  keeps-by true h r g bad e = absurd (omega (arith, e))
  keeps-by false h r g k e = absurd (omega (arith, e))

  stays_by : (t : Bool) (r : IdsRead) → ((Came t r).1 ≡ 0 → ⊥) → (Came t r).0 ≡ s
  stays_by true (ids vs) e = absurd (e refl)
  stays_by true (refused n) e = refl
  stays_by false r e = refl

  room_by : (t : Bool) → eqb (length s) settings_size ≡ t → (r : IdsRead) → Told f r
      → (drop table_size (Came t r).0 ≡ drop table_size s) × (length (Came t r).0 ≡ length s)
  room_by true h r (good vs w a) =
      let n = eqb-true (length s) settings_size h in
      (over-room vs a s n, over-size vs a s n ∙ sym n)
  room_by true h r (equal vs w n v t) = (refl, refl)
  room_by true h r bad = (refl, refl)
  room_by false h r k = (refl, refl)

  keeps : (loaded s f).1 ≡ 0 → (values : List (List ℕ)) × (ids_in f ≡ ids values) × (lent_in (loaded s f).0 ≡ L.Ids (ids_of (table_from values)))
  unfolding loaded
  keeps e = keeps-by (eqb (length s) settings_size) refl (ids_in f) refl (told f) e

  stays : ((loaded s f).1 ≡ 0 → ⊥) → (loaded s f).0 ≡ s
  unfolding loaded
  stays e = stays_by (eqb (length s) settings_size) (ids_in f) e

  room : (drop table_size (loaded s f).0 ≡ drop table_size s) × (length (loaded s f).0 ≡ length s)
  unfolding loaded
  room = room_by (eqb (length s) settings_size) refl (ids_in f) (told f)

  misplaces : (length s ≡ settings_size → ⊥) → loaded s f ≡ (s, misplaced)
  unfolding loaded
  misplaces e = rw (ne_eqb (length s) settings_size e)

  loaded-by : length s ≡ settings_size → (r : IdsRead) → ids_in f ≡ r → loaded s f ≡ taken s r
  unfolding loaded
  loaded-by e r g = rw (eq-eqb _ _ e, g)

-- settings of a table
opens : (t : Table) → Legal t → lent_in (settings_of t) ≡ L.Ids (ids_of t)
unfolding settings_of
opens t l =
    let a = legal-accepted t l in
    let rest : List ℕ = replicate room_size 0 in
    lent-with (map t all) a (settings_of t) (omega (arith, length-append (joined (map t all)) rest, table-length (map t all) a)) (groups-table (map t all) a rest)
    ∙ ap (λ (u : Table). L.Ids (ids_of u)) (from-map t)

lends_by : (s : List ℕ) (kept : Ids) (t : Bool) → eqb (length s) settings_size ≡ t → (r : IdsRead) → Said (map (table_in s) all) r
    → pick t (lent (table_in s) r) (L.Refused misplaced) ≡ L.Ids kept → LentTable s kept
lends_by s kept true h r (good a) e =
    let l = subst Legal (from-map (table_in s)) (accepted-legal (map (table_in s) all) a) in
    let q : kept ≡ ids_of (table_in s) = cc in
    record { size = eqb-true (length s) settings_size h; legal = l; table = q; dialect = ap dialect_of q ∙ dialect-back (table_in s) l }
lends_by s kept true h r (equal n v t) e = let z : ◌≡◌ {A = ℕ} 0 1 = cc in absurd (omega arith)
lends_by s kept true h r bad e = let z : ◌≡◌ {A = ℕ} 0 1 = cc in absurd (omega arith)
lends_by s kept false h r k e = let z : ◌≡◌ {A = ℕ} 0 1 = cc in absurd (omega arith)

lends : (s : List ℕ) (kept : Ids) → lent_in s ≡ L.Ids kept → LentTable s kept
unfolding lent_in
lends s kept e = lends_by s kept (eqb (length s) settings_size) refl (checked (map (table_in s) all)) (said (map (table_in s) all)) e

-- settings of the right length, by what is said of their values
lent_by : (s : List ℕ) → length s ≡ settings_size → (r : IdsRead) → checked (map (table_in s) all) ≡ r → lent_in s ≡ lent (table_in s) r
unfolding lent_in
lent_by s e r g = rw (eq-eqb _ _ e, g)

lent_length : (s : List ℕ) → (length s ≡ settings_size → ⊥) → lent_in s ≡ L.Refused misplaced
unfolding lent_in
lent_length s e = rw (ne_eqb (length s) settings_size e)

map-bad : (t : Table) (i : Id) → is_value (t i) ≡ false → are_values (map t all) ≡ false
map-bad t i e = go (are_values (map t all)) refl
  where
    go : (b : Bool) → are_values (map t all) ≡ b → b ≡ false
    go false h = refl
    go true h =
        let v = value-at (map t all) h (place i) (places i).0 in
        absurd (true≢false (sym v ∙ ap (λ (u : Table). is_value (u i)) (from-map t) ∙ e))

map-equal : (t : Table) (i j : Id) → (i ≡ j → ⊥) → t i ≡ t j → two_equal (map t all) ≡ true
map-equal t i j n e = go (two_equal (map t all)) refl
  where
    go : (b : Bool) → two_equal (map t all) ≡ b → b ≡ true
    go true h = refl
    go false h =
        let f = from-map t in
        let q = ap (λ (u : Table). u i) f ∙ e ∙ sym (ap (λ (u : Table). u j) f) in
        absurd (n (same_place i j (apart-at (map t all) h (place i) (place j) (places i).0 (places j).0 q)))

module _ (s : List ℕ) (e : length s ≡ settings_size) where
  lent_legal : Legal (table_in s) → lent_in s ≡ L.Ids (ids_of (table_in s))
  lent_legal l = lent_by s e (ids (map (table_in s) all)) (accepted (map (table_in s) all) (legal-accepted (table_in s) l))

  lent_form : (i : Id) → is_value (table_in s i) ≡ false → lent_in s ≡ L.Refused bad_form
  lent_form i h = lent_by s e (refused bad_form) (checked-bad (map (table_in s) all) (map-bad (table_in s) i h))

  lent_equal : ((i : Id) → is_value (table_in s i) ≡ true) → (i j : Id) → (i ≡ j → ⊥) → table_in s i ≡ table_in s j → lent_in s ≡ L.Refused equal_values
  lent_equal v i j n q =
      lent_by s e (refused equal_values)
      (checked-equal (map (table_in s) all) refl (map-values (table_in s) v all) (map-equal (table_in s) i j n q))

pub id-tables : IdTables
id-tables =
    record {
      loads = loads;
      size = size;
      only = only;
      equals = λ f e. equals-told f (ids_in f) (told f) e;
      doubles = doubles;
      numbers = λ f n e. numbers-told f n (ids_in f) (told f) e;
      takes = λ s e t l. loaded-by s (ids_file t) e (ids (map t all)) (loads t l);
      answers = λ s e f n g. loaded-by s f e (refused n) g;
      misplaces = misplaces;
      keeps = keeps;
      stays = stays;
      room = λ s f. (room s f).0;
      same_length = λ s f. (room s f).1;
      opens = opens;
      lends = lends;
      lent_legal = lent_legal;
      lent_length = lent_length;
      lent_form = lent_form;
      lent_equal = lent_equal;
      dialect = dialect-back;
    }
