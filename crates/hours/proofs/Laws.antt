-- The promises of `specs/Claim.antt` hold. Assumes nothing.
use Prim.Native.Nat.{ℕ, zero, suc, ◌+◌, ◌*◌, ◌≤◌, ◌<◌}
use mathlib.Core.Bool.{Bool, true, false}
use mathlib.Core.List.{List, [], ◌∷◌, ◌++◌, map, append_assoc}
use mathlib.Core.Option.{Option, none, some}
use mathlib.Core.Path.{◌≡◌, refl, sym, ap, ap₂, ◌∙◌, fun_ext}
use native.Mathlib.Omega.{arith}
use borrow.Author.Tests.{eq-eqb, ne_eqb, eqb-true}
use lib.Dec.{eqb, lit<}
use lib.ListN.{length, take, drop, replicate, length-append, length-replicate}
use lib.Seq.{length-take-le, take_at, drop_at, take-take}
use Rattle.protocol.specs.Bytes.{pick, over}
use Rattle.protocol.specs.Hours.{Hours, LegalHours, Kept, within, lets}
use Rattle.protocol.specs.Ids.{Id, STAT, STA2, LIST, LIS2, SEND, SND2, RECV, RCV2, DATA, DONE, OKAY, FAIL, DENT, DNT2, QUIT, Table, all, Legal}
use Rattle.protocol.specs.Messages.{joined}
use Rattle.protocol.specs.Refusal.{closed_hours}
use Rattle.protocol.proofs.Bytes.{over-length, over-before, over-there}
use Rattle.ids.specs.Ids.{ids_of}
use Rattle.id_table.specs.IdsFile.{count, checked}
use Rattle.id_table.specs.Settings.{settings_size, room_size, misplaced, place, table_in, settings_of, lent, lent_in}
use Rattle.id_table.specs.Lent as L
use Rattle.id_table.proofs.Laws.{id-tables}
use Rattle.hours.specs.Claim.{HoursFiles}
use Rattle.hours.specs.File.{hours_in, hours_file}
use Rattle.hours.specs.Settings.{hours_place, hours_size, hours_end, rest_size, hours_bytes_in, settings_with, taken_hours, loaded_hours, cross_may_push}
use Rattle.hours.specs.Slots.{hours_bytes}
use Rattle.hours.proofs.Files.{loads, only, seven, lets_in_lem, falls_in}
use Rattle.hours.proofs.Lent as H
use Rattle.hours.proofs.Slots.{kept-length, kept_back}

-- ---- hours put into settings

-- what is put alters nothing behind it
over-behind : (b : List ℕ) (at : ℕ) (m : List ℕ) → at + length m ≤ length b → (n : ℕ) → at + length m ≡ n → drop n (over b at m) ≡ drop n b
unfolding over
over-behind b at m h n e =
    drop_at (take at b ++ m) (drop (at + length m) b) n (omega (arith, length-append (take at b) m, length-take-le at b (omega arith)))
    ∙ ap (λ (k : ℕ). drop k b) e

module _ (s : List ℕ) (e : length s ≡ settings_size) (h : Option Hours) where
  fits : hours_place + length (hours_bytes h) ≤ length s
  fits = omega (arith, kept-length h)

  over-size : length (over s hours_place (hours_bytes h)) ≡ length s
  over-size = over-length s hours_place (hours_bytes h) fits

  over-hours : hours_bytes_in (over s hours_place (hours_bytes h)) ≡ hours_bytes h
  over-hours =
      ap (λ (n : ℕ). take n (drop hours_place (over s hours_place (hours_bytes h)))) (sym (kept-length h)) ∙ over-there s hours_place (hours_bytes h) fits

  over-ids : take hours_place (over s hours_place (hours_bytes h)) ≡ take hours_place s
  over-ids = over-before s hours_place (hours_bytes h) fits

  over-rest : drop hours_end (over s hours_place (hours_bytes h)) ≡ drop hours_end s
  over-rest = over-behind s hours_place (hours_bytes h) fits hours_end (omega (arith, kept-length h))

-- ---- what a load comes to, by the length of the settings and what was read

module _ (s f : List ℕ) where
  abbrev Came : Bool → Option Hours → List ℕ × ℕ
  Came t o = pick t (taken_hours s o) (s, misplaced)

  keeps-by : (t : Bool) → eqb (length s) settings_size ≡ t → (o : Option Hours) → hours_in f ≡ o → (Came t o).1 ≡ 0
      → (h : Hours) × (hours_in f ≡ some h) × (hours_bytes_in (Came t o).0 ≡ hours_bytes (some h))
  keeps-by true q (some h) g e = (h, g, over-hours s (eqb-true (length s) settings_size q) (some h))
  keeps-by true q none g e = absurd (omega (arith, e))
  keeps-by false q o g e = absurd (omega (arith, e))

  stays_by : (t : Bool) (o : Option Hours) → ((Came t o).1 ≡ 0 → ⊥) → (Came t o).0 ≡ s
  stays_by true (some h) e = absurd (e refl)
  stays_by true none e = refl
  stays_by false o e = refl

  room_by : (t : Bool) → eqb (length s) settings_size ≡ t → (o : Option Hours)
      → ((take hours_place (Came t o).0 ≡ take hours_place s) × (drop hours_end (Came t o).0 ≡ drop hours_end s)) × (length (Came t o).0 ≡ length s)
  room_by true q (some h) =
      let n = eqb-true (length s) settings_size q in
      ((over-ids s n (some h), over-rest s n (some h)), over-size s n (some h))
  room_by true q none = ((refl, refl), refl)
  room_by false q o = ((refl, refl), refl)

  keeps : (loaded_hours s f).1 ≡ 0 → (h : Hours) × (hours_in f ≡ some h) × (hours_bytes_in (loaded_hours s f).0 ≡ hours_bytes (some h))
  unfolding loaded_hours
  keeps e = keeps-by (eqb (length s) settings_size) refl (hours_in f) refl e

  stays : ((loaded_hours s f).1 ≡ 0 → ⊥) → (loaded_hours s f).0 ≡ s
  unfolding loaded_hours
  stays e = stays_by (eqb (length s) settings_size) (hours_in f) e

  room : ((take hours_place (loaded_hours s f).0 ≡ take hours_place s) × (drop hours_end (loaded_hours s f).0 ≡ drop hours_end s))
      × (length (loaded_hours s f).0 ≡ length s)
  unfolding loaded_hours
  room = room_by (eqb (length s) settings_size) refl (hours_in f)

  misplaces : (length s ≡ settings_size → ⊥) → loaded_hours s f ≡ (s, misplaced)
  unfolding loaded_hours
  misplaces e = rw (ne_eqb (length s) settings_size e)

  loaded-by : length s ≡ settings_size → (o : Option Hours) → hours_in f ≡ o → loaded_hours s f ≡ taken_hours s o
  unfolding loaded_hours
  loaded-by e o g = rw (eq-eqb _ _ e, g)

-- ---- the table that is lent is in the first sixty bytes

place-small : (i : Id) → place i < count
place-small =
    elim [
      | STAT ↦ lit< tt
      | STA2 ↦ lit< tt
      | LIST ↦ lit< tt
      | LIS2 ↦ lit< tt
      | SEND ↦ lit< tt
      | SND2 ↦ lit< tt
      | RECV ↦ lit< tt
      | RCV2 ↦ lit< tt
      | DATA ↦ lit< tt
      | DONE ↦ lit< tt
      | OKAY ↦ lit< tt
      | FAIL ↦ lit< tt
      | DENT ↦ lit< tt
      | DNT2 ↦ lit< tt
      | QUIT ↦ lit< tt
    ]

part_of : (k n m : ℕ) (s : List ℕ) → k + m ≤ n → take m (drop k (take n s)) ≡ take m (drop k s)
part_of zero n m s h = take-take m n s (omega arith)
part_of (suc k) zero m s h = absurd (omega arith)
part_of (suc k) (suc n) m [] h = refl
part_of (suc k) (suc n) m (x ∷ s) h = part_of k n m s (omega arith)

same-table : (s u : List ℕ) → take hours_place s ≡ take hours_place u → table_in s ≡ table_in u
same-table s u e =
    fun_ext (λ i. let h = place-small i in
    sym (part_of (4 * place i) hours_place 4 s (omega (arith, h)))
    ∙ ap (λ (l : List ℕ). take 4 (drop (4 * place i) l)) e
    ∙ part_of (4 * place i) hours_place 4 u (omega (arith, h)))

same-lent : (s u : List ℕ) → length s ≡ length u → take hours_place s ≡ take hours_place u → lent_in s ≡ lent_in u
unfolding lent_in
same-lent s u e t =
    ap₂ (λ (n : ℕ) (x : Table). pick (eqb n settings_size) (lent x (checked (map x all))) (L.Refused misplaced)) e (same-table s u t)

ids_stay : (s f : List ℕ) → lent_in (loaded_hours s f).0 ≡ lent_in s
ids_stay s f = let r = room s f in same-lent (loaded_hours s f).0 s r.1 r.0.0

-- ---- settings with a table and hours

module _ (t : Table) (l : Legal t) where
  of_size : length (settings_of t) ≡ settings_size
  of_size = (id-tables.lends (settings_of t) (ids_of t) (id-tables.opens t l)).size

  table-size : length (joined (map t all)) ≡ hours_place
  unfolding settings_of
  table-size = omega (arith, of_size, length-append (joined (map t all)) (replicate room_size 0), length-replicate {A = ℕ} room_size 0)

  of_table : take hours_place (settings_of t) ≡ joined (map t all)
  unfolding settings_of
  of_table = take_at (joined (map t all)) (replicate room_size 0) hours_place table-size

  module _ (h : Option Hours) where
    parts : settings_with t h ≡ joined (map t all) ++ (hours_bytes h ++ replicate rest_size 0)
    unfolding settings_with
    parts = append_assoc (joined (map t all)) (hours_bytes h) (replicate rest_size 0)

    with_length_lem : length (settings_with t h) ≡ settings_size
    with_length_lem =
        ap length parts
        ∙ omega (
          arith,
          length-append (joined (map t all)) (hours_bytes h ++ replicate rest_size 0),
          length-append (hours_bytes h) (replicate rest_size 0),
          length-replicate {A = ℕ} rest_size 0,
          table-size,
          kept-length h,
        )

    carried : hours_bytes_in (settings_with t h) ≡ hours_bytes h
    carried =
        ap hours_bytes_in parts
        ∙ ap (take hours_size) (drop_at (joined (map t all)) (hours_bytes h ++ replicate rest_size 0) hours_place table-size)
        ∙ take_at (hours_bytes h) (replicate rest_size 0) hours_size (kept-length h)

    with_table : lent_in (settings_with t h) ≡ L.Ids (ids_of t)
    with_table =
        let first : take hours_place (settings_with t h) ≡ joined (map t all) =
        ap (take hours_place) parts ∙ take_at (joined (map t all)) (hours_bytes h ++ replicate rest_size 0) hours_place table-size in
        same-lent (settings_with t h) (settings_of t) (with_length_lem ∙ sym of_size) (first ∙ sym of_table) ∙ id-tables.opens t l

without : (t : Table) → settings_with t none ≡ settings_of t
unfolding settings_with settings_of
without t = append_assoc (joined (map t all)) (replicate hours_size 0) (replicate rest_size 0)

-- ---- when a push may start

starts_by : (s : List ℕ) → length s ≡ settings_size → (h : Option Hours) → Kept h → hours_bytes_in s ≡ hours_bytes h
    → (moment : ℕ) → cross_may_push s moment ≡ pick (lets h moment) 0 closed_hours
unfolding cross_may_push
starts_by s e h k b moment = rw (eq-eqb _ _ e, b, H.lent h k, kept_back h k)

starts_loaded : (s : List ℕ) → length s ≡ settings_size → (h : Hours) → LegalHours h → (moment : ℕ)
    → cross_may_push (loaded_hours s (hours_file h)).0 moment ≡ pick (within h moment) 0 closed_hours
starts_loaded s e h k moment =
    let came = loaded-by s (hours_file h) e (some h) (loads h k) in
    ap (λ (p : List ℕ × ℕ). cross_may_push p.0 moment) came
    ∙ starts_by (over s hours_place (hours_bytes (some h))) (over-size s e (some h) ∙ e) (some h) k (over-hours s e (some h)) moment

pub hours-files : HoursFiles
hours-files =
    record {
      loads = loads;
      only = only;
      seven = seven;
      lets_in_lem = lets_in_lem;
      falls_in = falls_in;
      takes = λ s e h k. loaded-by s (hours_file h) e (some h) (loads h k);
      answers = λ s e f g. loaded-by s f e none g;
      misplaces = misplaces;
      keeps = keeps;
      stays = stays;
      room = λ s f. (room s f).0;
      same_length = λ s f. (room s f).1;
      ids_stay = ids_stay;
      hours_stay = λ s f. ap (take hours_size) (id-tables.room s f);
      lent = H.lent;
      lends = H.lends;
      with_length_lem = with_length_lem;
      carried = carried;
      with_table = with_table;
      without = without;
      starts = λ t l h k moment. starts_by (settings_with t h) (with_length_lem t l h) h k (carried t l h) moment;
      starts_loaded = starts_loaded;
    }
