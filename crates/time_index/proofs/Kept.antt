-- Slots and area that hold a list of items: so after opening, and after an entry more. Assumes nothing.
use Prim.Native.Nat.{ℕ, zero, suc, ◌+◌, ◌*◌, ◌≤◌, ◌<◌, ◌^◌}
use mathlib.Core.Bool.{Bool, true, false}
use mathlib.Core.List.{List, [], ◌∷◌, ◌++◌, map, append_assoc, append-nil, map-append}
use mathlib.Core.Path.{◌≡◌, refl, sym, ap, ◌∙◌}
use native.Mathlib.Omega.{arith}
use borrow.Author.Tests.{le-leb, eq-eqb}
use lib.IntN.{ℤ}
use lib.ListN.{length, take, drop, get_or, length-append, length-map, length-drop, get_or-map}
use lib.Seq.{take_at, drop-append-add, drop-drop}
use Rattle.protocol.specs.Bytes.{pick, over}
use Rattle.protocol.proofs.Bytes.{over-length, over-before, over-there}
use Rattle.record.specs.Narrow.{I64}
use Rattle.record.specs.Record.{words, word_of}
use Rattle.session.proofs.Buf.{part-take}
use Rattle.time_index.specs.Index.{most_entries, most_names, Item, item, no_later, earlier, total, room_in, has_room, inserted, in_time}
use Rattle.time_index.specs.Slots.{slots_size, mark, count_in, used_in, headed, is_index, slot_size, time_at, ranks, up_to, below, slot_among, slots_with}
use Rattle.time_index.specs.Crossing.{cross_index_open, has_slot}
use Rattle.time_index.specs.Claim.{names}
use Rattle.time_index.proofs.Lists.{rising-in_time}
use Rattle.time_index.proofs.Placed.{Placed, Fits, slot_bytes, slots_of, no_place, length-slots, time-back, head-word, slots-more, counts-anew}
use Rattle.time_index.proofs.Queries.{lead_to, lead_below}
use Rattle.time_index.proofs.Ranks.{no_item, time_of, lead_most, ranks-lead, down_up_to, down_below, behind-at, in_time-more}

-- the entry of a slot, its name a part of the area
abbrev pub named : (area : List ℕ) → Placed → Item
named area p = item p.number p.time (take p.size (drop p.start area))

abbrev pub AllFit : (used : ℕ) → List Placed → Type 0
AllFit used [] = Unit {0}
AllFit used (p ∷ ps) = Fits used p × AllFit used ps

-- s and area hold these items; the area had other bytes before
pub record Kept (before s area : List ℕ) (held : List Item) : Type 0 where
  pub placed : List Placed
  pub rest : List ℕ
  pub shape : s ≡ headed (length area) (length placed) (total held) ++ (slots_of placed ++ rest)
  pub size : length s ≡ slots_size
  pub room : total held ≤ room_in (length area)
  pub few : length placed ≤ most_entries
  pub wide : length area < 2 ^ 63
  pub fits : AllFit (total held) placed
  pub items : map (named area) placed ≡ in_time held
  pub stands : area ≡ names held ++ drop (total held) before
  pub same : length area ≡ length before

-- ---- lists

length_inserted : (x : Item) (l : List Item) → length (inserted x l) ≡ suc (length l)
unfolding inserted
length_inserted x [] = refl
length_inserted x (y ∷ ys) = go (length_inserted x ys) (no_later x.time y.time)
  where
    go : length (inserted x ys) ≡ suc (length ys) → (q : Bool) → length (pick q (x ∷ y ∷ ys) (y ∷ inserted x ys)) ≡ suc (suc (length ys))
    go h true = refl
    go h false = ap suc h

pub length-in_time : (l : List Item) → length (in_time l) ≡ length l
unfolding in_time
length-in_time [] = refl
length-in_time (x ∷ xs) = length_inserted x (in_time xs) ∙ ap suc (length-in_time xs)

total-more : (l : List Item) (x : Item) → total (l ++ x ∷ []) ≡ total l + length x.name
total-more [] x = omega arith
total-more (y ∷ ys) x = omega (arith, total-more ys x)

names_more : (l : List Item) (x : Item) → names (l ++ x ∷ []) ≡ names l ++ x.name
names_more [] x = append-nil x.name
names_more (y ∷ ys) x = ap (λ (t : List ℕ). y.name ++ t) (names_more ys x) ∙ sym (append_assoc y.name (names ys) x.name)

length-names : (l : List Item) → length (names l) ≡ total l
length-names [] = refl
length-names (x ∷ xs) = length-append x.name (names xs) ∙ omega (arith, length-names xs)

map-take : {A B : Type 0} (f : A → B) (n : ℕ) (l : List A) → map f (take n l) ≡ take n (map f l)
map-take f zero l = refl
map-take f (suc n) [] = refl
map-take {A} {B} f (suc n) (x ∷ xs) = ap (λ (l : List B). f x ∷ l) (map-take f n xs)

map-drop : {A B : Type 0} (f : A → B) (n : ℕ) (l : List A) → map f (drop n l) ≡ drop n (map f l)
map-drop f zero l = refl
map-drop f (suc n) [] = refl
map-drop f (suc n) (x ∷ xs) = map-drop f n xs

-- ---- what fits

pub fit_at : (used : ℕ) (ps : List Placed) → AllFit used ps → (r : ℕ) → r < length ps → Fits used (get_or ps r no_place)
fit_at used [] f r h = absurd (omega arith)
fit_at used (p ∷ ps) f zero h = f.0
fit_at used (p ∷ ps) f (suc r) h = fit_at used ps f.1 r (omega arith)

fit_more : (used more : ℕ) (ps : List Placed) → used ≤ more → AllFit used ps → AllFit more ps
fit_more used more [] h f = tt
fit_more used more (p ∷ ps) h f =
    (record { time = f.0.time; inside = omega (arith, f.0.inside); number = f.0.number }, fit_more used more ps h f.1)

fit_among : (used r : ℕ) (ps : List Placed) (p : Placed) → Fits used p → AllFit used ps → AllFit used (take r ps ++ p ∷ drop r ps)
fit_among used zero ps p h f = (h, f)
fit_among used (suc r) [] p h f = (h, f)
fit_among used (suc r) (q ∷ ps) p h f = (f.0, fit_among used r ps p h f.1)

length-among : (r : ℕ) (ps : List Placed) (p : Placed) → length (take r ps ++ p ∷ drop r ps) ≡ suc (length ps)
length-among zero ps p = refl
length-among (suc r) [] p = refl
length-among (suc r) (q ∷ ps) p = ap suc (length-among r ps p)

-- ---- the area

module _ (area name : List ℕ) (used : ℕ) (h : used + length name ≤ length area) where
  -- a name that lies in front of what is written stays
  named-same : (ps : List Placed) → AllFit used ps → map (named (over area used name)) ps ≡ map (named area) ps
  named-same [] f = refl
  named-same (p ∷ ps) f = go (part p f.0.inside) (named-same ps f.1)
    where
      part : (p : Placed) → p.start + p.size ≤ used → take p.size (drop p.start (over area used name)) ≡ take p.size (drop p.start area)
      part p g =
          sym (part-take p.start p.size used (over area used name) g)
          ∙ ap (λ (l : List ℕ). take p.size (drop p.start l)) (over-before area used name h)
          ∙ part-take p.start p.size used area g

      go : take p.size (drop p.start (over area used name)) ≡ take p.size (drop p.start area)
          → map (named (over area used name)) ps ≡ map (named area) ps → map (named (over area used name)) (p ∷ ps) ≡ map (named area) (p ∷ ps)
      go e g = rw (e, g)

  -- names end to end, and what stood behind them
  names-on : (front before : List ℕ) → length front ≡ used → area ≡ front ++ drop used before
      → over area used name ≡ (front ++ name) ++ drop (used + length name) before
  unfolding over
  names-on front before e g =
      let t : take used area ≡ front = ap (take used) g ∙ take_at front (drop used before) used e in
      let k : used + length name ≡ length front + length name = omega arith in
      let d : drop (used + length name) area ≡ drop (used + length name) before =
      ap (drop (used + length name)) g ∙ rw k (drop-append-add front (drop used before) (length name)) ∙ drop-drop (length name) used before in
      rw (t, d)

-- ---- what the slots say of themselves

module _ {before s area : List ℕ} {held : List Item} (k : Kept before s area held) where
  pub length-placed : length k.placed ≡ length held
  length-placed = sym (length-map k.placed (named area)) ∙ ap length k.items ∙ length-in_time held

  used_narrow : total held ≤ most_names
  used_narrow = omega (arith, k.room)

  word : (i : ℕ) → i < 4 → word_of s i ≡ get_or (mark ∷ length area ∷ length k.placed ∷ total held ∷ []) i 0
  word i h =
      head-word s (length area) (total held) k.placed k.rest k.shape (omega (arith, k.wide)) (omega (arith, used_narrow)) (omega (arith, k.few)) i h

  pub length_kept : word_of s 1 ≡ length before
  length_kept = word 1 (omega arith) ∙ k.same

  pub count_kept : count_in s ≡ length k.placed
  count_kept = word 2 (omega arith)

  pub used_kept : used_in s ≡ total held
  used_kept = word 3 (omega arith)

  pub is-kept : is_index s (length area) ≡ true
  unfolding is_index
  is-kept =
      rw (
        eq-eqb (length s) slots_size k.size,
        eq-eqb (word_of s 0) mark (word 0 (omega arith)),
        eq-eqb (word_of s 1) (length area) (word 1 (omega arith)),
        le-leb (count_in s) most_entries (omega (arith, count_kept, k.few)),
        le-leb (used_in s) (room_in (length area)) (omega (arith, used_kept, k.room)),
      )

  -- the entry of a slot
  pub item-at : (r : ℕ) → r < length k.placed → get_or (in_time held) r no_item ≡ named area (get_or k.placed r no_place)
  item-at r h = ap (λ (l : List Item). get_or l r no_item) (sym k.items) ∙ get_or-map (named area) k.placed r no_place

  pub times-kept : (r : ℕ) → r < length (in_time held) → time_at s r ≡ time_of (in_time held) r
  times-kept r h =
      let g : r < length k.placed = omega (arith, length-placed, length-in_time held) in
      time-back s (length area) (total held) k.placed k.rest k.shape used_narrow r g (fit_at (total held) k.placed k.fits r g)
      ∙ sym (ap (λ (x : Item). x.time) (item-at r g))

  count_in-time : count_in s ≡ length (in_time held)
  count_in-time = count_kept ∙ length-placed ∙ sym (length-in_time held)

  pub up_to-kept : (t : ℤ) → up_to s t ≡ lead_to t (in_time held)
  up_to-kept t =
      ap (ranks (λ z. no_later z t) s) count_in-time
      ∙ ranks-lead (λ z. no_later z t) s (in_time held) times-kept (down_up_to t (in_time held) (rising-in_time held))

  pub below-kept : (t : ℤ) → below s t ≡ lead_below t (in_time held)
  below-kept t =
      ap (ranks (λ z. earlier z t) s) count_in-time
      ∙ ranks-lead (λ z. earlier z t) s (in_time held) times-kept (down_below t (in_time held) (rising-in_time held))

  pub room-kept : (name : List ℕ) → has_slot s (length area) (length name) ≡ has_room (length area) held name
  unfolding has_slot has_room
  room-kept name = rw (count_kept, length-placed, used_kept)

-- ---- opening

pub kept-opened : (s area : List ℕ) → length s ≡ slots_size → length area < 2 ^ 63 → Kept area (cross_index_open s (length area)).0 area []
unfolding cross_index_open over in_time
kept-opened s area e w =
    rw (eq-eqb (length s) slots_size e)
    record {
      placed = [];
      rest = drop 32 s;
      shape = refl;
      size = omega (arith, length-drop 32 s, length-append (headed (length area) 0 0) (drop 32 s));
      room = omega arith;
      few = omega arith;
      wide = w;
      fits = tt;
      items = refl;
      stands = refl;
      same = refl;
    }

-- ---- an entry more

module _ {before s area : List ℕ} {held : List Item} (k : Kept before s area held) (t : ℤ) (name : List ℕ) (narrow : I64 t)
    (slot : length k.placed < most_entries) (space : total held + length name ≤ room_in (length area)) where
  abbrev new : Placed
  new = record { time = t; start = total held; size = length name; number = length k.placed }

  abbrev x : Item
  x = item (length held) t name

  abbrev r : ℕ
  r = lead_to t (in_time held)

  abbrev more : List Placed
  more = take r k.placed ++ new ∷ drop r k.placed

  abbrev area' : List ℕ
  area' = over area (total held) name

  r_most : r ≤ length k.placed
  r_most = omega (arith, lead_most (λ z. no_later z t) (in_time held), length-in_time held, length-placed k)

  within-area : total held + length name ≤ length area
  within-area = omega arith

  same_length : length area' ≡ length area
  same_length = over-length area (total held) name within-area

  total-after : total (held ++ x ∷ []) ≡ total held + length name
  total-after = total-more held x

  slots-after : slots_with s t (length name) ≡ headed (length area) (length k.placed + 1) (total held + length name) ++ (slots_of more ++ drop slot_size k.rest)
  unfolding slots_with
  slots-after =
      rw (up_to-kept k t, count_kept k, used_kept k)
      (ap (λ (l : List ℕ). over (slot_among l (length k.placed) r (slot_bytes new)) 16 (words ((length k.placed + 1) ∷ (total held + length name) ∷ []))) k.shape
      ∙ ap (λ (l : List ℕ). over l 16 (words ((length k.placed + 1) ∷ (total held + length name) ∷ [])))
      (slots-more (headed (length area) (length k.placed) (total held)) k.placed k.rest r new refl r_most)
      ∙ counts-anew (length area) (length k.placed) (total held) (length k.placed + 1) (total held + length name) (slots_of more ++ drop slot_size k.rest))

  length_more : length more ≡ length k.placed + 1
  length_more = length-among r k.placed new ∙ omega arith

  rest-most : slot_size * (length k.placed + 1) + length (drop slot_size k.rest) ≡ 65536
  rest-most =
      let e : slots_size ≡ length (headed (length area) (length k.placed) (total held) ++ (slots_of k.placed ++ k.rest)) = sym k.size ∙ ap length k.shape in
      omega (arith, e, length-append (slots_of k.placed) k.rest, length-slots k.placed, length-drop slot_size k.rest)

  new_named : named area' new ≡ x
  new_named = rw (over-there area (total held) name within-area, length-placed k)

  items-after : map (named area') more ≡ in_time (held ++ x ∷ [])
  items-after =
      map-append (named area') (take r k.placed) (new ∷ drop r k.placed)
      ∙ rw (map-take (named area') r k.placed, map-drop (named area') r k.placed, named-same area name (total held) within-area k.placed k.fits, new_named, k.items)
      (sym (behind-at x (in_time held)) ∙ sym (in_time-more held x))

  pub kept_more : Kept before (slots_with s t (length name)) (over area (used_in s) name) (held ++ x ∷ [])
  kept_more =
      rw (used_kept k)
      record {
        placed = more;
        rest = drop slot_size k.rest;
        shape = slots-after ∙ rw (same_length, length_more, total-after);
        size = ap length slots-after ∙ omega (arith, rest-most, length-append (slots_of more) (drop slot_size k.rest), length-slots more, length_more);
        room = omega (arith, same_length, total-after, space);
        few = omega (arith, length_more, slot);
        wide = omega (arith, same_length, k.wide);
        fits = rw total-after (fit_among (total held + length name) r k.placed new
            (record { time = narrow; inside = omega arith; number = slot }) (fit_more (total held) (total held + length name) k.placed (omega arith) k.fits));
        items = items-after;
        stands = names-on area name (total held) within-area (names held) before (length-names held) k.stands ∙ rw (names_more held x, total-after);
        same = same_length ∙ k.same;
      }
