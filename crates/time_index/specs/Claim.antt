-- What is promised of the index: what its exported functions tell of every list of replies, from opening on; and what the definitions of
-- `Index` mean. Assumes nothing.
use Rattle.std.specs.Prelude.{ℕ, zero, suc, ◌+◌, ◌≤◌, ◌<◌, ◌^◌, true, ◌&&◌, List, [], ◌∷◌, ◌++◌, ◌≡◌, eqb, ℤ, length, take, drop}
use Rattle.std.proofs.Math.Option.{Option, none, some}
use Rattle.std.proofs.Math.IntN.{suc_ℤ}
use Rattle.protocol.specs.Answers.{Answer}
use Rattle.protocol.specs.Bytes.{Bytes, pick, signed}
use Rattle.boundary.specs.Heard.{at, heard}
use Rattle.boundary.specs.Told.{out_size}
use Rattle.record.specs.Record.{word_of}
use Rattle.session.specs.Host as H
use Rattle.time_index.specs.Index.{most_entries, Known, Item, item, no_later, within, total, room_in, held_after, answered_to, keep, between, latest}
use Rattle.time_index.specs.Slots.{slots_size, is_index}
use Rattle.time_index.specs.Crossing.{misplaced, Indexed, indexed, cross_index_open, cross_index_add, cross_index_between, cross_index_latest, cross_index_entry}

-- ---- what the answers mean: those of one time stand in listing order, and the times rise

-- the items of one time, in the order of the list
abbrev pub of_time : ℤ → List Item → List Item
of_time t l = keep (within t t) l

-- the item is no later than any of a list
abbrev pub NoneLater : Item → List Item → Type 0
NoneLater x [] = Unit {0}
NoneLater x (y ∷ ys) = (no_later x.time y.time ≡ true) × NoneLater x ys

-- no item is later than one behind it
abbrev pub Rising : List Item → Type 0
Rising [] = Unit {0}
Rising (x ∷ xs) = NoneLater x xs × Rising xs

-- "exactly the entries it holds with mtime from a to b inclusive, each once .., in time order, equal times in listing order": of each time
-- from a to b the same items as are held, in the same order, and of no other time any
pub record Between (a b : ℤ) (held l : List Item) : Type 0 where
  pub rising : Rising l
  pub each : (t : ℤ) → of_time t l ≡ pick (within a b t) (of_time t held) []

-- "the latest entry it holds at or before t": no time at or before t with an item is later; "among equal times the first listed"
pub record LatestAt (t : ℤ) (held : List Item) (x : Item) : Type 0 where
  pub before : no_later x.time t ≡ true
  pub others : List Item
  pub first : of_time x.time held ≡ x ∷ others
  pub last : (z : ℤ) → no_later z t ≡ true → (of_time z held ≡ [] → ⊥) → no_later z x.time ≡ true

-- "or none"
abbrev pub Latest : (t : ℤ) → (held : List Item) → Option Item → Type 0
Latest t held (some x) = LatestAt t held x
Latest t held none = (z : ℤ) → no_later z t ≡ true → of_time z held ≡ []

-- ---- what the host does with the functions

-- a reply that the host was told: the number returned, the slice, and both buffers as they were then
pub record Tell : Type 0 where
  pub told : ℕ
  pub reply : List ℕ
  pub rx : List ℕ
  pub msg : List ℕ

-- it heard these answers in them
abbrev pub Hears : List Tell → List Answer → Type 0
Hears [] [] = Unit {0}
Hears [] (a ∷ rest) = ⊥
Hears (t ∷ ts) [] = ⊥
Hears (t ∷ ts) (a ∷ rest) =
    (out_size ≤ length t.reply) × (Bytes t.reply × ((heard t.told t.reply t.rx t.msg ≡ H.told a) × Hears ts rest))

abbrev pub AllKnown : List Answer → Type 0
AllKnown [] = Unit {0}
AllKnown (a ∷ rest) = Known a × AllKnown rest

abbrev pub added_by : (slots area : List ℕ) → Tell → Indexed
added_by s area t = cross_index_add s area t.told t.reply t.rx

-- slots and area after a list of them, and the numbers answered
abbrev pub afterwards : (slots area : List ℕ) → List Tell → List ℕ × List ℕ
afterwards s area [] = (s, area)
afterwards s area (t ∷ ts) = afterwards (added_by s area t).slots (added_by s area t).area ts

abbrev pub numbers_of : (slots area : List ℕ) → List Tell → List ℕ
numbers_of s area [] = []
numbers_of s area (t ∷ ts) = (added_by s area t).number ∷ numbers_of (added_by s area t).slots (added_by s area t).area ts

-- the item that an entry's reply names, its name a part of the area; none where there is none, or an answer other than 0
abbrev pub item_heard : (area : List ℕ) → List ℕ × ℕ → Option Item
item_heard area (o, n) = pick (eqb n 0 && eqb (at o 0) 1) (some (item (at o 3) (signed (at o 4)) (take (at o 2) (drop (at o 1) area)))) none

-- all of them, or none where one is missing
abbrev pub with_rest : Option Item → Option (List Item) → Option (List Item)
with_rest (some x) (some l) = some (x ∷ l)
with_rest (some x) none = none
with_rest none o = none

module _ (s area out : List ℕ) where
  -- those of n ranks from r on
  abbrev pub items_from : (r n : ℕ) → Option (List Item)
  items_from r zero = some []
  items_from r (suc n) = with_rest (item_heard area (cross_index_entry s (length area) r out)) (items_from (suc r) n)

  -- as many as a query tells, from the rank that it tells; none after an answer other than 0
  abbrev pub items_heard : List ℕ × ℕ → Option (List Item)
  items_heard (o, n) = pick (eqb n 0) (items_from (at o 1) (at o 0)) none

  abbrev pub between_heard : (a b : ℤ) → Option (List Item)
  between_heard a b = items_heard (cross_index_between s (length area) a b out)

  abbrev pub latest_heard : (t : ℤ) → Option (List Item)
  latest_heard t = items_heard (cross_index_latest s (length area) t out)

abbrev pub one_or_none : Option Item → List Item
one_or_none none = []
one_or_none (some x) = x ∷ []

-- all names, end to end in listing order
abbrev pub names : List Item → List ℕ
names [] = []
names (x ∷ xs) = x.name ++ names xs

-- slots and area hold these items, in an area that had other bytes before
pub record Holding (before : List ℕ) (held : List Item) (s area : List ℕ) : Type 0 where
  pub between_told : (a b : ℤ) (out : List ℕ) → out_size ≤ length out → between_heard s area out a b ≡ some (between a b held)
  pub latest_told : (t : ℤ) (out : List ℕ) → out_size ≤ length out → latest_heard s area out t ≡ some (one_or_none (latest t held))
  -- names stand end to end from the front, and what stands behind them never alters
  pub area_names : area ≡ names held ++ drop (total held) before
  -- the length at first is still what an area is held to
  pub length_kept : word_of s 1 ≡ length before
  -- "up to 4,096 entries", "at most 65,536 bytes" of names
  pub few : length held ≤ most_entries
  pub room : total held ≤ room_in (length before)

pub record IndexClaim : Type 0 where
  -- "Keep an index beside a listing of either version": of every list of replies, whatever stood in slots and area
  pub opens : (s : List ℕ) (n : ℕ) → length s ≡ slots_size → (cross_index_open s n).1 ≡ 0
  pub answers : (s area : List ℕ) → length s ≡ slots_size → length area < 2 ^ 63 → (ts : List Tell) (heards : List Answer) → Hears ts heards → AllKnown heards
      → numbers_of (cross_index_open s (length area)).0 area ts ≡ answered_to (length area) [] heards
  pub holds : (s area : List ℕ) → length s ≡ slots_size → length area < 2 ^ 63 → (ts : List Tell) (heards : List Answer) → Hears ts heards → AllKnown heards
      → Holding area (held_after (length area) [] heards)
      (afterwards (cross_index_open s (length area)).0 area ts).0 (afterwards (cross_index_open s (length area)).0 area ts).1
  -- "and the index is then what it was before that entry": whatever bytes are lent, an answer other than 0 leaves them
  pub stays : (s area : List ℕ) (told : ℕ) (reply rx : List ℕ) → ((cross_index_add s area told reply rx).number ≡ 0 → ⊥)
      → cross_index_add s area told reply rx ≡ indexed s area (cross_index_add s area told reply rx).number
  -- a reply that tells no answer of a call that went through changes nothing
  pub others : (s area : List ℕ) (told : ℕ) (reply rx : List ℕ) → is_index s (length area) ≡ true → out_size ≤ length reply → (told ≡ 0 → ⊥)
      → cross_index_add s area told reply rx ≡ indexed s area 0
  -- "An area of another length than at first gives 3, ahead of 19, and changes nothing", to an entry and to a query
  pub other_length : (s area : List ℕ) (told : ℕ) (reply rx : List ℕ) → (word_of s 1 ≡ length area → ⊥)
      → cross_index_add s area told reply rx ≡ indexed s area misplaced
  pub other_between : (s : List ℕ) (n : ℕ) (a b : ℤ) (out : List ℕ) → (word_of s 1 ≡ n → ⊥) → cross_index_between s n a b out ≡ (out, misplaced)
  pub other_latest : (s : List ℕ) (n : ℕ) (t : ℤ) (out : List ℕ) → (word_of s 1 ≡ n → ⊥) → cross_index_latest s n t out ≡ (out, misplaced)
  pub other_entry : (s : List ℕ) (n r : ℕ) (out : List ℕ) → (word_of s 1 ≡ n → ⊥) → cross_index_entry s n r out ≡ (out, misplaced)
  -- the length at first is what opening put there
  pub first_length : (s : List ℕ) (n : ℕ) → length s ≡ slots_size → n < 2 ^ 63 → word_of (cross_index_open s n).0 1 ≡ n
  -- no reply names a part outside the area, whatever bytes the slots have
  pub inside : (s : List ℕ) → Bytes s → (n r : ℕ) (out : List ℕ) → (cross_index_entry s n r out).1 ≡ 0
      → at (cross_index_entry s n r out).0 1 + at (cross_index_entry s n r out).0 2 ≤ n
  -- the order of times is that of the integers: each is before the next, the order carries over, and no two times are each before the other
  pub order_next : (t : ℤ) → no_later t (suc_ℤ t) ≡ true
  pub order_on : (r s t : ℤ) → no_later r s ≡ true → no_later s t ≡ true → no_later r t ≡ true
  pub order_one : (s t : ℤ) → no_later s t ≡ true → no_later t s ≡ true → s ≡ t
  -- what the definitions mean, and that nothing else has that meaning
  pub between_means : (a b : ℤ) (held : List Item) → Between a b held (between a b held)
  pub between_only : (a b : ℤ) (held l : List Item) → Between a b held l → l ≡ between a b held
  pub latest_means : (t : ℤ) (held : List Item) → Latest t held (latest t held)
  pub latest_only : (t : ℤ) (held : List Item) (o : Option Item) → Latest t held o → o ≡ latest t held
