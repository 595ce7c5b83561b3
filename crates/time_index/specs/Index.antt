-- The index beside a listing, on paper (document 02, [1]): what it holds, in listing order, and what it answers.
-- Assumes nothing.
use Rattle.std.specs.Prelude.{ℕ, ◌+◌, min, Bool, true, false, ◌&&◌, not, List, [], ◌∷◌, ◌++◌, ◌≡◌, eqb, leb, ltb, ℤ, pos, negsuc, length}
use Rattle.std.proofs.Math.Option.{Option, none, some}
use Rattle.protocol.specs.Answers as A
use Rattle.protocol.specs.Answers.{Answer}
use Rattle.protocol.specs.Bytes.{pick}

-- "up to 4,096 entries"
abbrev pub most_entries : ℕ
most_entries = 4096

-- "names end to end from the front of a lent area, at most 65,536 bytes of it"
abbrev pub most_names : ℕ
most_names = 65536

-- "turned away with 19"
abbrev pub index_full : ℕ
index_full = 19

-- an entry that is held: how many were held before it, its "mtime as a signed 64-bit number", its name
pub record Item : Type 0 where
  pub number : ℕ
  pub time : ℤ
  pub name : List ℕ

-- ---- times

-- whether s is t or before t
abbrev pub no_later : (s t : ℤ) → Bool
no_later (pos m) (pos n) = leb m n
no_later (pos m) (negsuc n) = false
no_later (negsuc m) (pos n) = true
no_later (negsuc m) (negsuc n) = leb n m

abbrev pub earlier : (s t : ℤ) → Bool
earlier s t = not (no_later t s)

-- "with mtime from a to b inclusive"
abbrev pub within : (a b t : ℤ) → Bool
within a b t = no_later a t && no_later t b

-- ---- what an answer offers to the index

pub data Offer : Type 0 where
  -- an entry of a listing, of either version
  entry : (time : ℤ) → (name : List ℕ) → Offer
  -- an answer that is no entry
  nothing : Offer
  -- no answer that a session gives
  unknown : Offer

-- v1's mtime has 32 bits and no sign; an entry of v2 with an error is still an entry
unfoldable pub offered : Answer → Offer
offered A.done = nothing
offered A.end = nothing
offered (A.stat s) = nothing
offered (A.stat2 s) = nothing
offered (A.entry s name) = pick (ltb s.mtime 0x1_0000_0000) (entry (pos s.mtime) name) unknown
offered (A.entry2 s name) = entry s.mtime name
offered (A.chunk b) = nothing
offered (A.refused n) = pick (eqb n 0) unknown nothing
offered (A.missing f) = nothing
offered (A.broken e) = nothing
offered (A.fail t) = nothing
offered (A.unexpected i) = nothing
offered (A.errno c) = nothing
offered A.too_large = nothing

-- not one that no session gives
abbrev pub Known : Answer → Type 0
Known a = offered a ≡ unknown → ⊥

-- ---- what is held: a list of items in listing order, beside an area of a length

-- the bytes of all names
abbrev pub total : List Item → ℕ
total [] = 0
total (x ∷ xs) = length x.name + total xs

-- the bytes of an area that names may take
abbrev pub room_in : (area : ℕ) → ℕ
room_in area = min area most_names

-- "An entry for which slots or name bytes run out, and no other, is turned away": whether there is a slot, and room for the name
unfoldable pub has_room : (area : ℕ) → List Item → (name : List ℕ) → Bool
has_room area held name = ltb (length held) most_entries && leb (total held + length name) (room_in area)

abbrev pub item : ℕ → ℤ → List ℕ → Item
item number time name = record { number = number; time = time; name = name }

unfoldable pub taken : (area : ℕ) → List Item → Offer → List Item
taken area held (entry t name) = pick (has_room area held name) (held ++ item (length held) t name ∷ []) held
taken area held nothing = held
taken area held unknown = held

-- what is answered to it
unfoldable pub answered : (area : ℕ) → List Item → Offer → ℕ
answered area held (entry t name) = pick (has_room area held name) 0 index_full
answered area held nothing = 0
answered area held unknown = 3

-- the index beside a list of answers, the numbers answered to them
abbrev pub held_after : (area : ℕ) → List Item → List Answer → List Item
held_after area held [] = held
held_after area held (a ∷ rest) = held_after area (taken area held (offered a)) rest

abbrev pub answered_to : (area : ℕ) → List Item → List Answer → List ℕ
answered_to area held [] = []
answered_to area held (a ∷ rest) = answered area held (offered a) ∷ answered_to area (taken area held (offered a)) rest

-- ---- what it answers

-- x, listed before all of a list in time order, goes in front of those that are not earlier
unfoldable pub inserted : Item → List Item → List Item
inserted x [] = x ∷ []
inserted x (y ∷ ys) = pick (no_later x.time y.time) (x ∷ y ∷ ys) (y ∷ inserted x ys)

-- "in time order, equal times in listing order"
unfoldable pub in_time : List Item → List Item
in_time [] = []
in_time (x ∷ xs) = inserted x (in_time xs)

-- those of which a test of their time holds
unfoldable pub keep : (ℤ → Bool) → List Item → List Item
keep p [] = []
keep p (x ∷ xs) = pick (p x.time) (x ∷ keep p xs) (keep p xs)

-- "exactly the entries it holds with mtime from a to b inclusive, each once with its name"
unfoldable pub between : (a b : ℤ) → List Item → List Item
between a b held = keep (within a b) (in_time held)

-- the later of two; among equal times the first listed
abbrev pub later_of : Item → Option Item → Item
later_of x none = x
later_of x (some y) = pick (no_later y.time x.time) x y

-- "the latest entry it holds at or before t, or none; among equal times the first listed"
unfoldable pub latest : (t : ℤ) → List Item → Option Item
latest t [] = none
latest t (x ∷ xs) = pick (no_later x.time t) (some (later_of x (latest t xs))) (latest t xs)
