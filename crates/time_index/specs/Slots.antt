-- The index in lent bytes: 65,568 for the slots, and an area for the names.
--
-- The slots begin with four numbers of eight bytes: the mark, the length of the area, how many entries are held, how many bytes their
-- names take. Then 4,096 slots of 16 bytes, in time order: the time in eight bytes, two's complement; where the name starts in the area,
-- in four; the name's length and the entry's number in four, 4,096 × length + number.
-- Assumes nothing.
use Rattle.std.specs.Prelude.{ℕ, zero, suc, ◌+◌, ◌-◌, ◌*◌, ◌/◌, ◌%◌, Bool, ◌&&◌, List, [], ◌∷◌, ◌++◌, eqb, leb, ℤ, length, take, drop}
use Rattle.protocol.specs.Bytes.{pick, bytes_of, over}
use Rattle.protocol.specs.Records.{u32_at, i64_at}
use Rattle.record.specs.Fields.{unsigned}
use Rattle.record.specs.Record.{words, word_of}
use Rattle.time_index.specs.Index.{most_entries, room_in, no_later, earlier}

abbrev pub slots_size : ℕ
slots_size = 65568

-- ---- the four numbers

-- the number that "yugindex" spells
abbrev pub mark : ℕ
mark = 0x7865_646e_6967_7579

abbrev pub count_in : List ℕ → ℕ
count_in s = word_of s 2

abbrev pub used_in : List ℕ → ℕ
used_in s = word_of s 3

abbrev pub headed : (area count used : ℕ) → List ℕ
headed area count used = words (mark ∷ area ∷ count ∷ used ∷ [])

-- whether the slots hold an index beside an area of that length, its counts within their limits
unfoldable pub is_index : List ℕ → (area : ℕ) → Bool
is_index s area =
    eqb (length s) slots_size && eqb (word_of s 0) mark && eqb (word_of s 1) area && leb (count_in s) most_entries && leb (used_in s) (room_in area)

-- ---- the slots, by their rank in time order

abbrev pub slot_size : ℕ
slot_size = 16

abbrev pub slot_at : (rank : ℕ) → ℕ
slot_at r = 32 + slot_size * r

abbrev pub time_at : List ℕ → (rank : ℕ) → ℤ
time_at s r = i64_at (slot_at r) s

abbrev pub start_at : List ℕ → (rank : ℕ) → ℕ
start_at s r = u32_at (slot_at r + 8) s

abbrev pub length_at : List ℕ → (rank : ℕ) → ℕ
length_at s r = u32_at (slot_at r + 12) s / most_entries

abbrev pub number_at : List ℕ → (rank : ℕ) → ℕ
number_at s r = u32_at (slot_at r + 12) s % most_entries

-- how many of the first n ranks stand up to the last whose time a test holds of
unfoldable pub ranks : (ℤ → Bool) → List ℕ → (n : ℕ) → ℕ
ranks p s zero = 0
ranks p s (suc n) = pick (p (time_at s n)) (suc n) (ranks p s n)

-- the ranks up to the last at or before t, and up to the last before t
abbrev pub up_to : List ℕ → ℤ → ℕ
up_to s t = ranks (λ z. no_later z t) s (count_in s)

abbrev pub below : List ℕ → ℤ → ℕ
below s t = ranks (λ z. earlier z t) s (count_in s)

-- ---- one entry more

abbrev pub slot_of : ℤ → (start length number : ℕ) → List ℕ
slot_of t start length number = bytes_of 8 (unsigned t) ++ bytes_of 4 start ++ bytes_of 4 (most_entries * length + number)

-- a slot at a rank among n, those from there on one further
unfoldable pub slot_among : List ℕ → (n rank : ℕ) → (slot : List ℕ) → List ℕ
slot_among s n r slot = over s (slot_at r) (slot ++ take (slot_size * (n - r)) (drop (slot_at r) s))

-- an entry behind all that are not later; the counts anew
unfoldable pub slots_with : List ℕ → (time : ℤ) → (length : ℕ) → List ℕ
slots_with s t len =
    over (slot_among s (count_in s) (up_to s t) (slot_of t (used_in s) len (count_in s))) 16 (words ((count_in s + 1) ∷ (used_in s + len) ∷ []))
