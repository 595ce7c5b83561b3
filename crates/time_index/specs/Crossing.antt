-- What the exported functions of the index come to: the right-hand sides of their contracts. Slots that hold no index beside an area of this
-- length, and a slice under 120 bytes for a reply, are answered 3, nothing altered.
-- Assumes nothing.
use Rattle.std.specs.Prelude.{ℕ, zero, suc, ◌+◌, ◌-◌, Bool, ◌&&◌, List, [], ◌∷◌, eqb, leb, ltb, ℤ, length}
use Rattle.protocol.specs.Bytes.{pick, over, put}
use Rattle.protocol.specs.Records.{u64_at}
use Rattle.boundary.specs.Heard.{at, done_heard}
use Rattle.boundary.specs.Told.{out_size}
use Rattle.record.specs.Record.{words}
use Rattle.time_index.specs.Index.{most_entries, index_full, room_in, Offer, entry, nothing, unknown, offered}
use Rattle.time_index.specs.Slots.{slots_size, headed, is_index, count_in, used_in, slot_at, time_at, start_at, length_at, number_at, up_to, below, slots_with}

-- lent bytes that are not what they were at the opening, or no reply of a session
abbrev pub misplaced : ℕ
misplaced = 3

-- every byte of the one slice that a function may write, and the answer
abbrev pub laid : List ℕ → ℕ → List ℕ × ℕ
laid s n = (s, n)

-- ---- opening

unfoldable pub cross_index_open : List ℕ → (area : ℕ) → List ℕ × ℕ
cross_index_open s area = pick (eqb (length s) slots_size) (over s 0 (headed area 0 0), 0) (s, misplaced)

-- ---- adding: every byte of slots and area, and the answer

pub record Indexed : Type 0 where
  pub slots : List ℕ
  pub area : List ℕ
  pub number : ℕ

abbrev pub indexed : (slots area : List ℕ) → ℕ → Indexed
indexed s area n = record { slots = s; area = area; number = n }

-- what a reply offers: its number, its slice, the receive buffer that its part lies in
unfoldable pub offered_by : (told : ℕ) → (reply rx : List ℕ) → Offer
offered_by told reply rx = pick (eqb told 0) (offered (done_heard (at reply 0) reply rx)) nothing

-- whether there is a slot, and room for a name of that length
unfoldable pub has_slot : List ℕ → (area length : ℕ) → Bool
has_slot s area len = ltb (count_in s) most_entries && leb (used_in s + len) (room_in area)

unfoldable pub added : (slots area : List ℕ) → Offer → Indexed
added s area (entry t name) =
    pick (has_slot s (length area) (length name)) (indexed (slots_with s t (length name)) (over area (used_in s) name) 0)
    (indexed s area index_full)
added s area nothing = indexed s area 0
added s area unknown = indexed s area misplaced

unfoldable pub cross_index_add : (slots area : List ℕ) → (told : ℕ) → (reply rx : List ℕ) → Indexed
cross_index_add s area told reply rx =
    pick (is_index s (length area) && leb out_size (length reply)) (added s area (offered_by told reply rx)) (indexed s area misplaced)

-- ---- queries: every byte of the slice for the reply, and the answer

abbrev pub answering : List ℕ → (area : ℕ) → (out : List ℕ) → List ℕ × ℕ → List ℕ × ℕ
answering s area out a = pick (is_index s area && leb out_size (length out)) a (out, misplaced)

-- how many, and the rank of the first
unfoldable pub cross_index_between : List ℕ → (area : ℕ) → (from to : ℤ) → (out : List ℕ) → List ℕ × ℕ
cross_index_between s area from to out = answering s area out (put out 0 (words ((up_to s to - below s from) ∷ below s from ∷ [])), 0)

-- ... of the latest at or before a time, by how many ranks there are up to that time
abbrev pub latest_of : List ℕ → ℕ → List ℕ
latest_of s zero = 0 ∷ 0 ∷ []
latest_of s (suc r) = 1 ∷ below s (time_at s r) ∷ []

unfoldable pub cross_index_latest : List ℕ → (area : ℕ) → (time : ℤ) → (out : List ℕ) → List ℕ × ℕ
cross_index_latest s area t out = answering s area out (put out 0 (words (latest_of s (up_to s t))), 0)

-- how many, 1 or 0; where the name starts in the area, how long it is; the entry's number; its time, two's complement
abbrev pub entry_words : List ℕ → (rank : ℕ) → List ℕ
entry_words s r = 1 ∷ start_at s r ∷ length_at s r ∷ number_at s r ∷ u64_at (slot_at r) s ∷ []

-- no entry has that rank
abbrev pub no_words : List ℕ
no_words = 0 ∷ 0 ∷ 0 ∷ 0 ∷ 0 ∷ []

abbrev pub entry_in : List ℕ → (rank : ℕ) → (out : List ℕ) → List ℕ × ℕ
entry_in s r out =
    pick (ltb r (count_in s))
    (pick (leb (start_at s r + length_at s r) (used_in s)) (put out 0 (words (entry_words s r)), 0) (out, misplaced))
    (put out 0 (words no_words), 0)

unfoldable pub cross_index_entry : List ℕ → (area rank : ℕ) → (out : List ℕ) → List ℕ × ℕ
cross_index_entry s area r out = answering s area out (entry_in s r out)
