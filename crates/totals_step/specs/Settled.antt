-- What is settled in a record by a step that was taken: the bytes consumed, the length of the piece that was last asked, and the reads of the call; and what
-- its reply has room for.
-- Assumes nothing.
use Rattle.std.specs.Prelude.{◌≡◌, ℕ, ◌+◌, ◌-◌, ◌%◌, ◌≤◌, Bool, ◌&&◌, List, [], length, nat_le}
use Rattle.protocol.specs.Bytes.{bytes_of, put}
use Rattle.boundary.specs.Heard.{at, heard}
use Rattle.boundary.specs.Told.{out_size}
use Rattle.record.specs.Record.{word_of}
use Rattle.totals.specs.Crossing.{received_of, asked_of, limit, piece_asked}

-- the length of the piece, by the number and the slice of a reply: the buffers that a host would read with them do not matter
unfoldable pub asked_by : (number : ℕ) → (out : List ℕ) → (before : ℕ) → ℕ
asked_by n out b = piece_asked (heard n out [] []) b

unfoldable pub consumed_in : (rec : List ℕ) → List ℕ
consumed_in rec = put rec 264 (bytes_of 8 (limit + received_of rec + word_of rec 2 - word_of rec 3))

unfoldable pub settled_by : (rec : List ℕ) → (number : ℕ) → (out : List ℕ) → List ℕ
settled_by rec n out = put (consumed_in rec) 280 (bytes_of 8 (asked_by n out (asked_of rec)))

-- .. with these reads of the call
unfoldable pub finished_by : (rec : List ℕ) → (number reads : ℕ) → (out : List ℕ) → List ℕ
finished_by rec n k out = settled_by (put rec 288 (bytes_of 8 k)) n out

-- a report is taken where there is room for its reply too
abbrev pub room_for : (out : ℕ) → (takes : Bool) → Bool
room_for n b = nat_le out_size n && b

-- bytes that are asked to be written stand in the slice of the reply
abbrev pub Stands : (number : ℕ) → (out : List ℕ) → Type 0
Stands n out = n % 256 ≡ 4 → 8 + at out 0 ≤ length out
