-- What opening writes and no call or report writes again: the lengths of both buffers, the features, the ids.
-- Assumes nothing.
use Rattle.std.specs.Prelude.{ℕ, List, [], ◌∷◌, map, ◌≡◌}
use Rattle.protocol.specs.Bytes.{Bytes}
use Rattle.record.specs.Record.{word_of}
use Rattle.boundary.specs.Crossing.{Crossed}
use Rattle.boundary_misuse.specs.Misuse.{Event, Wide}

-- the places of those numbers in a record: capacity, message, features, the eight of the ids
abbrev pub places : List ℕ
places = 0 ∷ 1 ∷ 5 ∷ 24 ∷ 25 ∷ 26 ∷ 27 ∷ 28 ∷ 29 ∷ 30 ∷ 31 ∷ []

abbrev pub settled : List ℕ → List ℕ
settled rec = map (word_of rec) places

-- any record of bytes, also one that no opening left; `by` is what crosses, with or without totals behind the session
abbrev pub SettledClaim : (by : List ℕ → Event → Crossed) → Type 0
SettledClaim by = (rec : List ℕ) → Bytes rec → (e : Event) → Wide e → settled (by rec e).rec ≡ settled rec
