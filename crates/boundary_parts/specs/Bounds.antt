-- Every part that a reply names lies inside its slice, whatever bytes the record has: nothing here asks who wrote it.
-- Assumes nothing.
use Rattle.std.specs.Prelude.{ℕ, ◌+◌, ◌/◌, ◌%◌, ◌≤◌, ◌<◌, ◌^◌, ◌||◌, List, eqb, length}
use Rattle.protocol.specs.Bytes.{Bytes, pick}
use Rattle.boundary.specs.Crossing.{Crossed}
use Rattle.boundary.specs.Heard.{at}
use Rattle.boundary_misuse.specs.Functions.{Functions}

-- what a reply names: nothing, or a part of one of the slices, where it starts and how long it is
pub data Part : Type 0 where
  nothing : Part
  of_rx : (start len : ℕ) → Part
  of_msg : (start len : ℕ) → Part
  of_lent : (start len : ℕ) → Part
  of_out : (start len : ℕ) → Part

-- an entry's name or a chunk lies in the receive buffer, a FAIL text in the message buffer
unfoldable pub told_part : (number : ℕ) → (out : List ℕ) → Part
told_part n out =
    pick (eqb n 0) (pick (eqb (at out 0) 4 || eqb (at out 0) 5 || eqb (at out 0) 6) (of_rx (at out 1) (at out 2)) nothing)
    (pick (eqb n 14) (of_msg (at out 1) (at out 2)) nothing)

-- by the number returned: told, read, write a part of the receive buffer, of what is lent, these bytes; a close names nothing
unfoldable pub named : (number : ℕ) → (out : List ℕ) → Part
named n out =
    pick (eqb (n % 256) 0) (told_part (n / 256) out)
    (pick (eqb (n % 256) 1) (of_rx (at out 0) (at out 1))
    (pick (eqb (n % 256) 2) (of_rx (at out 0) (at out 1))
    (pick (eqb (n % 256) 3) (of_lent (at out 0) (at out 1))
    (pick (eqb (n % 256) 4) (of_out 8 (at out 0)) nothing))))

module _ (rx msg lent out : List ℕ) where
  abbrev pub Inside : Part → Type 0
  Inside nothing = Unit {0}
  Inside (of_rx i n) = i + n ≤ length rx
  Inside (of_msg i n) = i + n ≤ length msg
  Inside (of_lent i n) = i + n ≤ length lent
  Inside (of_out i n) = i + n ≤ length out

-- what crossed, with this lent beside it
abbrev pub InBounds : (lent : List ℕ) → Crossed → Type 0
InBounds lent c = Inside c.rx c.msg lent c.out (named c.number c.out)

-- any record of bytes and any receive buffer; no slice has 2^63 bytes, and a mode, a time, flags, a moment and a code are 32 bits wide
pub record PartsInside (F : Functions) : Type 0 where
  pub start : (rec rx msg lent : List ℕ) (call a b moment : ℕ) (out : List ℕ) → Bytes rec → Bytes rx → length msg < 2 ^ 63 → length lent < 2 ^ 63
      → a < 2 ^ 32 → b < 2 ^ 32 → moment < 2 ^ 32 → InBounds lent (F.start rec rx msg lent call a b moment out)
  pub read : (rec rx msg lent : List ℕ) (count : ℕ) (out : List ℕ) → Bytes rec → Bytes rx → length msg < 2 ^ 63 → length lent < 2 ^ 63
      → InBounds lent (F.read rec rx msg lent count out)
  pub wrote : (rec rx msg lent out : List ℕ) → Bytes rec → Bytes rx → length msg < 2 ^ 63 → length lent < 2 ^ 63
      → InBounds lent (F.wrote rec rx msg lent out)
  pub fault : (rec rx msg lent : List ℕ) (kind code : ℕ) (out : List ℕ) → Bytes rec → Bytes rx → length msg < 2 ^ 63 → length lent < 2 ^ 63
      → code < 2 ^ 32 → InBounds lent (F.fault rec rx msg lent kind code out)
