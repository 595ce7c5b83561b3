-- What a receive buffer holds, and what each step leaves of the cursor and the bytes (document 01, recv_buf.rs).
-- Assumes nothing.
use Rattle.std.specs.Prelude.{ℕ, ◌+◌, ◌-◌, Bool, ◌&&◌, List, [], ◌++◌, leb, ltb, length, drop, Option, Some, None, Result, Ok, Err}
use Rattle.std.proofs.Math.Seq.{slice}
use Rattle.protocol.specs.Bytes.{pick}
use Rattle.recv_buf.specs.declared.RecvBuf.{RecvBuf}
use Rattle.recv_buf.specs.declared.TooLarge.{TooLarge}

abbrev pub cursor : ℕ → ℕ → RecvBuf
cursor h t = record { head = h; tail = t }

abbrev pub empty : RecvBuf
empty = cursor 0 0

-- how many bytes are held: 0 where head is past tail
abbrev pub held_count : RecvBuf → ℕ
held_count c = c.tail - c.head

-- head ≤ tail ≤ the buffer's length
abbrev pub sound : List ℕ → RecvBuf → Bool
sound b c = leb c.head c.tail && leb c.tail (length b)

-- "Held bytes lie from head to tail": nothing where the cursor is not sound
unfoldable pub held_bytes : List ℕ → RecvBuf → List ℕ
held_bytes b c = pick (sound b c) (slice c.head c.tail b) []

-- "head and tail move forward with each take and fill": not past what is held, not past the capacity
unfoldable pub taken : RecvBuf → ℕ → RecvBuf
taken c n = pick (leb n (held_count c)) (cursor (c.head + n) c.tail) c

unfoldable pub filled : RecvBuf → ℕ → ℕ → RecvBuf
filled c n capacity = pick (leb (c.tail + n) capacity) (cursor c.head (c.tail + n)) c

-- "Compaction moves held bytes to the front; every byte from the new tail on stays what it was"
abbrev pub moved : List ℕ → ℕ → ℕ → List ℕ
moved b h t = slice h t b ++ drop (t - h) b

-- the buffer and the cursor afterwards: a cursor that is not sound changes nothing
unfoldable pub compacted : List ℕ → RecvBuf → List ℕ × RecvBuf
compacted b c = pick (sound b c) (moved b c.head c.tail, cursor 0 (held_count c)) (b, c)

-- what holding a number of bytes takes: they are more than the buffer has room for; they are held; a read into the window of this cursor
pub data Hold : Type 0 where
  too_large : Hold
  held : Hold
  read : RecvBuf → Hold

abbrev pub hold_of : Result (Option RecvBuf) TooLarge → Hold
hold_of (Err e) = too_large
hold_of (Ok None) = held
hold_of (Ok (Some c)) = read c

-- "To hold n bytes: if n exceeds the capacity, 17; else read until n are held, compacting only when tail meets the end"
unfoldable pub holding : List ℕ → RecvBuf → ℕ → List ℕ × Hold
holding b c n =
    pick (ltb (length b) n) (b, too_large)
    (pick (leb n (held_count c)) (b, held)
    (pick (ltb c.tail (length b)) (b, read c)
    ((compacted b c).0, read (compacted b c).1)))
