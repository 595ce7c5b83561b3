-- What is claimed of the request reader, in terms of its own: what it accepts, and the table of headers that are not 18.
-- Assumes nothing.
use Rattle.std.specs.Prelude.{ℕ, ◌+◌, ◌≤◌, ◌<◌, List, [], ◌∷◌, ◌++◌, ◌⊎◌, ◌≡◌, length, take, drop}
use Rattle.std.proofs.Math.Option.{some}
use Rattle.protocol.specs.Decimal.{canonical}
use Rattle.protocol.specs.Ids.{Id, SEND, SND2, RCV2, DATA, DONE, QUIT, Dialect}
use Rattle.protocol.specs.Messages.{PathOnly, path_id, Request, send, chunk, word, bytes_of_request, HostWrites}
use Rattle.protocol.specs.Modes.{InOctal}
use Rattle.protocol.specs.Records.{header_size}
use Rattle.protocol.specs.Requests.{request, read_request}

-- ---- what is accepted

-- a SEND with its mode in this text
abbrev pub send_with : Dialect → (path text : List ℕ) → List ℕ
send_with d p text = d.bytes SEND ++ word (length p + 1 + length text) ++ (p ++ 44 ∷ text)

-- The bytes of a request: those that the host writes, or those of a SEND with "a leading 0 followed by one to eleven octal digits" (document 02, [5]).
pub data Form (d : Dialect) (q : Request) (bytes : List ℕ) : Type 0 where
  by_host : bytes ≡ bytes_of_request d q → Form d q bytes
  in_octal : (p text : List ℕ) (m : ℕ) → q ≡ send p m → InOctal text m → bytes ≡ send_with d p text → Form d q bytes

-- the mode of a SEND came in decimal: the text behind the path and the comma is its canonical decimal; other requests have no such text
abbrev pub InDecimal : Request → List ℕ → Type 0
InDecimal q bytes = (p : List ℕ) (m : ℕ) → q ≡ send p m → canonical (drop (header_size + length p + 1) bytes) ≡ some m

-- What is accepted, the first n bytes of s: a request that the host would write, or DATA of length 0 (document 01). "The host goes on writing
-- decimal, so reading back and writing again yields the same request, and equal bytes exactly where the mode came in decimal" (document 02, [5]).
pub record Accepted (d : Dialect) (s : List ℕ) (q : Request) (n : ℕ) : Type 0 where
  pub taken : HostWrites d q ⊎ (q ≡ chunk [])
  pub within : n ≤ length s
  pub form : Form d q (take n s)
  pub again : d.longest + 11 < 0x1_0000_0000 → (rest : List ℕ) → read_request d (bytes_of_request d q ++ rest) ≡ request q (length (bytes_of_request d q))
  pub equal_if_decimal : InDecimal q (take n s) → take n s ≡ bytes_of_request d q
  pub decimal_if_equal : take n s ≡ bytes_of_request d q → InDecimal q (take n s)

-- ---- headers

-- The headers that are not 18, and how long a message with such a header is: "18 if the id is none of the host's eleven (the eight
-- requests above, DATA, DONE, QUIT), if arg exceeds" 1,024 (DATA 65,536: document 02, [2]; SEND 1,037: [5]), "or QUIT's arg isn't 0; DONE's arg
-- is free".
pub data Heads (d : Dialect) (arg : ℕ) : Id → (size : ℕ) → Type 0 where
  of_path : (i : PathOnly) → arg ≤ d.longest → Heads d arg (path_id i) (8 + arg)
  of_RCV2 : arg ≤ d.longest → Heads d arg RCV2 (8 + (arg + 8))
  of_SEND : arg ≤ d.longest + 13 → Heads d arg SEND (8 + arg)
  of_SND2 : arg ≤ d.longest → Heads d arg SND2 (8 + (arg + 12))
  of_DATA : arg ≤ 65536 → Heads d arg DATA (8 + arg)
  of_DONE : Heads d arg DONE 8
  of_QUIT : arg ≡ 0 → Heads d arg QUIT 8
