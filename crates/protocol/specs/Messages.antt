-- What the host writes: each request as a message, "header and parts", and the pieces it goes out in (document 01, sync.rs).
-- Assumes nothing.
use Rattle.std.specs.Prelude.{ℕ, ◌+◌, ◌≤◌, ◌<◌, true, false, List, [], ◌∷◌, ◌++◌, ◌≡◌, leb, length}
use Rattle.protocol.specs.Bytes.{pick, ascii, has, bytes_of}
use Rattle.protocol.specs.Decimal.{decimal}
use Rattle.protocol.specs.Flags.{refused_flags}
use Rattle.protocol.specs.Ids.{Id, Dialect, STAT, STA2, LIST, LIS2, SEND, SND2, RECV, RCV2, DATA, DONE, QUIT}

-- the requests that carry a path and nothing else
pub data PathOnly : Type 0 where
  stat sta2 list lis2 recv : PathOnly

abbrev pub path_id : PathOnly → Id
path_id stat = STAT
path_id sta2 = STA2
path_id list = LIST
path_id lis2 = LIS2
path_id recv = RECV

pub data Request : Type 0 where
  ask : PathOnly → (path : List ℕ) → Request
  rcv2 : (path : List ℕ) → (flags : ℕ) → Request
  send : (path : List ℕ) → (mode : ℕ) → Request
  snd2 : (path : List ℕ) → (mode : ℕ) → (flags : ℕ) → Request
  chunk : (bytes : List ℕ) → Request
  done : (mtime : ℕ) → Request
  quit : Request

-- a message is header and parts
pub record Message : Type 0 where
  pub id : Id
  pub arg : ℕ
  pub parts : List (List ℕ)

-- 32 bits, in four bytes
abbrev pub word : ℕ → List ℕ
word x = bytes_of 4 x

abbrev pub comma : List ℕ
comma = ascii ","

unfoldable pub message_of : Dialect → Request → Message
message_of d (ask i p) = record { id = path_id i; arg = length p; parts = p ∷ [] }
message_of d (rcv2 p f) = record { id = RCV2; arg = length p; parts = p ∷ d.bytes RCV2 ∷ word f ∷ [] }
message_of d (send p m) = record { id = SEND; arg = length p + 1 + length (decimal m); parts = p ∷ comma ∷ decimal m ∷ [] }
message_of d (snd2 p m f) = record { id = SND2; arg = length p; parts = p ∷ d.bytes SND2 ∷ word m ∷ word f ∷ [] }
message_of d (chunk x) = record { id = DATA; arg = length x; parts = x ∷ [] }
message_of d (done t) = record { id = DONE; arg = t; parts = [] }
message_of d quit = record { id = QUIT; arg = 0; parts = [] }

abbrev pub header : Dialect → Message → List ℕ
header d m = d.bytes m.id ++ word m.arg

abbrev pub joined : List (List ℕ) → List ℕ
joined [] = []
joined (p ∷ ps) = p ++ joined ps

abbrev pub nonempty : List (List ℕ) → List (List ℕ)
nonempty [] = []
nonempty ([] ∷ ps) = nonempty ps
nonempty ((b ∷ p) ∷ ps) = (b ∷ p) ∷ nonempty ps

-- the bytes of a request
unfoldable pub bytes_of_request : Dialect → Request → List ℕ
bytes_of_request d q = header d (message_of d q) ++ joined (message_of d q).parts

-- a message in pieces: the header, then each nonempty part
unfoldable pub apart : Dialect → Request → List (List ℕ)
apart d q = header d (message_of d q) ∷ nonempty (message_of d q).parts

-- the pieces, with `free` bytes in the free end: one where the message fits, an exact fit included; otherwise the pieces above
unfoldable pub pieces : Dialect → ℕ → Request → List (List ℕ)
pieces d free q = pick (leb (length (bytes_of_request d q)) free) (bytes_of_request d q ∷ []) (apart d q)

-- a path that the host writes: at most the longest, no NUL
pub record PathOk (d : Dialect) (p : List ℕ) : Type 0 where
  pub short : length p ≤ d.longest
  pub no_nul : has 0 p ≡ false

abbrev pub data_most : ℕ
data_most = 65536

-- the requests that the host writes: those that 8, 7 and 9 let pass, with numbers of 32 bits, and data that is cut at 65,536
abbrev pub HostWrites : Dialect → Request → Type 0
HostWrites d (ask i p) = PathOk d p
HostWrites d (rcv2 p f) = PathOk d p × ((refused_flags true f ≡ false) × (f < 0x1_0000_0000))
HostWrites d (send p m) = PathOk d p × (m < 0x1_0000_0000)
HostWrites d (snd2 p m f) = PathOk d p × ((m < 0x1_0000_0000) × ((refused_flags false f ≡ false) × (f < 0x1_0000_0000)))
HostWrites d (chunk x) = (0 < length x) × (length x ≤ data_most)
HostWrites d (done t) = t < 0x1_0000_0000
HostWrites d quit = Unit {0}
