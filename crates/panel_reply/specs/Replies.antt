-- What the panel says: each reply and its bytes, as SYNC.TXT and file_sync_protocol.h lay them out (document 02, [4]).
-- Assumes nothing.
use Rattle.std.specs.Prelude.{ℕ, suc, ◌-◌, Bool, ◌&&◌, List, [], ◌++◌, leb, ltb, ℤ, length, replicate}
use Rattle.protocol.specs.Bytes.{pick, bytes_of, over}
use Rattle.protocol.specs.Calls.{Version}
use Rattle.protocol.specs.Ids.{Id, Dialect, STAT, STA2, DENT, DNT2, DATA, DONE, OKAY, FAIL}
use Rattle.protocol.specs.Messages.{word, data_most}
use Rattle.protocol.specs.Reader.{entry_length}
use Rattle.protocol.specs.Records.{Stat, Stat2}
use Rattle.record.specs.Fields.{unsigned}

-- "stat, entry and listing end in both versions, data chunk, transfer end, OKAY and FAIL"
pub data Reply : Type 0 where
  stat : Stat → Reply
  stat2 : Stat2 → Reply
  entry : Stat → (name : List ℕ) → Reply
  entry2 : Stat2 → (name : List ℕ) → Reply
  listing_end : Version → Reply
  chunk : (bytes : List ℕ) → Reply
  transfer_end : Reply
  okay : Reply
  fail : (text : List ℕ) → Reply

-- ---- fields, one behind the other

-- 64 bits, in eight bytes; a time in two's complement
abbrev pub long : ℕ → List ℕ
long x = bytes_of 8 x

abbrev pub time : ℤ → List ℕ
time z = long (unsigned z)

-- sync_stat_v1, behind its id
abbrev pub stat_fields : Stat → List ℕ
stat_fields s = word s.mode ++ word s.size ++ word s.mtime

-- sync_stat_v2, behind its id
abbrev pub stat2_fields : Stat2 → List ℕ
stat2_fields s =
    word s.error
    ++ long s.dev
    ++ long s.ino
    ++ word s.mode
    ++ word s.nlink
    ++ word s.uid
    ++ word s.gid
    ++ long s.size
    ++ time s.atime
    ++ time s.mtime
    ++ time s.ctime

-- a length, and what has it
abbrev pub with_length : List ℕ → List ℕ
with_length x = word (length x) ++ x

abbrev pub zeros : ℕ → List ℕ
zeros n = replicate n 0

-- ---- the bytes of a reply

-- an id in four bytes
abbrev pub id_size : ℕ
id_size = 4

-- behind its id: "All bytes after a DONE or OKAY id are zeros"; the DONE of a listing is as long as an entry without a name (document 01)
unfoldable pub behind_id : Reply → List ℕ
behind_id (stat s) = stat_fields s
behind_id (stat2 s) = stat2_fields s
behind_id (entry s name) = stat_fields s ++ with_length name
behind_id (entry2 s name) = stat2_fields s ++ with_length name
behind_id (listing_end v) = zeros (entry_length v - id_size)
behind_id (chunk b) = with_length b
behind_id transfer_end = zeros 4
behind_id okay = zeros 4
behind_id (fail t) = with_length t

abbrev pub reply_id : Reply → Id
reply_id (stat s) = STAT
reply_id (stat2 s) = STA2
reply_id (entry s name) = DENT
reply_id (entry2 s name) = DNT2
reply_id (listing_end v) = DONE
reply_id (chunk b) = DATA
reply_id transfer_end = DONE
reply_id okay = OKAY
reply_id (fail t) = FAIL

abbrev pub bytes_of_reply : Dialect → Reply → List ℕ
bytes_of_reply d r = d.bytes (reply_id r) ++ behind_id r

-- ---- what is taken

-- a number of 32 bits
abbrev pub fits32 : ℕ → Bool
fits32 n = ltb n 0x1_0000_0000

-- the lengths that are too many: "data over 65,536 bytes, or a name or text of 2^32 bytes or more"; nothing is lent with the others
abbrev pub too_many : Reply → ℕ
too_many (stat s) = 1
too_many (stat2 s) = 1
too_many (entry s name) = 0x1_0000_0000
too_many (entry2 s name) = 0x1_0000_0000
too_many (listing_end v) = 1
too_many (chunk b) = suc data_most
too_many transfer_end = 1
too_many okay = 1
too_many (fail t) = 0x1_0000_0000

-- what is lent with a reply: the name of an entry, the data of a chunk, the text of a FAIL
abbrev pub say_lent : Reply → List ℕ
say_lent (stat s) = []
say_lent (stat2 s) = []
say_lent (entry s name) = name
say_lent (entry2 s name) = name
say_lent (listing_end v) = []
say_lent (chunk b) = b
say_lent transfer_end = []
say_lent okay = []
say_lent (fail t) = t

unfoldable pub is_short : Reply → Bool
is_short r = ltb (length (say_lent r)) (too_many r)

-- into a buffer of so many bytes
abbrev pub is_taken : Dialect → Reply → (room : ℕ) → Bool
is_taken d r room = is_short r && leb (length (bytes_of_reply d r)) room

-- bytes at the front of a buffer, "bytes beyond the reply don't alter", and how many; 0, "with nothing written", where a test fails or they do not fit
unfoldable pub written : Bool → (m out : List ℕ) → List ℕ × ℕ
written t m out = pick (t && leb (length m) (length out)) (over out 0 m, length m) (out, 0)

-- a reply, and its length: 0, which no reply has, where it is not taken
abbrev pub spoken : Dialect → Reply → List ℕ → List ℕ × ℕ
spoken d r out = written (is_short r) (bytes_of_reply d r) out
