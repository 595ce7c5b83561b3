-- The panel's side as it crosses to a host: what `yuglasno_speak` and `yuglasno_heard` come to, the right-hand sides of their contracts.
-- Assumes nothing.
use Rattle.std.specs.Prelude.{ℕ, Bool, ◌&&◌, List, [], ◌∷◌, leb, ltb, length, get_or}
use Rattle.std.proofs.Math.Option.{Option, none, some}
use Rattle.protocol.specs.Bytes.{pick, over, put, signed}
use Rattle.protocol.specs.Calls.{v1, v2, call}
use Rattle.protocol.specs.Ids.{Dialect}
use Rattle.protocol.specs.Messages.{Request}
use Rattle.protocol.specs.Records.{Stat, Stat2, header_size}
use Rattle.protocol.specs.Requests.{Read, more, refused, request, read_request}
use Rattle.ids.specs.Ids.{dialect_of}
use Rattle.id_table.specs.Settings.{lent_in}
use Rattle.id_table.specs.Lent.{Lent}
use Rattle.id_table.specs.Lent as L
use Rattle.record.specs.Fields.{unsigned}
use Rattle.record.specs.Record.{words}
use Rattle.session.specs.Host.{Spare, lent_of}
use Rattle.boundary.specs.Boundary.{call_number, first_number, flag_number}
use Rattle.boundary.specs.Heard.{at}
use Rattle.boundary.specs.Told.{out_size}
use Rattle.panel_reply.specs.Replies.{Reply, stat, stat2, entry, entry2, listing_end, chunk, transfer_end, okay, fail, bytes_of_reply, fits32, is_taken}

-- settings of another length, a slice too short for a reply, a kind that is none, numbers that are not all there or too large for their field
abbrev pub misplaced : ℕ
misplaced = 3

-- "is answered 20 with nothing written"
abbrev pub long_reply : ℕ
long_reply = 20

-- "The sender of a request: 18; nothing taken"
abbrev pub bad_request : ℕ
bad_request = 18

-- by the ids in some settings: f of their dialect, or why they have none
abbrev pub on_table : {A : Type 0} → (ℕ → A) → (Dialect → A) → Lent → A
on_table z f (L.Ids t) = f (dialect_of t)
on_table z f (L.Refused n) = z n

-- ---- a reply by its kind; 0 to 6 are the kinds that a host is told (boundary/specs/Told)

abbrev pub say_kind : Reply → ℕ
say_kind okay = 0
say_kind transfer_end = 1
say_kind (stat s) = 2
say_kind (stat2 s) = 3
say_kind (entry s name) = 4
say_kind (entry2 s name) = 5
say_kind (chunk b) = 6
say_kind (fail t) = 7
say_kind (listing_end v1) = 8
say_kind (listing_end v2) = 9

-- the numbers that it carries, in document 01's order
abbrev pub numbers_of_stat : Stat → List ℕ
numbers_of_stat s = s.mode ∷ s.size ∷ s.mtime ∷ []

abbrev pub numbers_of_stat2 : Stat2 → List ℕ
numbers_of_stat2 s =
    s.error ∷ s.dev ∷ s.ino ∷ s.mode ∷ s.nlink ∷ s.uid ∷ s.gid ∷ s.size ∷ unsigned s.atime ∷ unsigned s.mtime ∷ unsigned s.ctime
    ∷ []

abbrev pub say_numbers : Reply → List ℕ
say_numbers okay = []
say_numbers transfer_end = []
say_numbers (stat s) = numbers_of_stat s
say_numbers (stat2 s) = numbers_of_stat2 s
say_numbers (entry s name) = numbers_of_stat s
say_numbers (entry2 s name) = numbers_of_stat2 s
say_numbers (chunk b) = []
say_numbers (fail t) = []
say_numbers (listing_end v) = []

-- ---- and back: the reply of a kind, its numbers in eight bytes each, and what is lent

abbrev pub stat_in : List ℕ → Stat
stat_in n = record { mode = at n 0; size = at n 1; mtime = at n 2 }

abbrev pub stat2_in : List ℕ → Stat2
stat2_in n =
    record {
      error = at n 0;
      dev = at n 1;
      ino = at n 2;
      mode = at n 3;
      nlink = at n 4;
      uid = at n 5;
      gid = at n 6;
      size = at n 7;
      atime = signed (at n 8);
      mtime = signed (at n 9);
      ctime = signed (at n 10);
    }

-- the fields of 32 bits are below 2^32
abbrev pub stat_narrow : Stat → Bool
stat_narrow s = fits32 s.mode && fits32 s.size && fits32 s.mtime

abbrev pub stat2_narrow : Stat2 → Bool
stat2_narrow s = fits32 s.error && fits32 s.mode && fits32 s.nlink && fits32 s.uid && fits32 s.gid

-- three numbers, or eleven
abbrev pub stat_room : ℕ
stat_room = 24

abbrev pub stat2_room : ℕ
stat2_room = 88

unfoldable pub with_stat : List ℕ → (Stat → Reply) → Option Reply
with_stat n f = pick (leb stat_room (length n) && stat_narrow (stat_in n)) (some (f (stat_in n))) none

unfoldable pub with_stat2 : List ℕ → (Stat2 → Reply) → Option Reply
with_stat2 n f = pick (leb stat2_room (length n) && stat2_narrow (stat2_in n)) (some (f (stat2_in n))) none

abbrev pub reply_numbered : (kind : ℕ) → (numbers lent : List ℕ) → Option Reply
reply_numbered k n lent =
    get_or
    (some okay ∷ some transfer_end ∷ with_stat n stat ∷ with_stat2 n stat2 ∷ with_stat n (λ s. entry s lent) ∷ with_stat2 n (λ s. entry2 s lent) ∷ some (chunk lent)
    ∷ some (fail lent) ∷ some (listing_end v1) ∷ some (listing_end v2)
    ∷ []) k none

-- ---- speaking: every byte of the buffer and of the slice for the length, and the answer

pub record Spoken : Type 0 where
  pub out : List ℕ
  pub told : List ℕ
  pub number : ℕ

abbrev pub spoke : (out told : List ℕ) → ℕ → Spoken
spoke out told n = record { out = out; told = told; number = n }

-- the reply at the front of the buffer, its length at the front of the slice; or 20, nothing altered
abbrev pub saying : Dialect → (out told : List ℕ) → Reply → Spoken
saying d out told r =
    pick (is_taken d r (length out)) (spoke (over out 0 (bytes_of_reply d r)) (put told 0 (words (length (bytes_of_reply d r) ∷ []))) 0)
    (spoke out told long_reply)

abbrev pub if_given : (out told : List ℕ) → (Reply → Spoken) → Option Reply → Spoken
if_given out told f (some r) = f r
if_given out told f none = spoke out told misplaced

unfoldable pub cross_speak : (settings : List ℕ) → (kind : ℕ) → (numbers lent out told : List ℕ) → Spoken
cross_speak settings k numbers lent out told =
    pick (ltb (length told) out_size) (spoke out told misplaced)
    (on_table (spoke out told) (λ d. if_given out told (saying d out told) (reply_numbered k numbers lent)) (lent_in settings))

-- ---- hearing: every byte of the slice for the reply, and the answer

-- a call is lent and passed nothing besides
abbrev pub nothing : Spare
nothing = record { out = []; lent = []; first = 0; second = 0; kind = 0; code = 0 }

-- the number of the call that writes it, where its path or data starts and how long it is, its mode or time, its flags, and its length
abbrev pub request_words : Request → (size : ℕ) → List ℕ
request_words q n = call_number (call q) ∷ header_size ∷ length (lent_of nothing (call q)) ∷ first_number nothing (call q) ∷ flag_number nothing (call q) ∷ n ∷ []

-- "more" is number 0, which no call has
abbrev pub more_words : List ℕ
more_words = 0 ∷ 0 ∷ 0 ∷ 0 ∷ 0 ∷ 0 ∷ []

abbrev pub hearing : List ℕ → Read → List ℕ × ℕ
hearing out more = (put out 0 (words more_words), 0)
hearing out refused = (out, bad_request)
hearing out (request q n) = (put out 0 (words (request_words q n)), 0)

abbrev pub sliced : List ℕ → ℕ → List ℕ × ℕ
sliced out n = (out, n)

unfoldable pub cross_heard : (settings bytes out : List ℕ) → List ℕ × ℕ
cross_heard settings bytes out =
    pick (ltb (length out) out_size) (sliced out misplaced)
    (on_table (sliced out) (λ d. hearing out (read_request d bytes)) (lent_in settings))
