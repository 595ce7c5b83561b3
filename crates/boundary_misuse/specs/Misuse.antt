-- What a caller is refused: document 01's "Answers, by who can cause them", in document 02's order ([6]), as a table over what the host has
-- seen. Nothing here looks inside a session.
-- Assumes nothing.
use Rattle.std.specs.Prelude.{ℕ, ◌<◌, ◌^◌, Bool, true, false, ◌&&◌, ◌||◌, not, List, [], ◌∷◌, eqb, ltb, length, get_or}
use Rattle.std.proofs.Math.Option.{Option, none, some}
use Rattle.protocol.specs.Answers as A
use Rattle.protocol.specs.Answers.{Answer, refused}
use Rattle.protocol.specs.Bytes.{Bytes}
use Rattle.protocol.specs.Calls.{v1, v2, Call, call, next_entry, next_chunk}
use Rattle.protocol.specs.Refusal.{or_else, refuse, call_refusal}
use Rattle.protocol.specs.Features.{features_of}
use Rattle.protocol.specs.Ids.{published}
use Rattle.protocol.specs.Messages.{stat, sta2, list, lis2, recv, ask, rcv2, send, snd2, chunk, done, quit}
use Rattle.id_table.specs.Settings.{lent_in}
use Rattle.id_table.specs.Lent.{Lent}
use Rattle.id_table.specs.Lent as L
use Rattle.session.specs.Host.{Show, told, read, write_rx, write_lent, write_bytes, close}
use Rattle.boundary.specs.Crossing.{Crossed}
use Rattle.boundary_misuse.specs.Functions.{Functions, session_functions}
use Rattle.boundary.specs.Told.{out_size}

-- ---- what the host does

-- so many bytes were read; a write or the close was accepted; a read, a write or the close came to a fault, of any kind and code
pub data HostReport : Type 0 where
  has_read : (count : ℕ) → HostReport
  wrote : HostReport
  fault : (kind code : ℕ) → HostReport

-- a call by its number, with its mode or time, its flags and its moment; or a report
pub data Act : Type 0 where
  start : (call a b moment : ℕ) → Act
  report : HostReport → Act

-- .. and what it lends: a path or data, both buffers, the slice of the reply; any bytes, of any length
pub record Event : Type 0 where
  pub act : Act
  pub lent : List ℕ
  pub rx : List ℕ
  pub msg : List ℕ
  pub out : List ℕ

-- the widths of what is passed (no slice has 2^63 bytes)
abbrev pub WideAct : Act → Type 0
WideAct (start n a b t) = (a < 2 ^ 32) × ((b < 2 ^ 32) × (t < 2 ^ 32))
WideAct (report (has_read k)) = Unit {0}
WideAct (report wrote) = Unit {0}
WideAct (report (fault kind code)) = code < 2 ^ 32

pub record Wide (e : Event) : Type 0 where
  pub act : WideAct e.act
  pub lent : length e.lent < 2 ^ 63
  pub msg : length e.msg < 2 ^ 63
  pub out : length e.out < 2 ^ 63
  pub rx : Bytes e.rx

abbrev pub AllWide : List Event → Type 0
AllWide [] = Unit {0}
AllWide (e ∷ es) = Wide e × AllWide es

-- what crosses, on a record
abbrev pub acted_by : Functions → List ℕ → Event → Act → Crossed
acted_by F rec e (start n a b t) = F.start rec e.rx e.msg e.lent n a b t e.out
acted_by F rec e (report (has_read k)) = F.read rec e.rx e.msg e.lent k e.out
acted_by F rec e (report wrote) = F.wrote rec e.rx e.msg e.lent e.out
acted_by F rec e (report (fault kind code)) = F.fault rec e.rx e.msg e.lent kind code e.out

abbrev pub done_by : Functions → List ℕ → Event → Crossed
done_by F rec e = acted_by F rec e e.act

-- .. of the session alone
abbrev pub acted : List ℕ → Event → Act → Crossed
acted rec e a = acted_by session_functions rec e a

abbrev pub crossed_by : List ℕ → Event → Crossed
crossed_by rec e = done_by session_functions rec e

-- ---- what the host has seen

-- Both lengths at the opening, and the features of its banner; the length lent at the start of the last call; what was last asked or
-- told; whether a quit has ended. Calls and reports that were refused leave no trace in it.
pub record Seen : Type 0 where
  pub capacity : ℕ
  pub message : ℕ
  pub features : List Bool
  pub lent : ℕ
  pub last : Show
  pub ended : Bool

abbrev pub opened : (banner : List ℕ) → (capacity message : ℕ) → Seen
opened banner c m = record { capacity = c; message = m; features = features_of banner; lent = 0; last = told A.done; ended = false }

-- a call is pending: something is asked
abbrev pub pending : Show → Bool
pending (told a) = false
pending (read at len) = true
pending (write_rx at len) = true
pending (write_lent at len) = true
pending (write_bytes b) = true
pending close = true

abbrev pub reading : Show → Bool
reading (told a) = false
reading (read at len) = true
reading (write_rx at len) = false
reading (write_lent at len) = false
reading (write_bytes b) = false
reading close = false

abbrev pub closing : Show → Bool
closing (told a) = false
closing (read at len) = false
closing (write_rx at len) = false
closing (write_lent at len) = false
closing (write_bytes b) = false
closing close = true

-- the length of the window that was asked for
abbrev pub window : Show → ℕ
window (told a) = 0
window (read at len) = len
window (write_rx at len) = 0
window (write_lent at len) = 0
window (write_bytes b) = 0
window close = 0

-- ---- the table

-- what settings are refused for: 3 another length, 22 a value that is none, 23 two equal values (document 02, [9])
abbrev pub table_refused : Lent → Option Answer
table_refused (L.Ids t) = none
table_refused (L.Refused n) = some (refused n)

-- 1 receive buffer under 8; 2 message buffer shorter than the receive buffer; 3 a record of another length than a session takes; then the
-- settings
abbrev pub open_refused : (takes : ℕ) → (rec settings : List ℕ) → (rx msg : ℕ) → Option Answer
open_refused takes rec settings rx msg =
    or_else (refuse (ltb rx 8) (refused 1))
    (or_else (refuse (ltb msg rx) (refused 2)) (or_else (refuse (not (eqb (length rec) takes)) (refused 3)) (table_refused (lent_in settings))))

-- 3 "the length of either buffer differs from the one at opening"; or no reply fits its slice
abbrev pub misfits : Seen → Event → Bool
misfits s e = ltb (length e.out) out_size || (not (eqb (length e.rx) s.capacity) || not (eqb (length e.msg) s.message))

-- .. "or, in a report, that of the path or data from the one at the start of the pending call"
abbrev pub other_lent : Seen → Event → Bool
other_lent s e = pending s.last && not (eqb (length e.lent) s.lent)

-- the call of a number; a is a mode or a time, b flags, p a path or data
abbrev pub call_of : (n a b : ℕ) → (p : List ℕ) → Option Call
call_of n a b p =
    get_or (none ∷ some (call (ask stat p)) ∷ some (call (ask sta2 p)) ∷ some (call (ask list p)) ∷ some (call (ask lis2 p)) ∷ some (call (ask recv p))
    ∷ some (call (rcv2 p b)) ∷ some (call (send p a)) ∷ some (call (snd2 p a b))
    ∷ some (call (chunk p)) ∷ some (call (done a)) ∷ some (call quit)
    ∷ some (next_entry v1) ∷ some (next_entry v2) ∷ some next_chunk
    ∷ []) n none

-- 5 for a number that is no call's; 8, 7, 9 and 10 as the plain reader has them, whatever the letters of its table
abbrev pub numbered : Seen → Option Call → Option Answer
numbered s none = some (refused 5)
numbered s (some q) = call_refusal (record { dialect = published; features = s.features; ended = s.ended }) q

-- a count is awaited where a read was asked, "accepted" where a write or the close was, a fault where any of them was
abbrev pub awaited : Show → HostReport → Bool
awaited sh (has_read k) = reading sh
awaited sh wrote = pending sh && not (reading sh)
awaited sh (fault kind code) = pending sh

-- 11 "a read of 0 bytes or beyond the window"
abbrev pub outside : Show → HostReport → Bool
outside sh (has_read k) = eqb k 0 || ltb (window sh) k
outside sh wrote = false
outside sh (fault kind code) = false

-- "The written order becomes 1, 2, then 3, 6, 4, 5, 8, 7, 9, 10" (document 02, [6]). "For a report: 3, 6, 5, 11" (document 01).
abbrev pub refused_at : Seen → Event → Act → Option Answer
refused_at s e (start n a b t) =
    or_else (refuse (misfits s e) (refused 3))
    (or_else (refuse s.ended (refused 6))
    (or_else (refuse (pending s.last) (refused 4)) (numbered s (call_of n a b e.lent))))
refused_at s e (report r) =
    or_else (refuse (misfits s e || other_lent s e) (refused 3))
    (or_else (refuse s.ended (refused 6))
    (or_else (refuse (not (awaited s.last r)) (refused 5)) (refuse (outside s.last r) (refused 11))))

abbrev pub refusal : Seen → Event → Option Answer
refusal s e = refused_at s e e.act
