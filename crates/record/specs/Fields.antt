-- A session as 32 numbers: which number each of its fields is, and the session that 32 numbers are.
--
--  0 capacity   1 message   2 head   3 tail   4 lent   5 features   6 ended
--  7 the state of the pending step   8 flag   9 until   10 from   11 piece   12 to 23 registers
--  24 to 31 the ids, two to a number
--
-- Assumes nothing.
use Rattle.std.specs.Prelude.{ℕ, zero, suc, ◌+◌, ◌*◌, ◌-◌, ◌/◌, ◌%◌, Bool, true, false, ◌&&◌, ◌||◌, List, [], ◌∷◌, ◌++◌, map, eqb, ltb, leb, ℤ, pos, negsuc, get_or}
use Rattle.protocol.specs.Bytes.{signed}
use Rattle.features.specs.Meaning.{listed}
use Rattle.format_flags.specs.declared.FileMode.{FileMode}
use Rattle.format_flags.specs.declared.SyncFlags.{SyncFlags}
use Rattle.format_record.specs.declared.DentV1.{DentV1}
use Rattle.format_record.specs.declared.DentV2.{DentV2}
use Rattle.ids.specs.declared.Ids.{Ids}
use Rattle.request.specs.declared.Request.{Request}
use Rattle.request.specs.declared.Request.TheVariants as Q
use Rattle.session.specs.Core.{features_from}
use Rattle.session.specs.Sends.{is_data}
use Rattle.session.specs.declared.Pending.{Pending}
use Rattle.session.specs.declared.Pending.TheVariants.{Idle, Reading, Writing, Closing}
use Rattle.session.specs.declared.Phase.{Phase}
use Rattle.session.specs.declared.Phase.TheVariants.{Header, Stat, Entry, Last, NameV1, NameV2, Body, Text, Rest}
use Rattle.session.specs.declared.Session.{Session}
use Rattle.session.specs.declared.Version.TheVariants.{V1, V2}
use Rattle.session.specs.declared.Want.{Want}
use Rattle.session.specs.declared.Want.TheVariants as W

-- ---- bits, and signed numbers

abbrev pub bit : Bool → ℕ
bit true = 1
bit false = 0

abbrev pub is_one : ℕ → Bool
is_one n = eqb n 1

-- bits as a number, the first the lowest, and the k low bits of a number
abbrev pub bits : List Bool → ℕ
bits [] = 0
bits (b ∷ bs) = bit b + 2 * bits bs

abbrev pub bits_of : ℕ → ℕ → List Bool
bits_of zero n = []
bits_of (suc k) n = is_one (n % 2) ∷ bits_of k (n / 2)

-- the low 32 bits
abbrev pub low : ℕ → ℕ
low n = n % 0x1_0000_0000

-- 64 bits of a signed number, two's complement: the inverse of `signed`
abbrev pub unsigned : ℤ → ℕ
unsigned (pos n) = n
unsigned (negsuc n) = 0xffff_ffff_ffff_ffff - n

-- ---- a session's numbers

-- k registers: the numbers, then zeros
abbrev pub padded : ℕ → List ℕ → List ℕ
padded zero r = []
padded (suc k) [] = 0 ∷ padded k []
padded (suc k) (x ∷ r) = x ∷ padded k r

abbrev pub registers : List ℕ → List ℕ
registers r = padded 12 r

abbrev pub dent_numbers : DentV1 → List ℕ
dent_numbers d = d.stat.mode.0 ∷ d.stat.size ∷ d.stat.mtime ∷ d.namelen ∷ []

abbrev pub dent2_numbers : DentV2 → List ℕ
dent2_numbers d =
    d.stat.error ∷ d.stat.dev ∷ d.stat.ino ∷ d.stat.mode.0 ∷ d.stat.nlink ∷ d.stat.uid ∷ d.stat.gid ∷ d.stat.size
    ∷ unsigned d.stat.atime ∷ unsigned d.stat.mtime ∷ unsigned d.stat.ctime
    ∷ d.namelen
    ∷ []

abbrev pub request_state : Request → ℕ
request_state Q.Stat = 1
request_state Q.Sta2 = 2
request_state Q.List = 3
request_state Q.Lis2 = 4
request_state Q.Recv = 5
request_state (Q.Rcv2 f) = 6
request_state (Q.Send m) = 7
request_state (Q.Snd2 m f) = 8
request_state Q.Data = 9
request_state (Q.Done t) = 10
request_state Q.Quit = 11

-- a mode or a time, then flags
abbrev pub request_numbers : Request → List ℕ
request_numbers Q.Stat = []
request_numbers Q.Sta2 = []
request_numbers Q.List = []
request_numbers Q.Lis2 = []
request_numbers Q.Recv = []
request_numbers (Q.Rcv2 f) = 0 ∷ f.0 ∷ []
request_numbers (Q.Send m) = m.0 ∷ []
request_numbers (Q.Snd2 m f) = m.0 ∷ f.0 ∷ []
request_numbers Q.Data = []
request_numbers (Q.Done t) = t ∷ []
request_numbers Q.Quit = []

abbrev pub want_state : Want → ℕ
want_state (W.Stat V1) = 13
want_state (W.Stat V2) = 14
want_state (W.Entry V1) = 15
want_state (W.Entry V2) = 16
want_state W.Chunk = 17
want_state W.Okay = 18
want_state W.Nothing = 19

abbrev pub phase_state : Phase → ℕ
phase_state (Header w) = want_state w
phase_state (Stat V1) = 20
phase_state (Stat V2) = 21
phase_state (Entry V1) = 22
phase_state (Entry V2) = 23
phase_state (Last V1) = 24
phase_state (Last V2) = 25
phase_state (NameV1 d) = 26
phase_state (NameV2 d) = 27
phase_state (Body n) = 28
phase_state (Text n) = 29
phase_state (Rest left text) = 30

abbrev pub phase_numbers : Phase → List ℕ
phase_numbers (Header w) = []
phase_numbers (Stat v) = []
phase_numbers (Entry v) = []
phase_numbers (Last v) = []
phase_numbers (NameV1 d) = dent_numbers d
phase_numbers (NameV2 d) = dent2_numbers d
phase_numbers (Body n) = n ∷ []
phase_numbers (Text n) = n ∷ []
phase_numbers (Rest left text) = left ∷ text ∷ []

-- the pending step's: state, flag, until, from, piece, registers
abbrev pub step_numbers : Pending → List ℕ
step_numbers Idle = 0 ∷ 0 ∷ 0 ∷ 0 ∷ 0 ∷ registers []
step_numbers (Reading p until lost) = phase_state p ∷ bit lost ∷ until ∷ 0 ∷ 0 ∷ registers (phase_numbers p)
step_numbers (Writing q from piece) = request_state q ∷ 0 ∷ 0 ∷ from ∷ piece ∷ registers (request_numbers q)
step_numbers (Closing failed code) = 12 ∷ bit failed ∷ 0 ∷ 0 ∷ 0 ∷ registers (code ∷ [])

abbrev pub own_numbers : Session → List ℕ
own_numbers s = s.capacity ∷ s.message ∷ s.buf.head ∷ s.buf.tail ∷ s.lent ∷ bits (listed s.features) ∷ bit s.ended ∷ []

-- the ids, in the order of `SyncId::ALL`, two to a number
abbrev pub id_numbers : Ids → List ℕ
id_numbers t = t.stat ∷ t.list ∷ t.send ∷ t.recv ∷ t.«data» ∷ t.okay ∷ t.dent ∷ t.quit ∷ []

unfoldable pub fields : Session → List ℕ
fields s = own_numbers s ++ step_numbers s.pending ++ id_numbers s.ids

-- ---- and back: n i is the i-th number

abbrev pub mode_of : ℕ → FileMode
mode_of n = record { 0 = n }

abbrev pub flags_of : ℕ → SyncFlags
flags_of n = record { 0 = n }

abbrev pub dent_from : (ℕ → ℕ) → DentV1
dent_from n = record { stat = record { mode = mode_of (low (n 12)); size = low (n 13); mtime = low (n 14) }; namelen = low (n 15) }

abbrev pub dent2_from : (ℕ → ℕ) → DentV2
dent2_from n =
    record {
      stat =
          record {
            error = low (n 12);
            dev = n 13;
            ino = n 14;
            mode = mode_of (low (n 15));
            nlink = low (n 16);
            uid = low (n 17);
            gid = low (n 18);
            size = n 19;
            atime = signed (n 20);
            mtime = signed (n 21);
            ctime = signed (n 22);
          };
      namelen = low (n 23);
    }

-- the requests, in the order of their states: 1 to 11
abbrev pub requests : (ℕ → ℕ) → List Request
requests n =
    Q.Stat ∷ Q.Sta2 ∷ Q.List ∷ Q.Lis2 ∷ Q.Recv
    ∷ Q.Rcv2 (flags_of (low (n 13)))
    ∷ Q.Send (mode_of (low (n 12)))
    ∷ Q.Snd2 (mode_of (low (n 12))) (flags_of (low (n 13)))
    ∷ Q.Data
    ∷ Q.Done (low (n 12))
    ∷ Q.Quit
    ∷ []

-- the phases: 13 to 30
abbrev pub phases : (ℕ → ℕ) → List Phase
phases n =
    Header (W.Stat V1) ∷ Header (W.Stat V2) ∷ Header (W.Entry V1) ∷ Header (W.Entry V2) ∷ Header W.Chunk ∷ Header W.Okay ∷ Header W.Nothing
    ∷ Stat V1 ∷ Stat V2
    ∷ Entry V1 ∷ Entry V2
    ∷ Last V1 ∷ Last V2
    ∷ NameV1 (dent_from n) ∷ NameV2 (dent2_from n)
    ∷ Body (low (n 12))
    ∷ Text (low (n 12))
    ∷ Rest (n 12) (n 13)
    ∷ []

-- every pending step, in the order of its state
abbrev pub pendings : (ℕ → ℕ) → List Pending
pendings n =
    Idle ∷ map (λ q. Writing q (n 10) (n 11)) (requests n)
    ++ Closing (is_one (n 8)) (low (n 12)) ∷ map (λ p. Reading p (n 9) (is_one (n 8))) (phases n)

abbrev pub ids_from : (ℕ → ℕ) → Ids
ids_from n = record { stat = n 24; list = n 25; send = n 26; recv = n 27; «data» = n 28; okay = n 29; dent = n 30; quit = n 31 }

abbrev pub pending_of : (ℕ → ℕ) → Pending
pending_of n = get_or (pendings n) (n 7) Idle

unfoldable pub session_of : (ℕ → ℕ) → Session
session_of n =
    record {
      capacity = n 0;
      message = n 1;
      buf = record { head = n 2; tail = n 3 };
      lent = n 4;
      features = features_from (bits_of 7 (n 5));
      ids = ids_from n;
      ended = is_one (n 6);
      pending = pending_of n;
    }

-- ---- whether some numbers are a session's

-- what is kept of a FAIL text: no more than the capacity
abbrev pub keeps_in : (capacity : ℕ) → Phase → Bool
keeps_in c (Header w) = true
keeps_in c (Stat v) = true
keeps_in c (Entry v) = true
keeps_in c (Last v) = true
keeps_in c (NameV1 d) = true
keeps_in c (NameV2 d) = true
keeps_in c (Body n) = true
keeps_in c (Text n) = true
keeps_in c (Rest left text) = leb text c

-- what is lent is sent from its start on; data from any place
abbrev pub starts_in : Request → (from : ℕ) → Bool
starts_in q from = is_data q || eqb from 0

-- the parts that a pending step comes to lie inside their slices
abbrev pub step_in : (capacity : ℕ) → Pending → Bool
step_in c Idle = true
step_in c (Reading p until lost) = keeps_in c p
step_in c (Writing q from piece) = starts_in q from
step_in c (Closing failed code) = true

-- features of seven bits, a bool, a state, a bool, a step whose parts lie inside
unfoldable pub known : (ℕ → ℕ) → Bool
known n = ltb (n 5) 128 && ltb (n 6) 2 && ltb (n 7) 31 && ltb (n 8) 2 && step_in (n 0) (pending_of n)
