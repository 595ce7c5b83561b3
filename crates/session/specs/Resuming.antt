-- Facts on a call that is pending with a path over today's limit: "A call pending under the old path limit runs to its end with its path; the
-- next call meets today's limit" (document 02, [12]). So the limit is met where a call starts, and nowhere else.
-- Assumes nothing.
use Rattle.std.specs.Prelude.{ℕ, true, false, List, [], ◌∷◌, ◌++◌, map, replicate}
use Rattle.protocol.specs.Bytes.{ascii, le}
use Rattle.protocol.specs.Fact.{Fact}
use Rattle.protocol.specs.Ids.{letters}
use Rattle.ids.specs.Ids.{ids_of}
use Rattle.recv_buf.specs.RecvBuf.{empty}
use Rattle.format_flags.specs.declared.FileMode.{FileMode}
use Rattle.format_flags.specs.declared.SyncFlags.{SyncFlags}
use Rattle.request.specs.declared.Request.{Request}
use Rattle.request.specs.declared.Request.TheVariants as Q
use Rattle.request_piece.specs.declared.Piece.TheVariants as P
use Rattle.session.specs.declared.Answer.TheVariants as A
use Rattle.session.specs.declared.Fault.{Fault}
use Rattle.session.specs.declared.Fault.TheVariants as F
use Rattle.session.specs.declared.Pending.{Pending}
use Rattle.session.specs.declared.Pending.TheVariants.{Idle, Reading, Writing}
use Rattle.session.specs.declared.Phase.TheVariants.{Header}
use Rattle.session.specs.declared.Reply.{Reply}
use Rattle.session.specs.declared.Reply.TheVariants as R
use Rattle.session.specs.declared.Version.TheVariants.{V1}
use Rattle.session.specs.declared.Want.TheVariants as W
use Rattle.session.specs.Calls.{start_call}
use Rattle.session.specs.Core.{features_from}
use Rattle.session.specs.Reports.{report_read, report_wrote, report_fault}
use Rattle.session.specs.State.{St, st}

abbrev too_long : ℕ
too_long = 1025

abbrev pub path : List ℕ
path = replicate too_long 97

-- both buffers; a stat's reply stands where it is read
abbrev capacity : ℕ
capacity = 16

abbrev pub rx : List ℕ
rx = ascii "STAT" ++ 1 ∷ 0 ∷ 0 ∷ 0 ∷ 2 ∷ 0 ∷ 0 ∷ 0 ∷ 3 ∷ 0 ∷ 0 ∷ 0 ∷ []

abbrev pub msg : List ℕ
msg = replicate capacity 0

-- a session that is lent the path, at this step
abbrev pub session_at : Pending → St
session_at p =
    st
    (record { capacity = capacity; message = capacity; buf = empty; lent = too_long; features = features_from (replicate 7 true); ids = ids_of letters; ended = false; pending = p })
    rx
    msg

abbrev pub awaiting : Pending
awaiting = Reading (Header (W.Stat V1)) 8 false

-- what follows: the write of piece k is accepted (0: of the whole message); a read of so many bytes; a fault; the next call
abbrev wrote : (k : ℕ) → Reply → Request → Fact Reply
wrote k r q = record { computed = (report_wrote (session_at (Writing q 0 k)) path).reply; paper = r }

abbrev read : (count : ℕ) → Reply → Fact Reply
read k r = record { computed = (report_read (session_at awaiting) too_long k).reply; paper = r }

abbrev faulted : Pending → Fault → Reply → Fact Reply
faulted p e r = record { computed = (report_fault (session_at p) too_long e).reply; paper = r }

abbrev next : Request → Fact Reply
next q = record { computed = (start_call (session_at Idle) q path).reply; paper = R.Told (A.Refused 7) }

abbrev mode : FileMode
mode = record { 0 = 33188 }

abbrev flags : SyncFlags
flags = record { 0 = 4 }

-- every request with a path: those with a reply, those with the path alone, those with words behind it
abbrev stats : List Request
stats = Q.Stat ∷ Q.Sta2 ∷ []

abbrev paths : List Request
paths = Q.List ∷ Q.Lis2 ∷ Q.Recv ∷ []

abbrev others : List Request
others = Q.Rcv2 flags ∷ Q.Send mode ∷ Q.Snd2 mode flags ∷ []

abbrev pub resuming : List (Fact Reply)
resuming =
    -- the whole message is out; its header is, and the path follows; its path is
    map (wrote 0 (R.Read 0 capacity)) stats
    ++ map (wrote 0 (R.Told A.Done)) (paths ++ others)
    ++ map (wrote 1 (R.WriteLent 0 too_long)) (stats ++ paths ++ others)
    ++ map (wrote 2 (R.Read 0 capacity)) stats
    ++ map (wrote 2 (R.Told A.Done)) paths
    -- what stands behind the path
    ++ wrote 2 (R.WriteBytes (P.Inner (le (ascii "RCV2")))) (Q.Rcv2 flags)
    ∷ wrote 3 (R.WriteBytes (P.Word 4)) (Q.Rcv2 flags)
    ∷ wrote 4 (R.Told A.Done) (Q.Rcv2 flags)
    ∷ wrote 2 (R.WriteBytes P.Comma) (Q.Send mode)
    ∷ wrote 3 (R.WriteBytes (P.Digits mode)) (Q.Send mode)
    ∷ wrote 4 (R.Told A.Done) (Q.Send mode)
    ∷ wrote 2 (R.WriteBytes (P.Inner (le (ascii "SND2")))) (Q.Snd2 mode flags)
    ∷ wrote 3 (R.WriteBytes (P.Word 33188)) (Q.Snd2 mode flags)
    ∷ wrote 4 (R.WriteBytes (P.Word 4)) (Q.Snd2 mode flags)
    ∷ wrote 5 (R.Told A.Done) (Q.Snd2 mode flags)
    -- the reply, in part and whole; faults
    ∷ read 3 (R.Read 3 13)
    ∷ read 16 (R.Told (A.StatV1 (record { mode = record { 0 = 1 }; size = 2; mtime = 3 })))
    ∷ faulted awaiting (F.Error 5) (R.Told (A.Error 5))
    ∷ faulted (Writing Q.Stat 0 1) (F.Error 5) (R.Told (A.Error 5))
    ∷ faulted (Writing Q.Stat 0 1) F.Closed (R.Told A.Closed)
    ∷ faulted (Writing (Q.Send mode) 0 1) F.Closed (R.Read 0 capacity)
    ∷ map next (stats ++ paths ++ others)
