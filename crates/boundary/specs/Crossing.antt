-- What a session's opening and its steps come to on its record of 256 bytes: the right-hand sides of their contracts, over the lent record, both
-- buffers and the slice that the reply goes to. The exported functions are these with totals and hours (hours_totals/specs/Crossing).
-- Assumes nothing.
use Rattle.std.specs.Prelude.{ℕ, ◌+◌, ◌-◌, Bool, true, false, ◌&&◌, List, [], ◌∷◌, eqb, ltb, leb, length, get_or}
use Rattle.std.proofs.Math.Option.{Option, none, some}
use Rattle.protocol.specs.Bytes.{pick, put, bytes_of}
use Rattle.protocol.specs.Features as P
use Rattle.features.specs.declared.Features.{Features}
use Rattle.id_table.specs.Settings.{begun, loaded as taken, lent_in}
use Rattle.id_table.specs.Lent.{Lent}
use Rattle.id_table.specs.Lent as L
use Rattle.record.specs.Record.{stored, loaded, size}
use Rattle.request.specs.declared.Request.{Request}
use Rattle.request.specs.declared.Request.TheVariants as Q
use Rattle.session.specs.Core.{features_from}
use Rattle.session.specs.Calls.{fresh, open_refusal, refused_or, refusal_of, start_call, entry_call, chunk_call}
use Rattle.session.specs.Reports.{report_read, report_wrote, report_fault, refusal_at}
use Rattle.session.specs.State as S
use Rattle.session.specs.State.{St, st, Out, refusing}
use Rattle.session.specs.declared.Answer.TheVariants as A
use Rattle.session.specs.declared.Fault.{Fault}
use Rattle.session.specs.declared.Fault.TheVariants as F
use Rattle.session.specs.declared.Pending.{Pending}
use Rattle.session.specs.declared.Pending.TheVariants.{Idle, Reading, Writing, Closing}
use Rattle.session.specs.declared.Reply.{Reply}
use Rattle.session.specs.declared.Reply.TheVariants as R
use Rattle.session.specs.declared.Session.{Session}
use Rattle.session.specs.declared.Version.TheVariants.{V1, V2}
use Rattle.boundary.specs.Told.{reply_number, reply_bytes, out_size}

-- every byte that was lent, and the number returned
pub record Crossed : Type 0 where
  pub rec : List ℕ
  pub rx : List ℕ
  pub msg : List ℕ
  pub out : List ℕ
  pub number : ℕ

abbrev pub crossed : List ℕ → List ℕ → List ℕ → List ℕ → ℕ → Crossed
crossed rec rx msg out n = record { rec = rec; rx = rx; msg = msg; out = out; number = n }

-- answer 3, nothing altered: a record that holds no session, or a slice too short for a reply
abbrev pub turned_away : List ℕ → List ℕ → List ℕ → List ℕ → Crossed
turned_away rec rx msg out = crossed rec rx msg out 768

-- a refusal leaves the record as it was, byte for byte
abbrev pub is_refusal : Reply → Bool
is_refusal (R.Told A.Done) = false
is_refusal (R.Told A.End) = false
is_refusal (R.Told (A.StatV1 s)) = false
is_refusal (R.Told (A.StatV2 s)) = false
is_refusal (R.Told (A.EntryV1 s at len)) = false
is_refusal (R.Told (A.EntryV2 s at len)) = false
is_refusal (R.Told (A.Chunk at len)) = false
is_refusal (R.Told (A.Refused n)) = true
is_refusal (R.Told (A.Missing n)) = true
is_refusal (R.Told A.Closed) = false
is_refusal (R.Told (A.Error c)) = false
is_refusal (R.Told (A.Fail len)) = false
is_refusal (R.Told (A.Unexpected a b c d)) = false
is_refusal (R.Told (A.Errno c)) = false
is_refusal (R.Told A.TooLarge) = false
is_refusal (R.Read at len) = false
is_refusal (R.WriteRx at len) = false
is_refusal (R.WriteLent at len) = false
is_refusal (R.WriteBytes p) = false
is_refusal R.Close = false

-- a step's outcome, put back: the session into the record, the reply into out
abbrev pub back : List ℕ → List ℕ → Out → Crossed
back rec out o = crossed (pick (is_refusal o.reply) rec (stored o.st.ses)) o.st.rx o.st.msg (put out 0 (reply_bytes o.reply)) (reply_number o.reply)

abbrev pub on_loaded : List ℕ → List ℕ → List ℕ → List ℕ → (St → Crossed) → Option Session → Crossed
on_loaded rec rx msg out k none = turned_away rec rx msg out
on_loaded rec rx msg out k (some s) = k (st s rx msg)

abbrev pub crossing : List ℕ → List ℕ → List ℕ → List ℕ → (St → Crossed) → Crossed
crossing rec rx msg out k = pick (ltb (length out) out_size) (turned_away rec rx msg out) (on_loaded rec rx msg out k (loaded rec))

-- ---- settings: begun with the published ids, and the ids of a file put into them: 0, 3, 22 or 23; a refusal leaves them alone

abbrev pub set : List ℕ → ℕ → List ℕ × ℕ
set settings n = (settings, n)

abbrev pub cross_settings : List ℕ → List ℕ × ℕ
cross_settings settings = begun settings

abbrev pub cross_ids : (settings file : List ℕ) → List ℕ × ℕ
cross_ids settings file = taken settings file

-- ---- opening: 0, or 1 or 2, or 3 for a record or settings of another length, or 22 or 23 for settings without a table (document 02, [9]);
-- a refusal leaves the record alone

pub record OpenCrossed : Type 0 where
  pub rec : List ℕ
  pub number : ℕ

-- the table that is lent, taken or refused
abbrev pub opened_with : List ℕ → Features → (rx msg : ℕ) → Lent → OpenCrossed
opened_with rec f rx msg (L.Ids t) = record { rec = stored (fresh rx msg f t); number = 0 }
opened_with rec f rx msg (L.Refused n) = record { rec = rec; number = n }

unfoldable pub cross_open : List ℕ → (settings banner : List ℕ) → (rx msg : ℕ) → OpenCrossed
cross_open rec settings banner rx msg =
    pick (ltb 0 (open_refusal rx msg)) (record { rec = rec; number = open_refusal rx msg })
    (pick (eqb (length rec) size) (opened_with rec (features_from (P.features_of banner)) rx msg (lent_in settings)) (record { rec = rec; number = 3 }))

-- ---- starting a call: 1 stat, 2 stat_v2, 3 list, 4 list_v2, 5 recv, 6 recv_v2, 7 send, 8 send_v2, 9 data, 10 send_done, 11 quit,
-- 12 and 13 a listing step, 14 recv_next; any other number is 5, after 3, 6 and 4. a is the mode of a push or the time of send_done, b the flags.

abbrev pub request_numbered : ℕ → ℕ → ℕ → Option Request
request_numbered n a b =
    get_or (none ∷ some Q.Stat ∷ some Q.Sta2 ∷ some Q.List ∷ some Q.Lis2 ∷ some Q.Recv ∷ some (Q.Rcv2 (record { 0 = b })) ∷ some (Q.Send (record { 0 = a }))
    ∷ some (Q.Snd2 (record { 0 = a }) (record { 0 = b }))
    ∷ some Q.Data ∷ some (Q.Done a) ∷ some Q.Quit
    ∷ []) n none

abbrev pub step_numbered : ℕ → St → List ℕ → Out → Out
step_numbered n s lent other =
    pick (eqb n 12) (entry_call s V1 (length lent))
    (pick (eqb n 13) (entry_call s V2 (length lent))
    (pick (eqb n 14) (chunk_call s (length lent)) other))

abbrev pub call_numbered : ℕ → ℕ → ℕ → St → List ℕ → Option Request → Out → Out
call_numbered n a b s lent (some q) other = start_call s q lent
call_numbered n a b s lent none other = step_numbered n s lent other

abbrev pub unknown_call : St → Out
unknown_call s = refused_or (refusal_of s) s (S.out (refusing s.ses (A.Refused 5)) s.rx s.msg)

unfoldable pub cross_start : (rec rx msg lent : List ℕ) → (call a b : ℕ) → (out : List ℕ) → Crossed
cross_start rec rx msg lent n a b out =
    crossing rec rx msg out (λ s. back rec out (call_numbered n a b s lent (request_numbered n a b) (unknown_call s)))

-- ---- reports

-- a read that leaves its need short, with room behind it: only tail is written
abbrev pub stays_at : Pending → Session → ℕ → Bool
stays_at Idle s k = false
stays_at (Reading p until lost) s k =
    ltb 0 k && leb k (s.capacity - s.buf.tail) && ltb (s.buf.tail + k) until && ltb (s.buf.tail + k) s.capacity
stays_at (Writing q from piece) s k = false
stays_at (Closing failed code) s k = false

abbrev pub stays : St → ℕ → ℕ → Bool
stays s n k = eqb (refusal_at s n) 0 && stays_at s.ses.pending s.ses k

abbrev pub back_read : List ℕ → List ℕ → St → ℕ → ℕ → Crossed
back_read rec out s n k =
    pick (stays s n k)
    (crossed (put rec 24 (bytes_of 8 (s.ses.buf.tail + k))) s.rx s.msg (put out 0 (reply_bytes (report_read s n k).reply)) 1)
    (back rec out (report_read s n k))

unfoldable pub cross_read : (rec rx msg lent : List ℕ) → (count : ℕ) → (out : List ℕ) → Crossed
cross_read rec rx msg lent k out = crossing rec rx msg out (λ s. back_read rec out s (length lent) k)

unfoldable pub cross_wrote : (rec rx msg lent out : List ℕ) → Crossed
cross_wrote rec rx msg lent out = crossing rec rx msg out (λ s. back rec out (report_wrote s lent))

-- kind 0 says that the channel is closed, any other an error with its code
abbrev pub fault_numbered : (kind code : ℕ) → Fault
fault_numbered kind code = pick (eqb kind 0) F.Closed (F.Error code)

unfoldable pub cross_fault : (rec rx msg lent : List ℕ) → (kind code : ℕ) → (out : List ℕ) → Crossed
cross_fault rec rx msg lent kind code out = crossing rec rx msg out (λ s. back rec out (report_fault s (length lent) (fault_numbered kind code)))
