-- What the host reports: a read, an accepted write or close, a fault. The refusals in document 01's order: 3, 6, 5, 11.
-- Assumes nothing.
use Rattle.std.specs.Prelude.{ℕ, ◌+◌, ◌-◌, Bool, true, false, List, eqb, ltb, length}
use Rattle.protocol.specs.Bytes.{pick}
use Rattle.recv_buf.specs.RecvBuf.{cursor}
use Rattle.request.specs.declared.Request.{Request}
use Rattle.request.specs.declared.Request.TheVariants as Q
use Rattle.session.specs.declared.Answer.{Answer}
use Rattle.session.specs.declared.Answer.TheVariants as A
use Rattle.session.specs.declared.Fault.{Fault}
use Rattle.session.specs.declared.Fault.TheVariants as F
use Rattle.session.specs.declared.Pending.{Pending}
use Rattle.session.specs.declared.Pending.TheVariants.{Idle, Reading, Writing, Closing}
use Rattle.session.specs.declared.Phase.{Phase}
use Rattle.session.specs.declared.Phase.TheVariants.{Header}
use Rattle.session.specs.declared.Reply.TheVariants.{Told, Read}
use Rattle.session.specs.declared.Session.{Session}
use Rattle.session.specs.declared.Want.TheVariants as W
use Rattle.session.specs.Calls.{misfit, is_idle, refused_or}
use Rattle.session.specs.State.{St, st, Out, out, stepped, at, shut, refusing}
use Rattle.session.specs.Steps.{read_on}
use Rattle.session.specs.Sends.{told, closing_out, wrote_on}

-- 3, 6, 5; 0: none. n is the length of the path or data.
unfoldable pub report_refusal : Session → ℕ → ℕ → ℕ → ℕ
report_refusal s x m n =
    pick (misfit s x m) 3
    (pick (is_idle s.pending) (pick s.ended 6 5)
    (pick (eqb n s.lent) (pick s.ended 6 0) 3))

abbrev pub refusal_at : St → ℕ → ℕ
refusal_at s n = report_refusal s.ses (length s.rx) (length s.msg) n

-- a refusal: nothing changes
abbrev pub refused_out : St → ℕ → Out
refused_out s n = out (refusing s.ses (A.Refused n)) s.rx s.msg

-- ---- k bytes came into the window

-- the need is still short and there is room: only tail moves
abbrev pub stay : St → ℕ → Phase → ℕ → Bool → Out
stay s t p until lost =
    out (stepped (at s.ses (cursor s.ses.buf.head t) (Reading p until lost)) (Read t (s.ses.capacity - t))) s.rx s.msg

unfoldable pub read_in : St → Phase → ℕ → Bool → ℕ → Out
read_in s p until lost k =
    let t = s.ses.buf.tail + k in
    pick (eqb k 0) (refused_out s 11)
    (pick (ltb (s.ses.capacity - s.ses.buf.tail) k) (refused_out s 11)
    (pick (ltb t until)
    (pick (ltb t s.ses.capacity) (stay s t p until lost) (read_on (st (at s.ses (cursor s.ses.buf.head t) Idle) s.rx s.msg) p lost))
    (read_on (st (at s.ses (cursor s.ses.buf.head t) Idle) s.rx s.msg) p lost)))

unfoldable pub read_at : Pending → St → ℕ → Out
read_at Idle s k = refused_out s 5
read_at (Reading p until lost) s k = read_in s p until lost k
read_at (Writing q from piece) s k = refused_out s 5
read_at (Closing failed code) s k = refused_out s 5

unfoldable pub report_read : St → ℕ → ℕ → Out
report_read s n k = refused_or (refusal_at s n) s (read_at s.ses.pending s k)

-- ---- a write or the close was accepted

-- the channel is closed: the write's error, else what the close came to
abbrev pub closed_out : St → Bool → ℕ → Answer → Out
closed_out s failed code a = out (stepped (shut s.ses) (Told (pick failed (A.Error code) a))) s.rx s.msg

unfoldable pub wrote_at : Pending → St → List ℕ → Out
wrote_at Idle s lent = refused_out s 5
wrote_at (Reading p until lost) s lent = refused_out s 5
wrote_at (Writing q from piece) s lent = wrote_on s q from piece lent
wrote_at (Closing failed code) s lent = closed_out s failed code A.Done

unfoldable pub report_wrote : St → List ℕ → Out
report_wrote s lent = refused_or (refusal_at s (length lent)) s (wrote_at s.ses.pending s lent)

-- ---- a read, a write or the close came to a fault

abbrev pub fault_answer : Fault → Answer
fault_answer F.Closed = A.Closed
fault_answer (F.Error c) = A.Error c

-- "A push write that finds the channel closed: next(nothing)"
abbrev pub push_fault : St → Fault → Out
push_fault s F.Closed = read_on s (Header W.Nothing) true
push_fault s (F.Error c) = told s (A.Error c)

-- "quit takes such a write as done"
abbrev pub quit_fault : St → Fault → Out
quit_fault s F.Closed = closing_out s false 0
quit_fault s (F.Error c) = closing_out s true c

unfoldable pub write_fault : St → Request → Fault → Out
write_fault s Q.Stat e = told s (fault_answer e)
write_fault s Q.Sta2 e = told s (fault_answer e)
write_fault s Q.List e = told s (fault_answer e)
write_fault s Q.Lis2 e = told s (fault_answer e)
write_fault s Q.Recv e = told s (fault_answer e)
write_fault s (Q.Rcv2 f) e = told s (fault_answer e)
write_fault s (Q.Send m) e = push_fault s e
write_fault s (Q.Snd2 m f) e = push_fault s e
write_fault s Q.Data e = push_fault s e
write_fault s (Q.Done t) e = push_fault s e
write_fault s Q.Quit e = quit_fault s e

unfoldable pub fault_at : Pending → St → Fault → Out
fault_at Idle s e = refused_out s 5
fault_at (Reading p until lost) s e = told s (pick lost A.Closed (fault_answer e))
fault_at (Writing q from piece) s e = write_fault s q e
fault_at (Closing failed code) s e = closed_out s failed code (fault_answer e)

unfoldable pub report_fault : St → ℕ → Fault → Out
report_fault s n e = refused_or (refusal_at s n) s (fault_at s.ses.pending s e)
