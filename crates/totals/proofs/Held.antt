-- A step holds no more bytes than were held before it, and those that were read: of any session, on any buffers.
-- Assumes nothing.
use Prim.Native.Nat.{ℕ, zero, suc, ◌+◌, ◌-◌, ◌≤◌}
use mathlib.Core.Bool.{Bool, true, false}
use mathlib.Core.List.{List}
use mathlib.Core.Option.{Option, none, some}
use native.Mathlib.Omega.{arith}
use lib.Dec.{eqb, leb, ltb}
use lib.ListN.{length}
use Rattle.protocol.specs.Answers as P
use Rattle.protocol.specs.Refusal.{request_refusal}
use Rattle.protocol.specs.Messages.{bytes_of_request}
use Rattle.protocol.proofs.Bodies.{pick-cases}
use Rattle.request_piece.specs.Pieces.{piece_of}
use Rattle.recv_buf.specs.declared.RecvBuf.{RecvBuf}
use Rattle.recv_buf.specs.RecvBuf.{cursor, held_count, sound, compacted}
use Rattle.request.specs.Meaning.{meant}
use Rattle.request.specs.declared.Request.{Request}
use Rattle.request.specs.declared.Request.TheVariants as Q
use Rattle.session.specs.Calls.{refused_or, refusal_of, setting_of, or_refuse, start_call, entry_call, chunk_call}
use Rattle.session.specs.Reports.{refusal_at, read_in, read_at, report_read, wrote_at, report_wrote, write_fault, fault_at, report_fault}
use Rattle.session.specs.State.{St, st, Out, dialect_in, at, beside, begun}
use Rattle.session.specs.Sends.{tidied, carried, id_for, message_out, sent, resumed, is_end, wrote_on}
use Rattle.session.specs.Steps.{asked, turned, turn_of, followed, hopped, on_hop, pumped}
use Rattle.session.specs.declared.Fault.{Fault}
use Rattle.session.specs.declared.Fault.TheVariants as F
use Rattle.session.specs.declared.Pending.{Pending}
use Rattle.session.specs.declared.Pending.TheVariants.{Idle, Reading, Writing, Closing}
use Rattle.session.specs.declared.Phase.{Phase}
use Rattle.session.specs.declared.Phase.TheVariants.{Header}
use Rattle.session.specs.declared.Then.{Then}
use Rattle.session.specs.declared.Then.TheVariants.{Stop, Go}
use Rattle.session.specs.declared.Version.{Version}
use Rattle.session.specs.declared.Version.TheVariants.{V1, V2}
use Rattle.session.specs.declared.Want.TheVariants as W
use Rattle.session.specs.Phases.{wants}
use Rattle.boundary.specs.Crossing.{request_numbered, call_numbered, unknown_call}

count-compacted : (b : List ℕ) (c : RecvBuf) → held_count (compacted b c).1 ≤ held_count c
unfolding compacted
count-compacted b c = pick-cases (λ (z : List ℕ × RecvBuf). held_count z.1 ≤ held_count c) (sound b c) (λ _. omega arith) (λ _. omega arith)

module _ (n : ℕ) where
  -- at most n bytes are held
  abbrev In : St → Type 0
  In s = held_count s.ses.buf ≤ n

  abbrev pub Leaves : Out → Type 0
  Leaves o = held_count o.st.ses.buf ≤ n

  in_tidied : (s : St) → In s → In (tidied s)
  in_tidied s h = omega (arith, count-compacted s.rx s.ses.buf)

  -- ---- reading

  asked_in_lem : (s : St) (p : Phase) (lost : Bool) → In s → Leaves (beside (asked s.ses s.rx p lost) s.msg)
  unfolding asked
  asked_in_lem s p lost h =
      pick-cases (λ y. Leaves (beside y s.msg)) (ltb s.ses.buf.tail s.ses.capacity) (λ _. h) (λ _. in_tidied s h)

  follow-in : (k : St → Phase → Out) (s : St) (t : Then) → In s → ((p : Phase) → Leaves (k s p)) → Leaves (on_hop k (followed s t))
  follow-in k s (Stop a) h ih = h
  follow-in k s (Go p) h ih = ih p

  hop-in : (k : St → Phase → Out) (s : St) (p : Phase) (lost : Bool) → In s → ((s' : St) (q : Phase) → In s' → Leaves (k s' q)) → Leaves (on_hop k (hopped s p lost))
  unfolding hopped
  hop-in k s p lost h ih =
      pick-cases (λ y. Leaves (on_hop k y)) (ltb s.ses.capacity (wants s.ses.capacity p)) (λ _. h)
      (λ _. pick-cases (λ y. Leaves (on_hop k y)) (ltb (held_count s.ses.buf) (wants s.ses.capacity p)) (λ _. asked_in_lem s p lost h)
      (λ _. let y : In (turned s (turn_of s p)) = omega arith in
      follow-in k (turned s (turn_of s p)) (turn_of s p).then y (λ q. ih (turned s (turn_of s p)) q y)))

  pump_in : (f : ℕ) (s : St) (p : Phase) (lost : Bool) → In s → Leaves (pumped f s p lost)
  unfolding pumped
  pump_in zero s p lost h = asked_in_lem s p lost h
  pump_in (suc f) s p lost h = hop-in (λ s' q. pumped f s' q lost) s p lost h (λ s' q h'. pump_in f s' q lost h')

  -- ---- writing

  message-in : (s : St) (q : Request) (from : ℕ) (part : List ℕ) → In s → Leaves (beside (message_out s.ses s.rx q from part) s.msg)
  unfolding message_out
  message-in s q from part h =
      pick-cases (λ y. Leaves (beside y s.msg)) (leb ((compacted s.rx s.ses.buf).1.tail + length (bytes_of_request (dialect_in s.ses) (meant q part))) (length (compacted s.rx s.ses.buf).0))
      (λ _. in_tidied s h) (λ _. in_tidied s h)

  sent-in : (s : St) (q : Request) (from : ℕ) (part : List ℕ) → In s → Leaves (beside (sent s.ses s.rx q from part) s.msg)
  unfolding sent
  sent-in s Q.Stat from part h = message-in s Q.Stat from part h
  sent-in s Q.Sta2 from part h = message-in s Q.Sta2 from part h
  sent-in s Q.List from part h = message-in s Q.List from part h
  sent-in s Q.Lis2 from part h = message-in s Q.Lis2 from part h
  sent-in s Q.Recv from part h = message-in s Q.Recv from part h
  sent-in s (Q.Rcv2 f) from part h = message-in s (Q.Rcv2 f) from part h
  sent-in s (Q.Send m) from part h = message-in s (Q.Send m) from part h
  sent-in s (Q.Snd2 m f) from part h = message-in s (Q.Snd2 m f) from part h
  sent-in s Q.Data from part h = pick-cases (λ y. Leaves (beside y s.msg)) (eqb (length part) 0) (λ _. h) (λ _. message-in s Q.Data from part h)
  sent-in s (Q.Done t) from part h = h
  sent-in s Q.Quit from part h = h

  resumed-in : (s : St) (q : Request) (from : ℕ) (lent : List ℕ) → In s → Leaves (resumed s q from lent)
  unfolding resumed
  resumed-in s Q.Stat from lent h = pump_in 4 s (Header (W.Stat V1)) false h
  resumed-in s Q.Sta2 from lent h = pump_in 4 s (Header (W.Stat V2)) false h
  resumed-in s Q.List from lent h = h
  resumed-in s Q.Lis2 from lent h = h
  resumed-in s Q.Recv from lent h = h
  resumed-in s (Q.Rcv2 f) from lent h = h
  resumed-in s (Q.Send m) from lent h = h
  resumed-in s (Q.Snd2 m f) from lent h = h
  resumed-in s Q.Data from lent h = sent-in s Q.Data _ _ h
  resumed-in s (Q.Done t) from lent h = pump_in 4 (tidied s) (Header W.Okay) false (in_tidied s h)
  resumed-in s Q.Quit from lent h = h

  wrote_on-in : (s : St) (q : Request) (from k : ℕ) (lent : List ℕ) → In s → Leaves (wrote_on s q from k lent)
  unfolding wrote_on
  wrote_on-in s q from k lent h =
      pick-cases Leaves (eqb k 0) (λ _. resumed-in s q from lent h)
      (λ _. pick-cases Leaves (is_end (piece_of (id_for s.ses q) q (length (carried q from lent)) k)) (λ _. resumed-in s q from lent h) (λ _. h))

  -- ---- reports

  refused_or-in : (k : ℕ) (s : St) (o : Out) → In s → Leaves o → Leaves (refused_or k s o)
  refused_or-in k s o h y = pick-cases Leaves (ltb 0 k) (λ _. h) (λ _. y)

  wrote_at_lem : (p : Pending) (s : St) (lent : List ℕ) → In s → Leaves (wrote_at p s lent)
  unfolding wrote_at
  wrote_at_lem Idle s lent h = h
  wrote_at_lem (Reading p until lost) s lent h = h
  wrote_at_lem (Writing q from piece) s lent h = wrote_on-in s q from piece lent h
  wrote_at_lem (Closing failed code) s lent h = h

  pub wrote-in : (s : St) (lent : List ℕ) → In s → Leaves (report_wrote s lent)
  unfolding report_wrote
  wrote-in s lent h = refused_or-in (refusal_at s (length lent)) s _ h (wrote_at_lem s.ses.pending s lent h)

  push_fault_lem : (s : St) (e : Fault) → In s → Leaves (write_fault s Q.Data e)
  unfolding write_fault
  push_fault_lem s F.Closed h = pump_in 4 s (Header W.Nothing) true h
  push_fault_lem s (F.Error c) h = h

  write-fault : (s : St) (q : Request) (e : Fault) → In s → Leaves (write_fault s q e)
  unfolding write_fault
  write-fault s Q.Stat e h = h
  write-fault s Q.Sta2 e h = h
  write-fault s Q.List e h = h
  write-fault s Q.Lis2 e h = h
  write-fault s Q.Recv e h = h
  write-fault s (Q.Rcv2 f) e h = h
  write-fault s (Q.Send m) e h = push_fault_lem s e h
  write-fault s (Q.Snd2 m f) e h = push_fault_lem s e h
  write-fault s Q.Data e h = push_fault_lem s e h
  write-fault s (Q.Done t) e h = push_fault_lem s e h
  write-fault s Q.Quit F.Closed h = h
  write-fault s Q.Quit (F.Error c) h = h

  fault-at : (p : Pending) (s : St) (e : Fault) → In s → Leaves (fault_at p s e)
  unfolding fault_at
  fault-at Idle s e h = h
  fault-at (Reading p until lost) s e h = h
  fault-at (Writing q from piece) s e h = write-fault s q e h
  fault-at (Closing failed code) s e h = h

  pub fault-in : (s : St) (m : ℕ) (e : Fault) → In s → Leaves (report_fault s m e)
  unfolding report_fault
  fault-in s m e h = refused_or-in (refusal_at s m) s _ h (fault-at s.ses.pending s e h)

  -- ---- calls

  or_in : (r : Option P.Answer) (s : St) (o : Out) → In s → Leaves o → Leaves (or_refuse r s o)
  or_in none s o h y = y
  or_in (some a) s o h y = h

  start-in : (s : St) (q : Request) (lent : List ℕ) → In s → Leaves (start_call s q lent)
  unfolding start_call
  start-in s q lent h =
      refused_or-in (refusal_of s) s _ h
      (or_in (request_refusal (setting_of s.ses) (meant q lent)) s _ h (sent-in (st (begun s.ses (length lent)) s.rx s.msg) q 0 (carried q 0 lent) h))

  entry_in_lem : (s : St) (v : Version) (m : ℕ) → In s → Leaves (entry_call s v m)
  unfolding entry_call
  entry_in_lem s v m h = refused_or-in (refusal_of s) s _ h (pump_in 4 (st (begun s.ses m) s.rx s.msg) (Header (W.Entry v)) false h)

  chunk_in : (s : St) (m : ℕ) → In s → Leaves (chunk_call s m)
  unfolding chunk_call
  chunk_in s m h = refused_or-in (refusal_of s) s _ h (pump_in 4 (tidied (st (begun s.ses m) s.rx s.msg)) (Header W.Chunk) false (in_tidied s h))

  pub numbered-in : (i a b : ℕ) (s : St) (lent : List ℕ) → In s → Leaves (call_numbered i a b s lent (request_numbered i a b) (unknown_call s))
  numbered-in i a b s lent h = go (request_numbered i a b)
    where
      go : (r : Option Request) → Leaves (call_numbered i a b s lent r (unknown_call s))
      go (some q) = start-in s q lent h
      go none =
          pick-cases Leaves (eqb i 12) (λ _. entry_in_lem s V1 (length lent) h)
          (λ _. pick-cases Leaves (eqb i 13) (λ _. entry_in_lem s V2 (length lent) h)
          (λ _. pick-cases Leaves (eqb i 14) (λ _. chunk_in s (length lent) h) (λ _. refused_or-in (refusal_of s) s _ h h)))

-- k bytes came
module _ (n k : ℕ) (s : St) (h : held_count s.ses.buf + k ≤ n) where
  read_in-in : (p : Phase) (until : ℕ) (lost : Bool) → Leaves n (read_in s p until lost k)
  unfolding read_in
  read_in-in p until lost =
      let t : ℕ = s.ses.buf.tail + k in
      let on : Leaves n (pumped 4 (st (at s.ses (cursor s.ses.buf.head t) Idle) s.rx s.msg) p lost) = pump_in n 4 _ p lost (omega arith) in
      pick-cases (Leaves n) (eqb k 0) (λ _. omega arith)
      (λ _. pick-cases (Leaves n) (ltb (s.ses.capacity - s.ses.buf.tail) k) (λ _. omega arith)
      (λ _. pick-cases (Leaves n) (ltb t until)
      (λ _. pick-cases (Leaves n) (ltb t s.ses.capacity) (λ _. omega arith) (λ _. on))
      (λ _. on)))

  read_at_lem : (p : Pending) → Leaves n (read_at p s k)
  unfolding read_at
  read_at_lem Idle = omega arith
  read_at_lem (Reading p until lost) = read_in-in p until lost
  read_at_lem (Writing q from piece) = omega arith
  read_at_lem (Closing failed code) = omega arith

  pub read-in : (m : ℕ) → Leaves n (report_read s m k)
  unfolding report_read
  read-in m = refused_or-in n (refusal_at s m) s _ (omega arith) (read_at_lem s.ses.pending)
