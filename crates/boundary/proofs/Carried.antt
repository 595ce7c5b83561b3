-- The crossings on a stored session are the core's steps on the session, and so the log of every list of calls is the core's.
-- Assumes nothing.
use Prim.Native.Nat.{ℕ, suc, ◌+◌, ◌-◌, ◌≤◌, ◌<◌}
use mathlib.Core.Bool.{Bool, true, false, true≢false, ◌&&◌, and-eq-true_iff}
use mathlib.Core.List.{List}
use mathlib.Core.Path.{◌≡◌, refl, sym, ap, ◌∙◌, subst}
use native.Mathlib.Omega.{arith}
use borrow.Author.Tests.{le-ltb, ne_eqb, ltb-true, leb-true, eqb-true}
use lib.Dec.{eqb, ltb, leb}
use lib.ListN.{length}
use Rattle.protocol.specs.Answers.{End, closed, error}
use Rattle.protocol.specs.Bytes.{pick, bytes_of, put}
use Rattle.protocol.specs.Calls.{v1, v2, Call, call, next_entry, next_chunk, Made}
use Rattle.protocol.specs.Messages.{stat, sta2, list, lis2, recv, ask, rcv2, send, snd2, chunk, done, quit}
use Rattle.protocol.proofs.Bodies.{pick-cases}
use Rattle.record.specs.Fields.{fields}
use Rattle.record.specs.Narrow.{Narrow}
use Rattle.record.specs.Record.{stored}
use Rattle.record.proofs.Numbers.{fields-wide}
use Rattle.record.proofs.Stored.{stored-tail, loaded-stored}
use Rattle.record.proofs.Words.{word-words}
use Rattle.recv_buf.specs.RecvBuf.{cursor}
use Rattle.session.specs.declared.Fault.{Fault}
use Rattle.session.specs.declared.Fault.TheVariants as F
use Rattle.session.specs.declared.Pending.{Pending}
use Rattle.session.specs.declared.Pending.TheVariants.{Idle, Reading, Writing, Closing}
use Rattle.session.specs.declared.Reply.{Reply}
use Rattle.session.specs.declared.Reply.TheVariants as R
use Rattle.session.specs.Core.{fault_of, show_of, begin, core}
use Rattle.session.specs.Host.{Spare, Step, lent_of}
use Rattle.session.specs.Reports.{refusal_at, read_in, read_at, report_read, report_wrote, report_fault}
use Rattle.session.specs.State.{St, st, Out, at}
use Rattle.boundary.specs.Boundary.{call_number, first_number, flag_number, end_kind, end_code, step_of, recorded}
use Rattle.boundary.specs.Crossing.{Crossed, crossed, is_refusal, back, crossing, request_numbered, call_numbered, unknown_call, cross_start, stays_at, stays, back_read, cross_read, cross_wrote, fault_numbered, cross_fault}
use Rattle.boundary.specs.Told.{reply_number, reply_bytes, out_size}
use Rattle.boundary.proofs.Heard.{heard-told}
use Rattle.boundary.proofs.Steps.{Inv, narrow-of, Fine}

-- a step of the core, its session stored
abbrev pub image : Out → Step (List ℕ)
image o = record { x = stored o.st.ses; rx = o.st.rx; msg = o.st.msg; show = show_of o.st.rx o.st.msg o.reply }

-- the call that the numbers select
called : (s : St) (z : Spare) (q : Call)
    → call_numbered (call_number q) (first_number z q) (flag_number z q) s (lent_of z q)
    (request_numbered (call_number q) (first_number z q) (flag_number z q)) (unknown_call s)
    ≡ begin s q (lent_of z q)
called s z (call (ask stat p)) = refl
called s z (call (ask sta2 p)) = refl
called s z (call (ask list p)) = refl
called s z (call (ask lis2 p)) = refl
called s z (call (ask recv p)) = refl
called s z (call (rcv2 p f)) = refl
called s z (call (send p m)) = refl
called s z (call (snd2 p m f)) = refl
called s z (call (chunk x)) = refl
called s z (call (done t)) = refl
called s z (call quit) = refl
called s z (next_entry v1) = refl
called s z (next_entry v2) = refl
called s z next_chunk = refl

-- the fault that the numbers say
pub faulted : (z : Spare) (e : End) → fault_numbered (end_kind z e) (end_code z e) ≡ fault_of e
faulted z closed = refl
faulted z (error c) = ap (λ (b : Bool). pick b F.Closed (F.Error c)) (ne_eqb (suc z.kind) 0 (omega arith))

and-four : (a b c d : Bool) → a && b && c && d ≡ true → (a ≡ true) × (b ≡ true) × (c ≡ true) × (d ≡ true)
and-four true true true true e = (refl, refl, refl, refl)
and-four true true true false e = absurd (true≢false (sym e))
and-four true true false d e = absurd (true≢false (sym e))
and-four true false c d e = absurd (true≢false (sym e))
and-four false b c d e = absurd (true≢false (sym e))

-- ---- a step from a session that was stored, its reply in any slice that holds one

pub loads : (s : St) → Narrow s.ses → (out : List ℕ) → out_size ≤ length out → (k : St → Crossed)
    → crossing (stored s.ses) s.rx s.msg out k ≡ k s
loads s n out room k = rw (le-ltb (length out) out_size room, loaded-stored s.ses n)

-- what is put back, of a step that may be a refusal
pub back-image : (s : St) (out : List ℕ) → out_size ≤ length out → (o : Out) → Fine s.ses o → step_of (back (stored s.ses) out o) ≡ image o
back-image s out room o f = rw (go (is_refusal o.reply) f.same, heard-told out room o.st.ses.capacity o.st.ses.lent narrow.capacity narrow.lent o.st.rx o.st.msg o.reply f.reply)
  where
    narrow : Narrow o.st.ses
    narrow = narrow-of o.st f.inv

    go : (b : Bool) → pick b s.ses o.st.ses ≡ o.st.ses → pick b (stored s.ses) (stored o.st.ses) ≡ stored o.st.ses
    go true e = ap stored e
    go false e = refl

module _ (s : St) where
  -- a read that leaves its need short: only tail moves
  abbrev pub stayed : ℕ → Out
  stayed t = record { st = st (at s.ses (cursor s.ses.buf.head t) s.ses.pending) s.rx s.msg; reply = R.Read t (s.ses.capacity - t) }

  pub stays-read : (n k : ℕ) → stays s n k ≡ true → report_read s n k ≡ stayed (s.ses.buf.tail + k)
  unfolding report_read read_at read_in
  stays-read n k e =
      let (z, y) = (and-eq-true_iff (eqb (refusal_at s n) 0) (stays_at s.ses.pending s.ses k)).0 e in
      rw (eqb-true (refusal_at s n) 0 z) (go s.ses.pending refl y)
    where
      t : ℕ
      t = s.ses.buf.tail + k

      go : (p : Pending) → s.ses.pending ≡ p → stays_at p s.ses k ≡ true → read_at p s k ≡ stayed t
      go Idle pend y = absurd (true≢false (sym y))
      go (Reading p until lost) pend y =
          let (a, b, c, d) = and-four (ltb 0 k) (leb k (s.ses.capacity - s.ses.buf.tail)) (ltb t until) (ltb t s.ses.capacity) y in
          let i : 0 < k = ltb-true 0 k a in
          rw (ne_eqb k 0 (omega arith), le-ltb (s.ses.capacity - s.ses.buf.tail) k (leb-true _ _ b), c, d)
          (ap (λ q. record { st = st (at s.ses (cursor s.ses.buf.head t) q) s.rx s.msg; reply = R.Read t (s.ses.capacity - t) }) (sym pend))
      go (Writing q from piece) pend y = absurd (true≢false (sym y))
      go (Closing failed code) pend y = absurd (true≢false (sym y))

  -- what is put back of such a read is what is put back of any step
  pub read_back_lem : (out : List ℕ) (n k : ℕ) → back_read (stored s.ses) out s n k ≡ back (stored s.ses) out (report_read s n k)
  unfolding reply_number
  read_back_lem out n k =
      pick-cases (λ y. y ≡ back (stored s.ses) out (report_read s n k)) (stays s n k)
      (λ e. subst (λ (o : Out). tailed o.reply ≡ back (stored s.ses) out o) (sym (stays-read n k e)) (rw (stored-tail s.ses t)))
      (λ e. refl)
    where
      t : ℕ
      t = s.ses.buf.tail + k

      tailed : Reply → Crossed
      tailed r = crossed (put (stored s.ses) 24 (bytes_of 8 t)) s.rx s.msg (put out 0 (reply_bytes r)) 1

-- ---- the crossings

module _ (s : St) (x : Inv s) where
  abbrev rec : List ℕ
  rec = stored s.ses

  pub holds_same : recorded.holds rec s.rx ≡ core.holds s.ses s.rx
  unfolding stored fields
  holds_same =
      let w = word-words (fields s.ses) (fields-wide s.ses (narrow-of s x)) in
      rw (w 2, w 3)

  pub tail-same : recorded.tail rec ≡ core.tail s.ses
  unfolding stored fields
  tail-same = word-words (fields s.ses) (fields-wide s.ses (narrow-of s x)) 3

  -- the reply in the slice that is lent, what it lends besides being the host's
  module _ (z : Spare) (room : out_size ≤ length z.out) where
    brings : (k : St → Crossed) (o : Out) → k s ≡ back rec z.out o → Fine s.ses o → step_of (crossing rec s.rx s.msg z.out k) ≡ image o
    brings k o e f = ap step_of (loads s (narrow-of s x) z.out room k ∙ e) ∙ back-image s z.out room o f

    pub start-image : (m : Made) → Fine s.ses (begin s m.call (lent_of z m.call)) → recorded.start rec s.rx s.msg m z ≡ image (begin s m.call (lent_of z m.call))
    unfolding cross_start
    start-image m f =
        brings
        (λ t.
        back rec z.out
        (call_numbered (call_number m.call) (first_number z m.call) (flag_number z m.call) t (lent_of z m.call)
        (request_numbered (call_number m.call) (first_number z m.call) (flag_number z m.call)) (unknown_call t)))
        (begin s m.call (lent_of z m.call)) (ap (back rec z.out) (called s z m.call)) f

    pub wrote-image : (lent : List ℕ) → Fine s.ses (report_wrote s lent) → recorded.on_wrote rec s.rx s.msg lent z ≡ image (report_wrote s lent)
    unfolding cross_wrote
    wrote-image lent f = brings (λ t. back rec z.out (report_wrote t lent)) (report_wrote s lent) refl f

    pub fault-image : (lent : List ℕ) (e : End) → Fine s.ses (report_fault s (length lent) (fault_of e))
        → recorded.on_fault rec s.rx s.msg lent e z ≡ image (report_fault s (length lent) (fault_of e))
    unfolding cross_fault
    fault-image lent e f =
        brings (λ t. back rec z.out (report_fault t (length lent) (fault_numbered (end_kind z e) (end_code z e)))) (report_fault s (length lent) (fault_of e)) (ap (λ (g : Fault). back rec z.out (report_fault s (length lent) g)) (faulted z e)) f

    pub read-image : (lent : List ℕ) (k : ℕ) → Fine s.ses (report_read s (length lent) k)
        → recorded.on_read rec s.rx s.msg lent k z ≡ image (report_read s (length lent) k)
    unfolding cross_read
    read-image lent k f = brings (λ t. back_read rec z.out t (length lent) k) (report_read s (length lent) k) (read_back_lem s z.out (length lent) k) f
