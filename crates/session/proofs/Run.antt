-- A call against the host. First what it is to come to, and that a report which is awaited is let in; then the call from where it reads:
-- bytes come in reads of any counts, each asked at a need of the plain reader, until there is an answer or the end error.
-- Assumes nothing.
use Prim.Native.Nat.{ℕ, zero, suc, ◌+◌, ◌-◌, ◌≤◌, ◌<◌}
use mathlib.Core.Bool.{Bool, true, false}
use mathlib.Core.List.{List, [], ◌∷◌, ◌++◌, append_assoc, append-nil}
use mathlib.Core.Option.{Option, none, some}
use mathlib.Core.Path.{◌≡◌, refl, sym, ap, ◌∙◌, subst}
use native.Mathlib.Omega.{arith}
use borrow.Author.Tests.{lt-ltb, le-leb, eq-eqb}
use lib.ListN.{length, take, drop, length-append, length-drop, take-append-drop}
use lib.Seq.{length-take-le, take_at, take-append-add}
use Rattle.protocol.specs.Answers as P
use Rattle.protocol.specs.Answers.{End, closed, error}
use Rattle.protocol.specs.Bytes.{pick}
use Rattle.protocol.specs.Calls.{Call}
use Rattle.ids.specs.Ids.{dialect_of}
use Rattle.protocol.specs.Reader.{Result, short, plain, Config, Report, program, end_of, Reply, reply, plain_call, is_quit, config_after}
use Rattle.protocol.proofs.Bytes.{over-length}
use Rattle.protocol_readers.proofs.Needs.{plain-short}
use Rattle.features.specs.Meaning.{listed}
use Rattle.recv_buf.specs.RecvBuf.{held_bytes}
use Rattle.recv_buf.proofs.Laws.{held-length, window-keeps}
use Rattle.session.specs.declared.Answer.{Answer}
use Rattle.session.specs.declared.Answer.TheVariants as A
use Rattle.session.specs.declared.Fault.{Fault}
use Rattle.session.specs.declared.Pending.{Pending}
use Rattle.session.specs.declared.Pending.TheVariants.{Idle}
use Rattle.session.specs.declared.Phase.{Phase}
use Rattle.session.specs.declared.Reply.TheVariants as R
use Rattle.session.specs.declared.Session.{Session}
use Rattle.session.specs.Calls.{is_idle}
use Rattle.session.specs.Core.{fault_of, step_of, core}
use Rattle.session.specs.Faithful.{AtNeed, Brought, AllAtNeeds, call_pieces, Accepted, closes_for, Composed, rests_at, tail_after, window_at, Placed, text_of, keeping, came_by, comes_out, came_of, reply_of}
use Rattle.session.specs.Host.{Step, Host, Ask, Stop, World, outcome_of, has_read, has_stopped, counted, filling, windowed, Run, over_with, unended, grant_read, granted, run}
use Rattle.session.specs.Phases.{wants}
use Rattle.session.specs.Reports.{report_refusal, refusal_at, read_in, read_at, report_read, wrote_at, report_wrote, fault_answer, fault_at, report_fault}
use Rattle.session.specs.Shown.{paper}
use Rattle.session.specs.State as S
use Rattle.session.specs.State.{dialect_in, St, st, Out, Good}
use Rattle.session.proofs.Buf.{sound-of, good-at, good-pending}
use Rattle.session.proofs.Misfit.{fits-misfit}
use Rattle.session.proofs.Tail.{tail_in, Tails, stay-tail}
use Rattle.session.proofs.Text.{text_at, text_in, text-short, Texts, stay-text}
use Rattle.session.proofs.Turns.{held, cont, Frame, frame_of, Waits, KeptOut, Kept, kept-eq, stay-ok}

-- ---- what a call is to come to

-- a session, as the plain reader is set up; z is reported of the close
abbrev pub config_in : Frame → Report → Config
config_in φ z =
    record { setting = record { dialect = dialect_of φ.ids; features = listed φ.features; ended = φ.ended }; capacity = φ.capacity; close = z }

abbrev pub config_of : Session → Report → Config
config_of s z = config_in (frame_of s) z

-- What the world w has of a call is the plain reader's: each read asked at a need, into the window that it should have, the pieces
-- accepted, the closes. The unread bytes were v, n of them held, up to the place z.
pub record Heeds (g : Config) (q : Call) (v : List ℕ) (n z : ℕ) (w : World) : Type 0 where
  pub asks : AllAtNeeds g (outcome_of w.broken) q v w.pieces w.asks
  pub pieces : Accepted (call_pieces g q n) w.pieces w.broken
  pub composed : Composed q n w.composed
  pub closes : w.closes ≡ closes_for (is_quit q) g.setting.ended w.pieces
  pub windows : Placed g.capacity (rests_at g (outcome_of w.broken) q n z) w.asks

-- A call that is over: so is what it answers and what is left unread, and the next call finds a session as the plain reader is then. The
-- message buffer was m.
pub record Over (g : Config) (e : End) (q : Call) (v : List ℕ) (n z : ℕ) (m : List ℕ) (t : St) (a : P.Answer) (w : World) : Type 0 where
  pub good : Good t
  pub still : t.ses.pending ≡ Idle
  pub config : config_of t.ses g.close ≡ config_after g q
  pub same : reply_of w.stopped g e (outcome_of w.broken) q v ≡ record { answer = a; unread = held t ++ w.left }
  pub heeds : Heeds g q v n z w
  pub settled : Brought w.asks → comes_out (plain g.capacity (program g (outcome_of w.broken) q) (came_by n v w.asks)) ≡ true
  pub ends : t.ses.buf.tail ≡ tail_after (rests_at g (outcome_of w.broken) q n z) w.asks
  pub kept : t.msg ≡ keeping (text_of g (outcome_of w.broken) q (came_of w.stopped v)) m

abbrev pub Comes : Config → End → Call → List ℕ → (n z : ℕ) → List ℕ → Run Session → Type 0
Comes g e q v n z m (over_with x rx msg a w) = Over g e q v n z m (st x rx msg) a w
Comes g e q v n z m unended = ⊥

-- ---- reports

module _ (s : St) (n : ℕ) (g : Good s) (runs : s.ses.ended ≡ false) (size : s.ses.lent ≡ n) (p : Pending) (pend : s.ses.pending ≡ p)
    (busy : is_idle p ≡ false) where
  -- a report that is awaited is let in
  awaited : refusal_at s n ≡ 0
  unfolding report_refusal
  awaited = rw (fits-misfit s.ses (length s.rx) (length s.msg) g, pend, busy, eq-eqb n s.ses.lent (sym size), runs)

  pub read_step : (k : ℕ) → report_read s n k ≡ read_at p s k
  unfolding report_read
  read_step k = rw (awaited, pend)

  pub fault-step : (e : Fault) → report_fault s n e ≡ fault_at p s e
  unfolding report_fault
  fault-step e = rw (awaited, pend)

  pub wrote-step : (lent : List ℕ) → length lent ≡ n → report_wrote s lent ≡ wrote_at p s lent
  unfolding report_wrote
  wrote-step lent e = rw (e, awaited, pend)

pub fault-told : (e : End) (rx msg : List ℕ) → paper rx msg (fault_answer (fault_of e)) ≡ P.broken e
unfolding paper
fault-told closed rx msg = refl
fault-told (error c) rx msg = refl

-- ---- an answer

abbrev telling : St → Answer → Out
telling t a = record { st = t; reply = R.Told a }

pub run-told : (h : Host) (lent : List ℕ) (f : ℕ) (w : World) (t : St) (a : Answer) → 0 < f
    → run core h lent f w (step_of (telling t a)) ≡ over_with t.ses t.rx t.msg (paper t.rx t.msg a) w
unfolding run
run-told h lent zero w t a l = absurd (omega arith)
run-told h lent (suc f) w t a l = refl

-- ---- reading

pub length-filling : (f : ℕ → ℕ) (n : ℕ) → length (filling f n) ≡ n
length-filling f zero = refl
length-filling f (suc n) = ap suc (length-filling f n)

module _ (h : Host) (g : Config) (q : Call) (v : List ℕ) (n z : ℕ) (m : List ℕ) (φ : Frame) (lost : Bool) (r : Report) (lent : List ℕ) (runs : φ.ended ≡ false)
    (size : φ.lent ≡ length lent) (config : config_in φ g.close ≡ config_after g q)
    (end-told : (e : End) (rx msg : List ℕ) → paper rx msg (pick lost A.Closed (fault_answer (fault_of e))) ≡ P.broken (end_of e r q)) where
  -- the plain reader, given the bytes x
  abbrev G : List ℕ → Result
  G x = plain g.capacity (program g r q) x

  abbrev Ok : Run Session → Type 0
  Ok o = Comes g h.end q v n z m o

  -- tail in the world w, where no read is pending
  abbrev tail : World → ℕ
  tail w = tail_after (rests_at g (outcome_of w.broken) q n z) w.asks

  -- the message buffer in the end, given the bytes x
  abbrev M : List ℕ → List ℕ
  M x = keeping (text_of g r q x) m

  -- one step of the run, in the world w where the bytes u of v have come
  module _ (w : World) (u : List ℕ) (t : St) (is : outcome_of w.broken ≡ r) (on-time : w.stopped ≡ none) (come : v ≡ u ++ w.left) (by : came_by n v w.asks ≡ u) (brought : Brought w.asks) (heeds : Heeds g q v n z w)
      (place : t.ses.buf.tail ≡ tail_in g.capacity t.ses.pending (length (held t)) (tail w))
      (texts : (x : List ℕ) → M (u ++ x) ≡ text_in g.setting.dialect g.capacity t.ses.pending t.msg (held t ++ x))
      (k : World → Step Session → Run Session)
      (ends : (w' : World) (t' : St) (a : Answer) → k w' (step_of (telling t' a)) ≡ over_with t'.ses t'.rx t'.msg
      (paper t'.rx t'.msg a) w')
      (on : (w' : World) (u' : List ℕ) (o : Out) → length w'.left < length w.left → outcome_of w'.broken ≡ r → w'.stopped ≡ none → v ≡ u' ++ w'.left → came_by n v w'.asks ≡ u' → Brought w'.asks → Heeds g q v n z w'
      → Kept φ lost (λ x. G (u' ++ x)) o → Tails g.capacity (tail w') o → Texts g.setting.dialect g.capacity (λ x. M (u' ++ x)) o → Ok (k w' (step_of o))) where
    -- the plain reader is given all of v
    given-all : reply_of w.stopped g h.end (outcome_of w.broken) q v ≡ reply (end_of h.end r q) (G (u ++ w.left))
    given-all =
        ap (λ (s : Option Stop). reply_of s g h.end (outcome_of w.broken) q v) on-time ∙ ap (λ (r' : Report). plain_call g h.end r' q v) is
        ∙ ap (λ (y : List ℕ). reply (end_of h.end r q) (G y)) come

    in_the_end : keeping (text_of g (outcome_of w.broken) q (came_of w.stopped v)) m ≡ text_in g.setting.dialect g.capacity t.ses.pending t.msg (held t ++ w.left)
    in_the_end =
        ap (λ (s : Option Stop). keeping (text_of g (outcome_of w.broken) q (came_of s v)) m) on-time ∙ ap (λ (r' : Report). keeping (text_of g r' q v) m) is
        ∙ ap M come ∙ texts w.left

    module _ (i len : ℕ) (p : Phase) (x : Waits φ (λ y. G (u ++ y)) lost t i len p) where
      abbrev ask : ℕ → Ask
      ask j = record { rest = w.left; holds = held t; at = i; len = len; before = w.pieces; brought = j }

      abbrev step : Step Session
      step = step_of (record { st = t; reply = R.Read i len })

      settled : config_of t.ses g.close ≡ config_after g q
      settled = ap (λ (ψ : Frame). config_in ψ g.close) x.frame ∙ config

      capacity : t.ses.capacity ≡ g.capacity
      capacity = ap (λ (c : Config). c.capacity) settled

      falls : (y : List ℕ) → length y ≡ 0 → G (u ++ y) ≡ short (wants t.ses.capacity p) (held t ++ y)
      falls y e =
          let l = held-length t.rx t.ses.buf (sound-of t x.good) in
          x.same y ∙ plain-short t.ses.capacity (wants t.ses.capacity p) (cont (dialect_in t.ses) t.ses.capacity t.msg p) (held t ++ y) x.fits
          (omega (arith, x, length-append (held t) y))

      at-need : (j : ℕ) → AtNeed g (outcome_of w.broken) q v w.pieces (ask j)
      at-need j =
          record {
            come = u;
            n = wants t.ses.capacity p;
            split = come;
            falls = rw is (ap G (sym (append-nil u)) ∙ falls [] refl ∙ ap (short (wants t.ses.capacity p)) (append-nil (held t)));
            fits = omega (arith, x, capacity);
            fewer = omega (arith, x, held-length t.rx t.ses.buf (sound-of t x.good));
            window = omega (arith, x);
            inside = omega (arith, x, capacity);
            behind = refl;
          }

      window : i ≡ window_at g.capacity (length (held t)) (tail w)
      window = x.from ∙ place ∙ ap (λ (y : Pending). tail_in g.capacity y (length (held t)) (tail w)) x.pend

      read-heeds : (j : ℕ) → Heeds g q v n z (has_read j (ask j) w)
      read-heeds j =
          record { asks = (at-need j, (brought, heeds.asks)); pieces = heeds.pieces; composed = heeds.composed; closes = heeds.closes; windows = (window, heeds.windows) }

      -- the window, overwritten: y, and then any bytes
      module _ (f : ℕ → ℕ) (y : List ℕ) (l : length y ≤ len) where
        abbrev laid : List ℕ
        laid = y ++ filling f (len - length y)

        laid-length : length laid ≡ len
        laid-length = omega (arith, length-append y (filling f (len - length y)), length-filling f (len - length y))

        window-good : Good (st t.ses (windowed f t.rx i len y) t.msg)
        window-good =
            good-at t t.ses.buf (windowed f t.rx i len y) t.msg t.ses.pending x.good x.good.order x.good.inside
            (over-length t.rx i laid (omega (arith, x, laid-length))) refl

        window-held : held_bytes (windowed f t.rx i len y) t.ses.buf ≡ held t
        window-held = rw x.from (window-keeps t.rx t.ses.buf (sound-of t x.good) laid (omega (arith, x, laid-length)))

      ended : t.ses.ended ≡ false
      ended = ap (λ (ψ : Frame). ψ.ended) x.frame ∙ runs

      lends : t.ses.lent ≡ length lent
      lends = ap (λ (ψ : Frame). ψ.lent) x.frame ∙ size

      -- fewer than are wanted, and nothing of the text is kept
      text-stays : (y : List ℕ) → length y ≡ 0 → text_in g.setting.dialect g.capacity t.ses.pending t.msg (held t ++ y) ≡ t.msg
      text-stays y empty =
          let few : length (held t ++ y) < wants g.capacity p =
          rw (sym capacity) (omega (arith, x, length-append (held t) y, held-length t.rx t.ses.buf (sound-of t x.good))) in
          ap (λ (z : Pending). text_in g.setting.dialect g.capacity z t.msg (held t ++ y)) x.pend ∙ text-short g.setting.dialect g.capacity p t.msg (held t ++ y) few

      -- the read comes to the fault e, in the world w'
      module _ (e : End) (w' : World) (f : ℕ → ℕ) where
        stop-ok : reply_of w'.stopped g h.end (outcome_of w'.broken) q v ≡ record { answer = P.broken (end_of e r q); unread = held t ++ w'.left }
            → Heeds g q v n z w' → (Brought w'.asks → ⊥) → tail_after (rests_at g (outcome_of w'.broken) q n z) w'.asks ≡ i + 0
            → keeping (text_of g (outcome_of w'.broken) q (came_of w'.stopped v)) m ≡ t.msg
            → Ok (k w' (step_of (report_fault (st t.ses (windowed f t.rx i len []) t.msg) (length lent) (fault_of e))))
        unfolding fault_at
        stop-ok same heeds' nothing place' kept =
            let rx : List ℕ = windowed f t.rx i len [] in
            let t₁ : St = st t.ses rx t.msg in
            let a : Answer = pick lost A.Closed (fault_answer (fault_of e)) in
            subst (λ (o : Out). Ok (k w' (step_of o)))
            (sym (fault-step t₁ (length lent) (window-good f [] (omega arith)) ended lends _ x.pend refl (fault_of e)))
            (subst Ok (sym (ends w' (st (S.at t.ses t.ses.buf Idle) rx t.msg) a))
            (record {
              good = good-pending t₁ (window-good f [] (omega arith)) Idle;
              still = refl;
              config = ap (λ (ψ : Frame). config_in ψ g.close) x.frame ∙ config;
              same = same ∙ ap (λ (b : P.Answer). record { answer = b; unread = held t ++ w'.left }) (sym (end-told e rx t.msg))
                  ∙ ap (λ (y : List ℕ). record { answer = paper rx t.msg a; unread = y ++ w'.left }) (sym (window-held f [] (omega arith)));
              heeds = heeds';
              settled = λ b. absurd (nothing b);
              ends = omega (arith, x, place');
              kept = sym kept;
            }))

      -- all has come: the end error
      end-ok : length w.left ≡ 0 → (f : ℕ → ℕ)
          → Ok (k (has_read 0 (ask 0) w) (step_of (report_fault (st t.ses (windowed f t.rx i len []) t.msg) (length lent) (fault_of h.end))))
      end-ok empty f =
          stop-ok h.end (has_read 0 (ask 0) w) f (given-all ∙ ap (reply (end_of h.end r q)) (falls w.left empty)) (read-heeds 0) (λ b. absurd (omega (arith, b))) refl
          (in_the_end ∙ text-stays w.left empty)

      -- the read comes to a fault too early: the plain reader is given u alone
      early-ok : (e : End) (f : ℕ → ℕ)
          → Ok (k (has_stopped e (has_read 0 (ask 0) w)) (step_of (report_fault (st t.ses (windowed f t.rx i len []) t.msg) (length lent) (fault_of e))))
      early-ok e f =
          let front : take (length v - length w.left) v ≡ u ++ [] =
          ap (λ (y : List ℕ). take (length y - length w.left) y) come
          ∙ take_at u w.left (length (u ++ w.left) - length w.left) (omega (arith, length-append u w.left)) ∙ sym (append-nil u) in
          let nothing : held t ++ [] ≡ held t = append-nil (held t) in
          stop-ok e (has_stopped e (has_read 0 (ask 0) w)) f
          (ap (λ (y : Reply). record { answer = y.answer; unread = y.unread ++ w.left })
          (ap (λ (r' : Report). plain_call g e r' q (take (length v - length w.left) v)) is
          ∙ ap (λ (y : List ℕ). reply (end_of e r q) (G y)) front ∙ ap (reply (end_of e r q)) (falls [] refl))
          ∙ ap (λ (y : List ℕ). record { answer = P.broken (end_of e r q); unread = y ++ w.left }) nothing)
          (record { asks = (read-heeds 0).asks; pieces = heeds.pieces; composed = heeds.composed; closes = heeds.closes; windows = (read-heeds 0).windows }) (λ b. absurd (omega (arith, b))) refl
          (ap (λ (r' : Report). keeping (text_of g r' q (take (length v - length w.left) v)) m) is ∙ ap M front ∙ texts [] ∙ text-stays [] refl)

      -- some of it came
      came-ok : (j : ℕ) → 1 ≤ j → j ≤ len → j ≤ length w.left → (f : ℕ → ℕ)
          → Ok (k (has_read j (ask j) w) (step_of (report_read (st t.ses (windowed f t.rx i len (take j w.left)) t.msg) (length lent) j)))
      unfolding read_at
      came-ok j a b c f =
          let y : List ℕ = take j w.left in
          let e : length y ≡ j = length-take-le j w.left c in
          let t₁ : St = st t.ses (windowed f t.rx i len y) t.msg in
          let so-many : length (u ++ w.left) - length w.left + j ≡ length u + j = omega (arith, length-append u w.left) in
          let until : ℕ → Out = λ m. read_in t₁ p (t.ses.buf.head + wants t.ses.capacity p) lost m in
          on (has_read j (ask j) w) (u ++ y) (report_read t₁ (length lent) j) (omega (arith, length-drop j w.left)) is on-time
          (come ∙ ap (λ (z : List ℕ). u ++ z) (sym (take-append-drop j w.left)) ∙ sym (append_assoc u y (drop j w.left)))
          (ap (λ (x' : List ℕ). take (length x' - length w.left + j) x') come
          ∙ ap (λ (i' : ℕ). take i' (u ++ w.left)) so-many ∙ take-append-add u w.left j)
          (omega arith) (read-heeds j)
          (subst (λ (o : Out). Kept φ lost (λ z. G (u ++ y ++ z)) o)
          (sym (read_step t₁ (length lent) (window-good f y (omega arith)) ended lends _ x.pend refl j))
          (kept-eq φ lost (λ z. G (u ++ y ++ z)) (λ z. G (u ++ (y ++ z))) (until j) (λ z. ap G (append_assoc u y z))
          (subst (λ (m : ℕ). Kept φ lost (λ z. G (u ++ (y ++ z))) (until m)) e
          (stay-ok x y (filling f (len - length y)) (omega arith) (omega (arith, x, length-filling f (len - length y)))))))
          (subst (Tails g.capacity (i + j))
          (sym (read_step t₁ (length lent) (window-good f y (omega arith)) ended lends _ x.pend refl j))
          (subst (λ (n' : ℕ). Tails n' (i + j) (until j)) capacity
          (subst (λ (j' : ℕ). Tails t.ses.capacity (i + j') (until j')) e
          (stay-tail x y (filling f (len - length y)) (omega arith) (omega (arith, x, length-filling f (len - length y)))))))
          (subst (Texts g.setting.dialect g.capacity (λ z. M (u ++ y ++ z)))
          (sym (read_step t₁ (length lent) (window-good f y (omega arith)) ended lends _ x.pend refl j))
          (λ z.
          ap M (append_assoc u y z) ∙ texts (y ++ z) ∙ ap (λ (s : Pending). text_in g.setting.dialect g.capacity s t.msg (held t ++ (y ++ z))) x.pend
          ∙ subst (λ (k' : Config). Texts k'.setting.dialect k'.capacity (λ a'. text_at k'.setting.dialect k'.capacity p t.msg (held t ++ (y ++ a'))) (until j)) settled
          (subst (λ (i' : ℕ). Texts (dialect_in t.ses) t.ses.capacity (λ a'. text_at (dialect_in t.ses) t.ses.capacity p t.msg (held t ++ (y ++ a'))) (until i')) e
          (stay-text x y (filling f (len - length y)) (omega arith) (omega (arith, x, length-filling f (len - length y))))) z))

      read_ok : (ls : List ℕ) (fails : Option End) → w.left ≡ ls → Ok (grant_read core h lent k w step i len ls fails)
      read_ok [] fails e = end-ok (ap length e) (h.junk w.reads)
      read_ok (b ∷ bs) (some d) e = early-ok d (h.junk w.reads)
      read_ok (b ∷ bs) none e =
          let some : 0 < length w.left = rw e (omega arith) in
          came-ok (counted (h.count w.reads) len (length w.left)) (omega arith) (omega (arith, x)) (omega arith) (h.junk w.reads)

    reply-ok : (o : R.the_data) → KeptOut φ lost (λ x. G (u ++ x)) t o
        → Ok (granted core h lent k w (step_of (record { st = t; reply = o })) (step_of (record { st = t; reply = o })).show)
    reply-ok (R.Told a) x =
        record {
          good = x.good;
          still = x.still;
          config = ap (λ (ψ : Frame). config_in ψ g.close) x.frame ∙ config;
          same = given-all ∙ ap (reply (end_of h.end r q)) (x.same w.left);
          heeds = heeds;
          settled = λ b. rw (is, by) (ap comes_out (ap G (sym (append-nil u)) ∙ x.same []));
          ends = place ∙ ap (λ (y : Pending). tail_in g.capacity y (length (held t)) (tail w)) x.still;
          kept = sym (in_the_end ∙ ap (λ (z : Pending). text_in g.setting.dialect g.capacity z t.msg (held t ++ w.left)) x.still);
        }
    reply-ok (R.Read i len) x =
        let wide : 0 < len = omega (arith, x.1) in
        let inside : i + len ≤ length t.rx = omega (arith, x.1) in
        rw (lt-ltb 0 len wide, le-leb (i + len) (length t.rx) inside) (read_ok i len x.0 x.1 w.left (h.fails w.reads) refl)
    reply-ok (R.WriteRx i len) x = absurd x
    reply-ok (R.WriteLent i len) x = absurd x
    reply-ok (R.WriteBytes b) x = absurd x
    reply-ok R.Close x = absurd x

  pub reading-ok : (f : ℕ) (w : World) (u : List ℕ) (o : Out) → length w.left + 1 < f → outcome_of w.broken ≡ r → w.stopped ≡ none → v ≡ u ++ w.left → came_by n v w.asks ≡ u → Brought w.asks → Heeds g q v n z w
      → Kept φ lost (λ x. G (u ++ x)) o → Tails g.capacity (tail w) o → Texts g.setting.dialect g.capacity (λ x. M (u ++ x)) o → Ok (run core h lent f w (step_of o))
  unfolding run
  reading-ok zero w u o l is on-time come by brought heeds x place texts = absurd (omega arith)
  reading-ok (suc f) w u o l is on-time come by brought heeds x place texts =
      reply-ok w u o.st is on-time come by brought heeds place texts (λ w' s'. run core h lent f w' s') (λ w' t a. run-told h lent f w' t a (omega arith))
      (λ w' u' o' m is' on-time' come' by' brought' heeds' y place' texts'. reading-ok f w' u' o' (omega arith) is' on-time' come' by' brought' heeds' y place' texts') o.reply x
