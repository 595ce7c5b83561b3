-- What follows a call's writes: an answer, a header to read, the close; and what a fault of a write comes to.
-- Assumes nothing.
use Prim.Native.Nat.{ℕ, zero, suc, ◌≤◌, ◌<◌}
use mathlib.Core.Bool.{Bool, true, false}
use mathlib.Core.List.{List, [], ◌∷◌, ◌++◌}
use mathlib.Core.Path.{◌≡◌, refl, sym, ap, ◌∙◌, subst}
use native.Mathlib.Omega.{arith}
use lib.ListN.{length}
use lib.Seq.{take-append_seam}
use Rattle.protocol.specs.Answers as P
use Rattle.protocol.specs.Answers.{End, closed, error}
use Rattle.protocol.specs.Bytes.{pick}
use Rattle.protocol.specs.Reader.{Prog, answer, Result, plain, Report, accepted, broke, closing, written, push_broke, write_broke, on_report, program, end_of, is_quit, config_after}
use Rattle.request.specs.declared.Request.{Request}
use Rattle.ids.specs.Ids.{dialect_of}
use Rattle.session.specs.declared.Answer.{Answer}
use Rattle.session.specs.declared.Answer.TheVariants as A
use Rattle.session.specs.declared.Fault.{Fault}
use Rattle.session.specs.declared.Pending.TheVariants.{Idle, Closing}
use Rattle.session.specs.declared.Phase.TheVariants.{Header}
use Rattle.session.specs.declared.Want.{Want}
use Rattle.session.specs.declared.Want.TheVariants as W
use Rattle.session.specs.Core.{fault_of, step_of, core}
use Rattle.session.specs.Faithful.{Accepted, Composed, meets_header}
use Rattle.session.specs.Host.{Broken, World, outcome_of, has_closed, grant_close, run}
use Rattle.session.specs.Phases.{wants}
use Rattle.session.specs.Reports.{fault_answer, push_fault, write_fault, wrote_at, fault_at, closed_out}
use Rattle.session.specs.Shown.{paper}
use Rattle.session.specs.State as S
use Rattle.session.specs.State.{dialect_in, St, st, Out, shut}
use Rattle.session.specs.Steps.{read_on}
use Rattle.session.specs.Sends.{told, closing_out, resumed}
use Rattle.session.proofs.Buf.{good-pending}
use Rattle.session.proofs.Run.{config_in, config_of, Heeds, fault-step, wrote-step, fault-told, run-told, reading-ok}
use Rattle.session.proofs.Site.{once, Site, lent, reader, rests, all, unread, Ok, wrote, Goes, later, started, Mid, mid_at, mid_pending, mid_runs, mid_lends, LetIn, program-is}
use Rattle.session.proofs.Tail.{pump_tail}
use Rattle.session.proofs.Text.{pump_text}
use Rattle.session.proofs.Turns.{held, cont, rest_of, Frame, frame_of, at, Kept, kept-eq, pumped-ok}

-- a frame, after quit
abbrev ended : Frame → Frame
ended φ = record { capacity = φ.capacity; message = φ.message; lent = φ.lent; features = φ.features; ids = φ.ids; ended = true }

-- What a fault of the request's writes comes to, tail at z: of the piece b, behind the pieces xs that were accepted.
abbrev pub Breaks : Site → (z n : ℕ) → Request → Type 0
Breaks c z n rq =
    (f i : ℕ) (xs : List (List ℕ)) (b : List ℕ) (rest : List (List ℕ)) (t : St) (e : End) → n ≤ f → Mid c z t → all c ≡ xs ++ b ∷ rest
    → Goes c f i xs (once xs b e) (write_fault t rq (fault_of e))

module _ (c : Site) (lets : LetIn c) where
  module _ (stays : is_quit c.call ≡ false) where
    config : config_of (started c).ses c.host.close ≡ config_after (reader c) c.call
    config = rw stays

    heeds : (xs : List (List ℕ)) (i : ℕ) (bs : List Broken) (is : List ℕ) → Composed c.call (length (held c.state)) is → Accepted (all c) xs bs
        → Heeds (reader c) c.call (unread c) (length (held c.state)) c.state.ses.buf.tail (wrote c i xs bs is)
    heeds xs i bs is d a = record { asks = tt; pieces = a; composed = d; closes = rw stays; windows = tt }

    -- an answer ends the call
    pub told-ok : (f i : ℕ) (xs : List (List ℕ)) (bs : List Broken) (t : St) (a : Answer) → 0 < f → Mid c (rests c (outcome_of bs)) t → Accepted (all c) xs bs
        → on_report (reader c) (outcome_of bs) c.call ≡ answer (paper t.rx t.msg a) → Goes c f i xs bs (told t a)
    unfolding plain
    told-ok f i xs bs t a l x p e is d =
        subst (Ok c) (sym (run-told c.host (lent c) f (wrote c i xs bs is) (st (S.at t.ses t.ses.buf Idle) t.rx t.msg) a l))
        (record {
          good = good-pending t x.good Idle;
          still = refl;
          config = ap (λ (ψ : Frame). config_in ψ c.host.close) x.frame ∙ config;
          same = rw (program-is c lets (outcome_of bs) ∙ e, x.same);
          heeds = heeds xs i bs is d p;
          settled = λ b. rw (program-is c lets (outcome_of bs) ∙ e) refl;
          ends = x.place;
          kept = rw (program-is c lets (outcome_of bs) ∙ e) x.msg;
        })

    -- the call reads a header
    pub header_ok : (f i : ℕ) (xs : List (List ℕ)) (bs : List Broken) (t : St) (x : Want) (lost : Bool) → c.state.ses.ended ≡ false → later c ≤ f
        → Mid c (rests c (outcome_of bs)) t → Accepted (all c) xs bs
        → ((msg y : List ℕ) → plain c.state.ses.capacity (on_report (reader c) (outcome_of bs) c.call) y
        ≡ plain c.state.ses.capacity (rest_of (dialect_in c.state.ses) c.state.ses.capacity msg (Header x)) y)
        → ((e : End) (rx msg : List ℕ) → paper rx msg (pick lost A.Closed (fault_answer (fault_of e))) ≡ P.broken (end_of e (outcome_of bs) c.call))
        → meets_header (on_report (reader c) (outcome_of bs) c.call) ≡ true
        → Goes c f i xs bs (read_on t (Header x) lost)
    header_ok f i xs bs t x lost live l m p e z meets is d =
        let φ : Frame = frame_of (started c).ses in
        let o : Out = read_on t (Header x) lost in
        let G : List ℕ → Result = λ y. plain c.state.ses.capacity (program (reader c) (outcome_of bs) c.call) (held t ++ y) in
        reading-ok c.host (reader c) c.call (unread c) (length (held c.state)) c.state.ses.buf.tail c.state.msg φ lost (outcome_of bs) (lent c) live refl config z f (wrote c i xs bs is) (held t) o
        (omega arith) refl refl
        (ap (λ (y : List ℕ). y ++ c.world.left) (sym m.same)) (take-append_seam (held c.state) c.world.left ∙ sym m.same) tt (heeds xs i bs is d p)
        (kept-eq φ lost G (at t (Header x)) o
        (λ y. ap (λ (k : Prog). plain c.state.ses.capacity k (held t ++ y)) (program-is c lets (outcome_of bs)) ∙ e t.msg (held t ++ y)
        ∙ ap (λ (ψ : Frame). plain ψ.capacity (rest_of (dialect_of ψ.ids) ψ.capacity t.msg (Header x)) (held t ++ y)) (sym m.frame))
        (subst (λ (ψ : Frame). Kept ψ lost (at t (Header x)) o) m.frame (pumped-ok t (Header x) lost m.good tt)))
        (rw (sym m.place, ap (λ (ψ : Frame). ψ.capacity) (sym m.frame)) (pump_tail 4 t (Header x) lost m.good tt))
        (λ y.
        rw (program-is c lets (outcome_of bs), meets, sym m.msg, ap (λ (ψ : Frame). ψ.capacity) (sym m.frame), ap (λ (ψ : Frame). ψ.ids) (sym m.frame))
        (pump_text 4 t (Header x) lost m.good tt y))

    -- what a fault of a write comes to: an answer, or for a push the next header
    pub plain-breaks : (rq : Request) (z : ℕ) → ((e : End) → rests c (broke e) ≡ z) → ((t : St) (e : Fault) → write_fault t rq e ≡ told t (fault_answer e))
        → ((e : End) → write_broke (reader c) e c.call ≡ answer (P.broken e))
        → Breaks c z (later c) rq
    plain-breaks rq z rest_at faults breaks f i xs b rest t e l x split =
        rw (faults t (fault_of e))
        (told-ok f i xs (once xs b e) t (fault_answer (fault_of e)) (omega arith) (mid_at c t x (rest_at e)) (rest, (split, refl))
        (breaks e ∙ ap answer (sym (fault-told e t.rx t.msg))))

    pub push_breaks : (rq : Request) (z : ℕ) → ((e : End) → rests c (broke e) ≡ z) → c.state.ses.ended ≡ false → ((t : St) (e : Fault) → write_fault t rq e ≡ push_fault t e)
        → ((e : End) → write_broke (reader c) e c.call ≡ push_broke (reader c) e)
        → ((e : End) → end_of e (broke closed) c.call ≡ closed) → Breaks c z (later c) rq
    unfolding paper cont wants
    push_breaks rq z rest_at live faults breaks ends f i xs b rest t closed l x split =
        rw (faults t (fault_of closed))
        (header_ok f i xs (once xs b closed) t W.Nothing true live l (mid_at c t x (rest_at closed)) (rest, (split, refl))
        (λ msg y. ap (λ (k : Prog). plain c.state.ses.capacity k y) (breaks closed)) (λ e rx msg. ap P.broken (sym (ends e))) (ap meets_header (breaks closed)))
    push_breaks rq z rest_at live faults breaks ends f i xs b rest t (error k) l x split =
        rw (faults t (fault_of (error k))) (told-ok f i xs (once xs b (error k)) t (A.Error k) (omega arith) (mid_at c t x (rest_at (error k))) (rest, (split, refl)) (breaks (error k)))

  -- quit: the close, after the write came to an error or not
  pub close-ok : (f i : ℕ) (xs : List (List ℕ)) (bs : List Broken) (failed : Bool) (code : ℕ) (t : St) → c.state.ses.ended ≡ false
      → is_quit c.call ≡ true → 1 < f → Mid c (rests c (outcome_of bs)) t
      → Accepted (all c) xs bs → on_report (reader c) (outcome_of bs) c.call ≡ answer (pick failed (P.broken (error code)) (closing c.host.close))
      → Goes c f i xs bs (closing_out t failed code)
  unfolding run plain paper wrote_at fault_at
  close-ok zero i xs bs failed code t live quits l x p e is d = absurd (omega arith)
  close-ok (suc f) i xs bs failed code t live quits l x p e is d = go c.host.close refl
    where
      t₁ : St
      t₁ = st (S.at t.ses t.ses.buf (Closing failed code)) t.rx t.msg

      x₁ : Mid c (rests c (outcome_of bs)) t₁
      x₁ = mid_pending c t (Closing failed code) x

      w₁ : World
      w₁ = has_closed (wrote c i xs bs is)

      -- the host reported of the close what a says
      over : (a : Answer) → closing c.host.close ≡ paper t.rx t.msg a
          → Ok c (run core c.host (lent c) f w₁ (step_of (closed_out t₁ failed code a)))
      over a z =
          let t₂ : St = st (shut t.ses) t.rx t.msg in
          let b : Answer = pick failed (A.Error code) a in
          subst (Ok c) (sym (run-told c.host (lent c) f w₁ t₂ b (omega arith)))
          (record {
            good = record { order = x.good.order; inside = x.good.inside; rx = x.good.rx; least = x.good.least; aside = x.good.aside; msg = x.good.msg };
            still = refl;
            config = rw quits (ap (λ (ψ : Frame). config_in (ended ψ) c.host.close) x.frame);
            same = rw (program-is c lets (outcome_of bs) ∙ e ∙ ap answer (told failed), x.same);
            heeds = record { asks = tt; pieces = p; composed = d; closes = rw (quits, live); windows = tt };
            settled = λ b. rw (program-is c lets (outcome_of bs) ∙ e) refl;
            ends = x.place;
            kept = rw (program-is c lets (outcome_of bs) ∙ e) x.msg;
          })
        where
          told : (k : Bool) → pick k (P.broken (error code)) (closing c.host.close) ≡ paper t.rx t.msg (pick k (A.Error code) a)
          told true = refl
          told false = z

      go : (z : Report) → c.host.close ≡ z
          → Ok c (grant_close core c.host (lent c) (λ w' s'. run core c.host (lent c) f w' s') (wrote c i xs bs is) (step_of (closing_out t failed code)) z)
      go accepted z =
          rw (wrote-step t₁ (length (lent c)) x₁.good (mid_runs c t₁ x₁ live) (mid_lends c t₁ x₁) (Closing failed code) refl refl (lent c) refl)
          (over A.Done (ap closing z))
      go (broke d) z =
          rw (fault-step t₁ (length (lent c)) x₁.good (mid_runs c t₁ x₁ live) (mid_lends c t₁ x₁) (Closing failed code) refl refl (fault_of d))
          (over (fault_answer (fault_of d)) (ap closing z ∙ sym (fault-told d t.rx t.msg)))

  -- what follows the call's writes, tail at z
  abbrev pub Follows : ℕ → Request → Type 0
  Follows z rq = (f i : ℕ) (t : St) → later c ≤ f → Mid c z t → Goes c f i (all c) [] (resumed t rq 0 (lent c))

  pub done-follows : (rq : Request) (z : ℕ) → rests c accepted ≡ z → is_quit c.call ≡ false → ((t : St) → resumed t rq 0 (lent c) ≡ told t A.Done)
      → written (reader c) c.call ≡ answer P.done → Follows z rq
  unfolding paper
  done-follows rq z rest_at stays r e f i t l x = rw (r t) (told-ok stays f i (all c) [] t A.Done (omega arith) (mid_at c t x rest_at) refl e)
