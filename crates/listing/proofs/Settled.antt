-- A listing step of the program is the plain reader's, where all the input has come: from any session that waits for nothing, and the first.
-- Assumes nothing.
use Prim.Native.Nat.{ℕ, ◌-◌, ◌≤◌, ◌<◌}
use mathlib.Core.Bool.{false}
use mathlib.Core.List.{List, [], ◌++◌, append-nil}
use mathlib.Core.Path.{◌≡◌, refl, sym, ap, ◌∙◌, subst}
use native.Mathlib.Decide.{ℕ_discrete}
use native.Mathlib.Nat.{zero-add}
use native.Mathlib.Omega.{arith}
use borrow.Author.Tests.{lt-ltb, le-ltb}
use lib.ListN.{length, take, drop, length-drop, take-append-drop, drop_of_length-le}
use lib.Seq.{length-take-le}
use Rattle.protocol.specs.Answers.{broken, error}
use Rattle.protocol.specs.Bytes.{over}
use mathlib.Core.Option.{none}
use Rattle.protocol.specs.Calls.{v1, next_entry}
use Rattle.protocol.specs.Refusal.{refusal}
use Rattle.protocol.specs.Ids.{Dialect, letters, published}
use Rattle.protocol.proofs.Ids.{published-legal}
use Rattle.ids.specs.Ids.{dialect_of, ids_of}
use Rattle.ids.proofs.Laws.{dialect-back}
use Rattle.protocol.specs.Reader.{Prog, Result, plain, entry_ways, next, written, accepted, program, reply, plain_call}
use Rattle.session.specs.declared.Answer.{Answer}
use Rattle.session.specs.declared.Fault.TheVariants as F
use Rattle.session.specs.declared.Pending.{Pending}
use Rattle.session.specs.declared.Pending.TheVariants.{Idle}
use Rattle.session.specs.declared.Phase.{Phase}
use Rattle.session.specs.declared.Phase.TheVariants.{Header}
use Rattle.session.specs.declared.Reply.{Reply}
use Rattle.session.specs.declared.Reply.TheVariants as R
use Rattle.session.specs.declared.Version.TheVariants.{V1}
use Rattle.session.specs.declared.Want.TheVariants as W
use Rattle.session.specs.Calls.{is_idle, call_refusal, entry_call}
use Rattle.session.specs.Demand3.{Opening}
use Rattle.session.specs.Phases.{wants}
use Rattle.session.specs.Reports.{read_at, report_read, fault_at, report_fault}
use Rattle.session.specs.Shown.{paper}
use Rattle.session.specs.State.{St, st, Out, out, begun, Good}
use Rattle.session.specs.Steps.{reading, asked, hopped, pumped, read_on}
use Rattle.session.proofs.Buf.{good-pending}
use Rattle.session.proofs.Demand3.{begins, begins-good, begins-empty}
use Rattle.session.proofs.Misfit.{fits-misfit}
use Rattle.session.proofs.Run.{read_step, fault-step}
use Rattle.session.proofs.Turns.{held, cont, Frame, frame_of, Waits, Ends, KeptOut, Kept, kept-eq, waits_short, pumped-ok, read_ok}
use Rattle.listing.specs.Listing.{config}
use Rattle.listing.specs.Steps.{Told, told_by, ended, first_out}
use Rattle.listing.proofs.Steps.{first-none, first_some}

-- a step that is over, on the unread bytes u: the plain reader's answer, and what it leaves unread is held
pub record Settled (c : ℕ) (u : List ℕ) (t : Told) : Type 0 where
  pub good : Good t.st
  pub still : t.st.ses.pending ≡ Idle
  pub live : t.st.ses.ended ≡ false
  pub size : t.st.ses.capacity ≡ c
  pub own : t.st.ses.ids ≡ ids_of letters
  pub same : plain_call (config c) (error 0) accepted (next_entry v1) u
      ≡ record { answer = paper t.st.rx t.st.msg t.answer; unread = held t.st }

-- the plain reader's program of a listing step
abbrev listing : ℕ → Prog
listing c = next published c (entry_ways v1)

program-is : (c : ℕ) → program (config c) accepted (next_entry v1) ≡ listing c
unfolding refusal written
program-is c = refl

-- what the plain reader comes to, with x behind u
abbrev reads : ℕ → List ℕ → List ℕ → Result
reads c u x = plain c (listing c) (u ++ x)

module _ (φ : Frame) (u : List ℕ) (live : φ.ended ≡ false) (lent : φ.lent ≡ 0) (own : φ.ids ≡ ids_of letters) where
  all_come : {r : Result} → reads φ.capacity u [] ≡ r → plain_call (config φ.capacity) (error 0) accepted (next_entry v1) u ≡ reply (error 0) r
  all_come e =
      ap (λ (p : Prog). reply (error 0) (plain φ.capacity p u)) (program-is φ.capacity)
      ∙ ap (λ (y : List ℕ). reply (error 0) (plain φ.capacity (listing φ.capacity) y)) (sym (append-nil u))
      ∙ ap (reply (error 0)) e

  -- a step that has kept to the plain reader is settled: it has an answer ..
  told-settled : (s : St) (a : Answer) → Ends φ (reads φ.capacity u) s a → Settled φ.capacity u (record { st = s; answer = a })
  told-settled s a k =
      record {
        good = k.good;
        still = k.still;
        live = ap (λ (ψ : Frame). ψ.ended) k.frame ∙ live;
        size = ap (λ (ψ : Frame). ψ.capacity) k.frame;
        own = ap (λ (ψ : Frame). ψ.ids) k.frame ∙ own;
        same = all_come (k.same []) ∙ ap (λ (y : List ℕ). record { answer = paper s.rx s.msg a; unread = y }) (append-nil (held s));
      }

  -- .. or asks a read, and meets the end error
  read-settled : (s : St) (i n : ℕ) (p : Phase) → Waits φ (reads φ.capacity u) false s i n p
      → Settled φ.capacity u (told_by (report_fault s 0 (F.Error 0)))
  unfolding paper fault_at
  read-settled s i n p w =
      let e : report_fault s 0 (F.Error 0) ≡ fault_at s.ses.pending s (F.Error 0) =
      fault-step s 0 w.good (ap (λ (ψ : Frame). ψ.ended) w.frame ∙ live) (ap (λ (ψ : Frame). ψ.lent) w.frame ∙ lent) s.ses.pending refl
      (ap is_idle w.pend) (F.Error 0)
      in
      subst (λ (o : Out). Settled φ.capacity u (told_by o)) (sym (e ∙ ap (λ (q : Pending). fault_at q s (F.Error 0)) w.pend))
      (record {
        good = good-pending s w.good Idle;
        still = refl;
        live = ap (λ (ψ : Frame). ψ.ended) w.frame ∙ live;
        size = ap (λ (ψ : Frame). ψ.capacity) w.frame;
        own = ap (λ (ψ : Frame). ψ.ids) w.frame ∙ own;
        same = all_come (waits_short w [] (omega (arith, w)))
            ∙ ap (λ (y : List ℕ). record { answer = broken (error 0); unread = y }) (append-nil (held s));
      })

  settled : (o : Out) → Kept φ false (reads φ.capacity u) o → Settled φ.capacity u (ended o)
  unfolding ended
  settled o = go o.st o.reply
    where
      go : (s : St) (r : Reply) → KeptOut φ false (reads φ.capacity u) s r → Settled φ.capacity u (ended (record { st = s; reply = r }))
      go s (R.Told a) k = told-settled s a k
      go s (R.Read i n) k = read-settled s i n k.0 k.1
      go s (R.WriteRx i n) k = absurd k
      go s (R.WriteLent i n) k = absurd k
      go s (R.WriteBytes b) k = absurd k
      go s R.Close k = absurd k

-- ---- a step of a session that waits for nothing

abbrev header : Phase
header = Header (W.Entry V1)

module _ (t : St) (good : Good t) (still : t.ses.pending ≡ Idle) (live : t.ses.ended ≡ false) (own : t.ses.ids ≡ ids_of letters) where
  abbrev started : St
  started = st (begun t.ses 0) t.rx t.msg

  let_in : entry_call t V1 0 ≡ read_on started header false
  unfolding entry_call call_refusal
  let_in = rw (fits-misfit t.ses (length t.rx) (length t.msg) good, live, still)

  started-good : Good started
  started-good = record { order = good.order; inside = good.inside; rx = good.rx; least = good.least; aside = good.aside; msg = good.msg }

  step_kept : Kept (frame_of started.ses) false (reads t.ses.capacity (held t)) (entry_call t V1 0)
  unfolding cont wants
  step_kept =
      subst (λ (d : Dialect). Kept (frame_of started.ses) false (λ x. plain t.ses.capacity (next d t.ses.capacity (entry_ways v1)) (held t ++ x)) (entry_call t V1 0))
      (ap dialect_of own ∙ dialect-back letters published-legal)
      (rw let_in (pumped-ok started header false started-good tt))

  pub next-settled : Settled t.ses.capacity (held t) (ended (entry_call t V1 0))
  next-settled = settled (frame_of started.ses) (held t) live refl own (entry_call t V1 0) step_kept

-- ---- the first step, of a fresh session: n bytes of input lie at the front of the receive buffer

over-all : (b : List ℕ) (n : ℕ) → over b 0 (take n b ++ drop n b) ≡ b
unfolding over
over-all b n = rw (take-append-drop n b, zero-add, drop_of_length-le b {i = length b} (omega arith), append-nil)

module _ (rx msg : List ℕ) (least : 8 ≤ length rx) (room : length rx ≤ length msg) where
  abbrev opening : Opening
  opening = record { banner = []; table = letters; legal = published-legal; hours = none; kept = tt }

  abbrev s₀ : St
  s₀ = begins opening rx msg least room

  g₀ : Good s₀
  g₀ = begins-good opening rx msg least room

  -- it asks for the whole buffer, and alters no byte
  asks : read_on s₀ header false ≡ out (reading s₀.ses 0 0 header false) rx msg
  unfolding pumped hopped asked wants
  asks =
      let some : 0 < length rx = omega arith in
      rw (le-ltb (length rx) 8 least, lt-ltb 0 (length rx) some)

  abbrev s₁ : St
  s₁ = st (reading s₀.ses 0 0 header false).session rx msg

  waits : (p : Phase) × Waits (frame_of s₀.ses) (reads (length rx) (held s₀)) false s₁ 0 (length rx - 0) p
  waits =
      subst (λ (o : Out). Kept (frame_of s₀.ses) false (reads (length rx) (held s₀)) o) (let_in s₀ g₀ refl refl refl ∙ asks)
      (step_kept s₀ g₀ refl refl refl)

  module _ (n : ℕ) (within : n ≤ length rx) where
    some-kept : 0 < n → Kept (frame_of s₀.ses) false (reads (length rx) (take n rx)) (report_read s₁ 0 n)
    some-kept some =
        let φ : Frame = frame_of s₀.ses in
        let v : List ℕ = take n rx in
        let j : List ℕ = drop n rx in
        let e : length v ≡ n = length-take-le n rx within in
        let k : Kept φ false (λ x. reads (length rx) (held s₀) (v ++ x)) (read_at s₁.ses.pending s₁ n) =
        subst (λ (m : ℕ). Kept φ false (λ x. reads (length rx) (held s₀) (v ++ x)) (read_at s₁.ses.pending s₁ m)) e
        (subst (λ (b : List ℕ). Kept φ false (λ x. reads (length rx) (held s₀) (v ++ x)) (read_at s₁.ses.pending (st s₁.ses b msg) (length v)))
        (over-all rx n) (read_ok waits.1 v j (omega arith) (omega (arith, length-drop n rx))))
        in
        subst (λ (o : Out). Kept φ false (reads (length rx) v) o) (sym (read_step s₁ 0 waits.1.good refl refl s₁.ses.pending refl refl n))
        (kept-eq φ false (reads (length rx) v) (λ x. reads (length rx) (held s₀) (v ++ x)) (read_at s₁.ses.pending s₁ n)
        (λ x. ap (λ (h : List ℕ). plain (length rx) (listing (length rx)) (h ++ (v ++ x))) (sym (begins-empty opening rx msg least room))) k)

    pub first-settled : Settled (length rx) (take n rx) (ended (first_out s₀ n))
    first-settled = go (ℕ_discrete n 0)
      where
        go : Dec (n ≡ 0) → Settled (length rx) (take n rx) (ended (first_out s₀ n))
        go (yes e) =
            rw (first-none s₀ n e, e)
            (subst (λ (h : List ℕ). Settled (length rx) h (ended (entry_call s₀ V1 0))) (begins-empty opening rx msg least room) (next-settled s₀ g₀ refl refl refl))
        go (no e) =
            rw (first_some s₀ n e, let_in s₀ g₀ refl refl refl, asks)
            (settled (frame_of s₀.ses) (take n rx) refl refl refl (report_read s₁ 0 n) (some-kept (omega arith)))
