-- Every crossing, of any record of bytes: it is turned away, refused, or goes on from a session whose parts lie inside.
-- Assumes nothing.
use Prim.Native.Nat.{ℕ, ◌+◌, ◌-◌, ◌≤◌, ◌<◌, ◌^◌}
use mathlib.Core.Bool.{Bool, true, false, true≢false, ◌&&◌, ◌||◌, not}
use mathlib.Core.List.{List}
use mathlib.Core.Option.{Option, none, some}
use mathlib.Core.Path.{◌≡◌, refl, sym, ap, subst, ◌∙◌}
use native.Mathlib.Omega.{arith}
use borrow.Author.Tests.{ltb-false, eqb-true}
use lib.Dec.{eqb, ltb}
use lib.ListN.{length}
use Rattle.protocol.specs.Answers as P
use Rattle.protocol.specs.Answers.{Answer, refused}
use Rattle.protocol.specs.Bytes.{Bytes, bytes_of, put}
use Rattle.protocol.specs.Refusal.{or_else, refuse}
use Rattle.protocol.proofs.Bodies.{pick-cases}
use Rattle.record.specs.Narrow.{Narrow}
use Rattle.record.specs.Record.{loaded}
use Rattle.session.specs.declared.Answer.TheVariants as A
use Rattle.session.specs.declared.Reply.TheVariants as R
use Rattle.session.specs.declared.Session.{Session}
use Rattle.session.specs.Calls.{misfit, is_idle}
use Rattle.session.specs.Host.{Show, told}
use Rattle.session.specs.Reports.{report_read}
use Rattle.session.specs.State.{St, st, Out}
use Rattle.session.proofs.Turns.{Frame, frame_of}
use Rattle.boundary.specs.Crossing.{Crossed, crossed, back, on_loaded, crossing, stays, cross_start, cross_read, cross_wrote, cross_fault}
use Rattle.boundary.specs.Told.{reply_number, reply_bytes, out_size}
use Rattle.boundary.proofs.Carried.{stays-read}
use Rattle.boundary.proofs.Reports.{NarrowRefusal, lets, by_number, by_feature}
use Rattle.boundary.proofs.Steps.{narrow-of}
use Rattle.boundary_misuse.specs.Functions.{session_functions}
use Rattle.boundary_misuse.specs.Misuse.{HostReport, has_read, wrote, fault, start, report, WideAct, call_of}
use Rattle.boundary_misuse.proofs.Known.{seen_of}
use Rattle.boundary_misuse.proofs.Loaded.{Widths, loaded-narrow}
use Rattle.boundary_misuse.proofs.Table.{Comes, numbered-narrow, behind-narrow, calls, misplaced, none-awaited, later, later-narrow, after, reported, reports}
use Rattle.boundary_misuse.proofs.Unchanged.{put_back_of, asks, asked_of}
use Rattle.boundary_parts.specs.Bounds.{named, told_part, InBounds, PartsInside}
use Rattle.boundary_parts.proofs.Replies.{reply-in}

abbrev given : Option Answer → Bool
given none = false
given (some a) = true

given-none : {A : Type 0} (a : Answer) → some a ≡ none → A
given-none a e = absurd (true≢false (ap given e))

-- a report that is let in has as many bytes lent as the call had
let_in-lent : (m i e l : Bool) (r : Option Answer) → (i ≡ true → r ≡ some (refused 5))
    → or_else (refuse (m || (not i && not l)) (refused 3)) (or_else (refuse e (refused 6)) r) ≡ none → l ≡ true
let_in-lent m i e true r k q = refl
let_in-lent true i e false r k q = given-none _ q
let_in-lent false false e false r k q = given-none _ q
let_in-lent false true true false r k q = given-none _ q
let_in-lent false true false false r k q = given-none _ (sym (k refl) ∙ q)

module _ (rec rx msg lent out : List ℕ) (bytes : Bytes rec) (held : Bytes rx) (wide : length msg < 2 ^ 63) (few : length lent < 2 ^ 63) where
  abbrev Fine : Crossed → Type 0
  Fine c = InBounds lent c

  module _ (room : out_size ≤ length out) where
    back_in : (s : Session) (r : Option Answer) (φ : Frame) (o : Out) → NarrowRefusal r → Comes r φ (st s rx msg) o → (r ≡ none → φ.lent ≡ length lent)
        → Fine (back rec out o)
    back_in s r φ o lets g e =
        let n = narrow-of o.st g.inv in
        let f = g.inv.good in
        let z : o.st.ses.lent ≡ length lent = ap (λ (ψ : Frame). ψ.lent) g.frame ∙ e refl in
        reply-in o.st.rx o.st.msg lent out room o.st.ses.capacity o.st.ses.lent n.capacity n.lent
        (omega (arith, f.rx)) (omega (arith, f.aside, f.msg)) (omega (arith, z)) o.reply g.reply
    back_in s r φ o (by_number {n = n} h) g e =
        subst (λ (y : Out). Fine (back rec out y)) (sym g)
        (reply-in rx msg lent out room 0 0 (omega arith) (omega arith) (omega arith) (omega arith) (omega arith) (R.Told (A.Refused n)) h.1)
    back_in s r φ o (by_feature {n = n} h) g e =
        subst (λ (y : Out). Fine (back rec out y)) (sym g)
        (reply-in rx msg lent out room 0 0 (omega arith) (omega arith) (omega arith) (omega arith) (omega arith) (R.Told (A.Missing n)) h)

    report-in : (r : HostReport) → WideAct (report r) → (s : Session) → Narrow s → Fine (back rec out (reported s lent rx msg r))
    report-in r x s n =
        let sh : Show = asks s.buf.tail (s.capacity - s.buf.tail) s.pending in
        let a = asked_of s.buf.tail (s.capacity - s.buf.tail) s.pending in
        back_in s (later s lent rx msg (misplaced sh r)) (after s sh) _ (later-narrow s lent rx msg sh r)
        (reports s lent rx msg n (omega arith) wide held sh a r x)
        (λ e. sym (eqb-true (length lent) s.lent
        (let_in-lent (misfit s (length rx) (length msg)) (is_idle s.pending) s.ended (eqb (length lent) s.lent) (misplaced sh r) (none-awaited a r) e)))

    -- a read that leaves its need short: only tail is stored, and the reply is the session's
    read-in : (k : ℕ) (s : Session) → Narrow s → stays (st s rx msg) (length lent) k ≡ true → (new : List ℕ)
        → Fine (crossed new rx msg (put out 0 (reply_bytes (report_read (st s rx msg) (length lent) k).reply)) 1)
    unfolding reply_number
    read-in k s n e new =
        let q = stays-read (st s rx msg) (length lent) k e in
        subst (λ (o : Out). Fine (crossed new rx msg (put out 0 (reply_bytes o.reply)) 1)) (sym q)
        (subst (λ (o : Out). Fine (back rec out o)) q (report-in (has_read k) tt s n))

  crossing-in : (k : St → Crossed) → (out_size ≤ length out → (s : Session) → Narrow s → Fine (k (st s rx msg))) → Fine (crossing rec rx msg out k)
  unfolding named told_part
  crossing-in k f =
      pick-cases Fine (ltb (length out) out_size) (λ _. tt) (λ e. go (ltb-false (length out) out_size e) (loaded rec) (loaded-narrow rec bytes))
    where
      go : out_size ≤ length out → (o : Option Session) → Widths o → Fine (on_loaded rec rx msg out k o)
      go z none n = tt
      go z (some s) n = f z s n

pub parts-inside : PartsInside session_functions
unfolding cross_start cross_read cross_wrote cross_fault
parts-inside =
    record {
      start = λ rec rx msg lent n a b t out x y z w p q _. crossing-in rec rx msg lent out x y z w (put_back_of rec lent out (start n a b t)) (λ o s m.
          back_in rec rx msg lent out x y z w o s _ _ _ (behind-narrow s lent rx msg _ (numbered-narrow (seen_of (frame_of s) (told P.done)) (call_of n a b lent)))
          (calls s lent rx msg m (omega arith) z y (told P.done) a b p q n) (λ e. refl));
      read = λ rec rx msg lent k out x y z w. crossing-in rec rx msg lent out x y z w (put_back_of rec lent out (report (has_read k))) (λ o s m.
          pick-cases (InBounds lent) (stays (st s rx msg) (length lent) k) (λ e. read-in rec rx msg lent out x y z w o k s m e (put rec 24 (bytes_of 8 (s.buf.tail + k))))
          (λ e. report-in rec rx msg lent out x y z w o (has_read k) tt s m));
      wrote = λ rec rx msg lent out x y z w. crossing-in rec rx msg lent out x y z w (put_back_of rec lent out (report wrote)) (λ o s m. report-in rec rx msg lent out x y z w o wrote tt s m);
      fault = λ rec rx msg lent kind code out x y z w h. crossing-in rec rx msg lent out x y z w (put_back_of rec lent out (report (fault kind code))) (λ o s m.
          report-in rec rx msg lent out x y z w o (fault kind code) h s m);
    }
