-- A refusal leaves any record unchanged, and both buffers: also a record that no opening left.
-- Assumes nothing.
use Prim.Native.Nat.{ℕ, ◌-◌, ◌*◌, ◌≤◌, ◌<◌}
use mathlib.Core.Bool.{Bool, true, false, true≢false}
use mathlib.Core.List.{List, [], ◌∷◌}
use mathlib.Core.Logic.{◌⊎◌, inl, inr}
use mathlib.Core.Option.{Option, none, some}
use mathlib.Core.Path.{◌≡◌, refl, sym, subst}
use native.Mathlib.Omega.{arith}
use borrow.Author.Tests.{eqb-true}
use lib.Dec.{eqb, ltb}
use lib.ListN.{length}
use Rattle.protocol.specs.Answers as P
use Rattle.protocol.specs.Answers.{Answer, callers}
use Rattle.protocol.specs.Bytes.{Bytes, pick, has}
use Rattle.protocol.proofs.Bodies.{pick-cases}
use Rattle.record.specs.Narrow.{U64, Narrow}
use Rattle.record.specs.Record.{loaded}
use Rattle.session.specs.declared.Answer.TheVariants as A
use Rattle.session.specs.declared.Pending.{Pending}
use Rattle.session.specs.declared.Pending.TheVariants.{Idle, Reading, Writing, Closing}
use Rattle.session.specs.declared.Reply.{Reply}
use Rattle.session.specs.declared.Reply.TheVariants as R
use Rattle.session.specs.declared.Session.{Session}
use Rattle.session.specs.Host.{Show, told, read, write_bytes, close}
use Rattle.session.specs.Reports.{report_wrote, report_fault}
use Rattle.session.specs.State.{St, st, Out}
use Rattle.session.proofs.Turns.{Frame, frame_of}
use Rattle.boundary.specs.Crossing.{Crossed, turned_away, is_refusal, back, on_loaded, crossing, request_numbered, call_numbered, unknown_call, stays, cross_start, back_read, cross_read, cross_wrote, fault_numbered, cross_fault}
use Rattle.boundary.specs.Told.{reply_number, out_size}
use Rattle.boundary.proofs.Reports.{NarrowRefusal, lets, by_number, by_feature}
use Rattle.boundary.proofs.Steps.{Awaits, idle, reads, writes_bytes, closes}
use Rattle.boundary_misuse.specs.Misuse.{HostReport, has_read, wrote, fault, Act, start, report, Event, WideAct, Wide, acted, crossed_by, call_of}
use Rattle.boundary_misuse.specs.Claim.{IsRefused, Unchanged}
use Rattle.boundary_misuse.proofs.Known.{seen_of}
use Rattle.boundary_misuse.proofs.Loaded.{Widths, loaded-narrow}
use Rattle.boundary_misuse.proofs.Table.{Comes, numbered-narrow, behind-narrow, calls, later-narrow, reported, reports}

-- what is put back of an act, once the session is loaded
abbrev pub put_back_of : (rec lent out : List ℕ) → Act → St → Crossed
put_back_of rec lent out (start n a b t) s = back rec out (call_numbered n a b s lent (request_numbered n a b) (unknown_call s))
put_back_of rec lent out (report (has_read k)) s = back_read rec out s (length lent) k
put_back_of rec lent out (report wrote) s = back rec out (report_wrote s lent)
put_back_of rec lent out (report (fault kind code)) s = back rec out (report_fault s (length lent) (fault_numbered kind code))

-- ---- numbers

abbrev AllBelow : ℕ → List ℕ → Type 0
AllBelow m [] = Unit {0}
AllBelow m (y ∷ ys) = ((0 < y) × (y < m)) × AllBelow m ys

-- a number of a list is as small as the list's are
pub listed_below : (m n : ℕ) (ns : List ℕ) → AllBelow m ns → has n ns ≡ true → (0 < n) × (n < m)
listed_below m n [] a e = absurd (true≢false (sym e))
listed_below m n (y ∷ ys) a e = go (listed_below m n ys a.1) (eqb y n) refl e
  where
    go : (has n ys ≡ true → (0 < n) × (n < m)) → (b : Bool) → eqb y n ≡ b → pick b true (has n ys) ≡ true → (0 < n) × (n < m)
    go k true q f = let z = eqb-true y n q in (omega (arith, z, a), omega (arith, z, a))
    go k false q f = k f

-- an answer that is no refusal has the number 0, or one of 12 to 17
pub told-number : (r : Reply) → is_refusal r ≡ false → (n : ℕ) → reply_number r ≡ 256 * n → 0 < n → (12 ≤ n) × (n < 18)
unfolding reply_number
told-number (R.Told A.Done) g n e a = omega arith
told-number (R.Told A.End) g n e a = omega arith
told-number (R.Told (A.StatV1 s)) g n e a = omega arith
told-number (R.Told (A.StatV2 s)) g n e a = omega arith
told-number (R.Told (A.EntryV1 s at len)) g n e a = omega arith
told-number (R.Told (A.EntryV2 s at len)) g n e a = omega arith
told-number (R.Told (A.Chunk at len)) g n e a = omega arith
told-number (R.Told (A.Refused k)) g n e a = absurd (true≢false g)
told-number (R.Told (A.Missing k)) g n e a = absurd (true≢false g)
told-number (R.Told A.Closed) g n e a = omega arith
told-number (R.Told (A.Error c)) g n e a = omega arith
told-number (R.Told (A.Fail len)) g n e a = omega arith
told-number (R.Told (A.Unexpected i j k l)) g n e a = omega arith
told-number (R.Told (A.Errno c)) g n e a = omega arith
told-number (R.Told A.TooLarge) g n e a = omega arith
told-number (R.Read at len) g n e a = omega arith
told-number (R.WriteRx at len) g n e a = omega arith
told-number (R.WriteLent at len) g n e a = omega arith
told-number (R.WriteBytes p) g n e a = omega arith
told-number R.Close g n e a = omega arith

pub not-refused : (r : Reply) → is_refusal r ≡ false → ((n : ℕ) × (has n callers ≡ true) × (reply_number r ≡ 256 * n)) → ⊥
not-refused r g (n, h, e) =
    let b = listed_below 12 n callers (omega arith) h in
    let t = told-number r g n e b.0 in
    absurd (omega (arith, b.1, t.0))

-- ---- any record

-- something that may have been asked where p is pending
abbrev pub asks : ℕ → ℕ → Pending → Show
asks t w Idle = told P.done
asks t w (Reading p until lost) = read t w
asks t w (Writing q from k) = write_bytes []
asks t w (Closing failed code) = close

pub asked_of : (t w : ℕ) (p : Pending) → Awaits t w p (asks t w p)
asked_of t w Idle = idle
asked_of t w (Reading p until lost) = reads
asked_of t w (Writing q from k) = writes_bytes
asked_of t w (Closing failed code) = closes

module _ (rec : List ℕ) (bytes : Bytes rec) (e : Event) (w : Wide e) where
  -- refused with one of 1 to 11, and unchanged; or, if it is told, by 0 or one of 12 to 17
  abbrev pub Kept : Crossed → Type 0
  Kept c =
      ((n : ℕ) × (0 < n) × (n < 12) × (c.number ≡ 256 * n) × Unchanged rec e c) ⊎ ((n : ℕ) → c.number ≡ 256 * n → 0 < n → (12 ≤ n) × (n < 18))

  back-kept : (s : Session) (r : Option Answer) (φ : Frame) (o : Out) → NarrowRefusal r → Comes r φ (st s e.rx e.msg) o → Kept (back rec e.out o)
  unfolding reply_number
  back-kept s r φ o lets g = inr (told-number o.reply g.given)
  back-kept s r φ o (by_number {n = n} h) g = subst (λ (y : Out). Kept (back rec e.out y)) (sym g) (inl (n, h.0, h.1.0, refl, (refl, refl, refl)))
  back-kept s r φ o (by_feature h) g = subst (λ (y : Out). Kept (back rec e.out y)) (sym g) (inl (10, omega arith, omega arith, refl, (refl, refl, refl)))

  away-kept : Kept (turned_away rec e.rx e.msg e.out)
  away-kept = inl (3, omega arith, omega arith, refl, (refl, refl, refl))

  crossing-kept : (k : St → Crossed) → ((s : Session) → Narrow s → Kept (k (st s e.rx e.msg))) → Kept (crossing rec e.rx e.msg e.out k)
  crossing-kept k f =
      pick-cases Kept (ltb (length e.out) out_size) (λ _. away-kept) (λ _. go (loaded rec) (loaded-narrow rec bytes))
    where
      go : (o : Option Session) → Widths o → Kept (on_loaded rec e.rx e.msg e.out k o)
      go none n = away-kept
      go (some s) n = f s n

  few : U64 (length e.lent)
  few = omega (arith, w.lent)

  report-kept : (r : HostReport) → WideAct (report r) → (s : Session) (n : Narrow s) → Kept (back rec e.out (reported s e.lent e.rx e.msg r))
  report-kept r x s n =
      let sh : Show = asks s.buf.tail (s.capacity - s.buf.tail) s.pending in
      back-kept s _ _ _ (later-narrow s e.lent e.rx e.msg sh r)
      (reports s e.lent e.rx e.msg n few w.msg w.rx sh (asked_of _ _ s.pending) r x)

  pub event-kept : (x : Act) → WideAct x → Kept (acted rec e x)
  unfolding cross_start cross_read cross_wrote cross_fault
  event-kept (start n a b t) (p, (q, _)) =
      crossing-kept (put_back_of rec e.lent e.out (start n a b t))
      (λ s m. back-kept s _ _ _ (behind-narrow s e.lent e.rx e.msg _ (numbered-narrow (seen_of (frame_of s) (told P.done)) (call_of n a b e.lent)))
      (calls s e.lent e.rx e.msg m few w.msg w.rx (told P.done) a b p q n))
  event-kept (report (has_read k)) x =
      crossing-kept (put_back_of rec e.lent e.out (report (has_read k)))
      (λ s m. pick-cases Kept (stays (st s e.rx e.msg) (length e.lent) k) (λ _. inr (λ n i a. absurd (omega arith))) (λ _. report-kept (has_read k) x s m))
  event-kept (report wrote) x = crossing-kept (put_back_of rec e.lent e.out (report wrote)) (report-kept wrote x)
  event-kept (report (fault kind code)) x = crossing-kept (put_back_of rec e.lent e.out (report (fault kind code))) (report-kept (fault kind code) x)

  pub event-unchanged : IsRefused (crossed_by rec e) → Unchanged rec e (crossed_by rec e)
  event-unchanged (n, h, i) = go (event-kept e.act w.act)
    where
      go : Kept (crossed_by rec e) → Unchanged rec e (crossed_by rec e)
      go (inl (m, a, b, j, u)) = u
      go (inr f) = let b = listed_below 12 n callers (omega arith) h in absurd (omega (arith, b.1, (f n i b.0).0))
