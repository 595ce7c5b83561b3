-- A report is taken where the crossing of the session in the record tells none of the numbers 1 to 11. Assumes nothing.
use Prim.Native.Nat.{ℕ, ◌+◌, ◌-◌, ◌*◌, ◌≤◌, ◌<◌, ◌^◌}
use mathlib.Core.Bool.{Bool, true, false, true≢false, ◌&&◌, ◌||◌, not, and-eq-true_iff}
use mathlib.Core.List.{List}
use mathlib.Core.Option.{Option, none, some}
use mathlib.Core.Path.{◌≡◌, refl, sym, ◌∙◌}
use native.Mathlib.Omega.{arith}
use borrow.Author.Tests.{lt-ltb, le-ltb, le-leb, lt-leb, ltb-true, ltb-false, eqb-true, eqb-false}
use lib.Dec.{eqb, ltb, leb}
use lib.ListN.{length}
use Rattle.protocol.specs.Answers.{refused}
use Rattle.protocol.specs.Bytes.{Bytes, pick}
use Rattle.protocol.specs.Refusal.{or_else, refuse}
use Rattle.protocol.proofs.Bodies.{pick-cases}
use Rattle.record.specs.Narrow.{Narrow}
use Rattle.record.specs.Record.{loaded}
use Rattle.session.specs.Calls.{misfit, is_idle}
use Rattle.session.specs.Host.{Show}
use Rattle.session.specs.Reports.{report_refusal}
use Rattle.session.specs.State.{St, st, Out, out, refusing}
use Rattle.session.specs.declared.Answer.TheVariants as A
use Rattle.session.specs.declared.Pending.{Pending}
use Rattle.session.specs.declared.Pending.TheVariants.{Idle, Reading, Writing, Closing}
use Rattle.session.specs.declared.Session.{Session}
use Rattle.session.proofs.Turns.{Frame}
use Rattle.boundary.specs.Crossing.{Crossed, on_loaded, crossing, stays_at, stays, cross_read, cross_wrote}
use Rattle.boundary.specs.Told.{reply_number, out_size}
use Rattle.boundary_misuse.specs.Misuse.{HostReport, has_read, wrote, fault, report, WideAct, awaited, outside}
use Rattle.boundary_misuse.proofs.Loaded.{Widths, loaded-narrow}
use Rattle.boundary_misuse.proofs.Table.{Comes, after, reported, reports}
use Rattle.boundary_misuse.proofs.Unchanged.{put_back_of, asks, asked_of}
use Rattle.totals.specs.Crossing.{refuses}
use Rattle.totals.proofs.Sizes.{unrefused}
use Rattle.totals_taken.specs.Taken.{awaits_read, awaits_write, takes_read, takes_wrote}

-- ---- what is told

module _ (s : St) (φ : Frame) (o : Out) where
  abbrev pub Tells : Bool → Type 0
  Tells b = b ≡ not (refuses (reply_number o.reply))

  pub refused-by : (n : ℕ) → refuses (256 * n) ≡ true → o ≡ out (refusing s.ses (A.Refused n)) s.rx s.msg → Tells false
  unfolding reply_number
  refused-by n h e = rw (e, h)

  -- 3, 6, 5 and 11, or none of them
  by-table : (m e w z : Bool)
      → Comes (or_else (refuse m (refused 3)) (or_else (refuse e (refused 6)) (or_else (refuse (not w) (refused 5)) (refuse z (refused 11))))) φ s o
      → Tells (not m && (not e && (w && not z)))
  by-table true e w z c = refused-by 3 refl c
  by-table false true w z c = refused-by 6 refl c
  by-table false false false z c = refused-by 5 refl c
  by-table false false true true c = refused-by 11 refl c
  by-table false false true false c = rw (unrefused o.reply c.given)

-- ---- what is taken

-- a count from 1 to w
count-in : (k w : ℕ) → (ltb 0 k && leb k w) ≡ not (eqb k 0 || ltb w k)
count-in k w = go (eqb k 0) (ltb w k) refl refl
  where
    go : (a b : Bool) → eqb k 0 ≡ a → ltb w k ≡ b → (ltb 0 k && leb k w) ≡ not (a || b)
    go true b p q = rw (le-ltb 0 k (omega (arith, eqb-true k 0 p)))
    go false true p q = let h : w < k = ltb-true w k q in rw (lt-ltb 0 k (omega arith), lt-leb k w h)
    go false false p q = let z : k ≡ 0 → ⊥ = eqb-false k 0 p in rw (lt-ltb 0 k (omega (arith, z)), le-leb k w (ltb-false w k q))

-- by 3, 6 and 5 as one number, or by the table's 3 and 6; where nothing is pending no report fits
refusal-none : (m i e l b : Bool) → (i ≡ true → b ≡ false)
    → (eqb (pick m 3 (pick i (pick e 6 5) (pick l (pick e 6 0) 3))) 0 && b) ≡ (not (m || (not i && not l)) && (not e && b))
refusal-none true i e l b h = refl
refusal-none false true true l b h = refl
refusal-none false true false l b h = sym (h refl)
refusal-none false false e false b h = refl
refusal-none false false true true b h = refl
refusal-none false false false true b h = refl

module _ (t w : ℕ) where
  -- whether a report is taken that 3 and 6 do not refuse
  abbrev fits : Pending → HostReport → Bool
  fits p r = awaited (asks t w p) r && not (outside (asks t w p) r)

  idle-none : (p : Pending) (r : HostReport) → is_idle p ≡ true → fits p r ≡ false
  idle-none Idle (has_read k) e = refl
  idle-none Idle wrote e = refl
  idle-none Idle (fault kind code) e = refl
  idle-none (Reading p until lost) r e = absurd (true≢false (sym e))
  idle-none (Writing q from k) r e = absurd (true≢false (sym e))
  idle-none (Closing failed code) r e = absurd (true≢false (sym e))

  read_fits : (p : Pending) (k : ℕ) → awaits_read p w k ≡ fits p (has_read k)
  read_fits Idle k = refl
  read_fits (Reading p until lost) k = count-in k w
  read_fits (Writing q from i) k = refl
  read_fits (Closing failed code) k = refl

  wrote-fits : (p : Pending) → awaits_write p ≡ fits p wrote
  wrote-fits Idle = refl
  wrote-fits (Reading p until lost) = refl
  wrote-fits (Writing q from i) = refl
  wrote-fits (Closing failed code) = refl

-- a read that leaves its need short is one in its window
stays-in : (s : Session) (p : Pending) (k : ℕ) → stays_at p s k ≡ true → awaits_read p (s.capacity - s.buf.tail) k ≡ true
stays-in s Idle k e = absurd (true≢false (sym e))
stays-in s (Reading p until lost) k e =
    let w = s.capacity - s.buf.tail in
    let a = ltb 0 k && leb k w in
    let b = a && ltb (s.buf.tail + k) until in
    let e₁ : b ≡ true = ((and-eq-true_iff b (ltb (s.buf.tail + k) s.capacity)).0 e).0 in
    ((and-eq-true_iff a (ltb (s.buf.tail + k) until)).0 e₁).0
stays-in s (Writing q from piece) k e = absurd (true≢false (sym e))
stays-in s (Closing failed code) k e = absurd (true≢false (sym e))

-- ---- a report, on any record of bytes

module _ (rec rx msg lent out : List ℕ) where
  -- a session that was found there
  of_session : Bytes rx → length msg < 2 ^ 63 → length lent < 2 ^ 63 → (r : HostReport) → WideAct (report r) → (s : Session) → Narrow s
      → (eqb (report_refusal s (length rx) (length msg) (length lent)) 0 && fits s.buf.tail (s.capacity - s.buf.tail) s.pending r)
      ≡ not (refuses (reply_number (reported s lent rx msg r).reply))
  unfolding report_refusal
  of_session b f l r x s n =
      let t = s.buf.tail in
      let w = s.capacity - s.buf.tail in
      let sh : Show = asks t w s.pending in
      let away : Bool = misfit s (length rx) (length msg) || (not (is_idle s.pending) && not (eqb (length lent) s.lent)) in
      refusal-none (misfit s (length rx) (length msg)) (is_idle s.pending) s.ended (eqb (length lent) s.lent) (fits t w s.pending r)
      (idle-none t w s.pending r)
      ∙ by-table (st s rx msg) (after s sh) (reported s lent rx msg r) away s.ended (awaited sh r) (outside sh r)
      (reports s lent rx msg n (omega (arith, l)) f b sh (asked_of _ _ s.pending) r x)

  -- .. or none
  pub on-record : Bytes rec → out_size ≤ length out → (f : Option Session → Bool) (k : St → Crossed) → f none ≡ false
      → ((s : Session) → Narrow s → f (some s) ≡ not (refuses (k (st s rx msg)).number)) → f (loaded rec) ≡ not (refuses (crossing rec rx msg out k).number)
  on-record b o f k z g = rw (le-ltb (length out) out_size o) (go (loaded rec) (loaded-narrow rec b))
    where
      go : (o : Option Session) → Widths o → f o ≡ not (refuses (on_loaded rec rx msg out k o).number)
      go none n = z
      go (some s) n = g s n

  pub taken-read : (k : ℕ) → Bytes rec → Bytes rx → length msg < 2 ^ 63 → length lent < 2 ^ 63 → out_size ≤ length out
      → takes_read (loaded rec) (length rx) (length msg) (length lent) k ≡ not (refuses (cross_read rec rx msg lent k out).number)
  unfolding takes_read cross_read
  taken-read k b x f l o =
      on-record b o (λ (y : Option Session). takes_read y (length rx) (length msg) (length lent) k) (put_back_of rec lent out (report (has_read k))) refl
      (λ s n. pick-cases (λ (c : Crossed). takes_read (some s) (length rx) (length msg) (length lent) k ≡ not (refuses c.number))
      (stays (st s rx msg) (length lent) k)
      (λ e. let (i, j) = (and-eq-true_iff (eqb (report_refusal s (length rx) (length msg) (length lent)) 0) (stays_at s.pending s k)).0 e in
      rw (i, stays-in s s.pending k j))
      (λ e. rw (read_fits s.buf.tail (s.capacity - s.buf.tail) s.pending k) (of_session x f l (has_read k) tt s n)))

  pub taken-wrote : Bytes rec → Bytes rx → length msg < 2 ^ 63 → length lent < 2 ^ 63 → out_size ≤ length out
      → takes_wrote (loaded rec) (length rx) (length msg) (length lent) ≡ not (refuses (cross_wrote rec rx msg lent out).number)
  unfolding takes_wrote cross_wrote
  taken-wrote b x f l o =
      on-record b o (λ (y : Option Session). takes_wrote y (length rx) (length msg) (length lent)) (put_back_of rec lent out (report wrote)) refl
      (λ s n. rw (wrote-fits s.buf.tail (s.capacity - s.buf.tail) s.pending) (of_session x f l wrote tt s n))
