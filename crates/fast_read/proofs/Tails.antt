-- What the tail of a read says: past 0, the read leaves its need short; 0, it does not. Assumes nothing.
use mathlib.Core.Bool.{Bool, true, false, ◌&&◌, and-eq-true_iff, true≢false}
use mathlib.Core.Option.{Option, none, some}
use mathlib.Core.Path.{◌≡◌, refl, sym}
use Prim.Native.Nat.{ℕ, ◌+◌, ◌-◌, ◌≤◌, ◌<◌}
use native.Mathlib.Omega.{arith}
use borrow.Author.Tests.{ltb-true, eqb-true}
use lib.Dec.{eqb, ltb, leb}
use Rattle.protocol.specs.Bytes.{pick}
use Rattle.boundary.specs.Crossing.{stays_at}
use Rattle.session.proofs.Misfit.{misfit-fits}
use Rattle.session.specs.Calls.{misfit}
use Rattle.session.specs.Reports.{report_refusal}
use Rattle.session.specs.State.{Fits}
use Rattle.session.specs.declared.Pending.{Pending}
use Rattle.session.specs.declared.Pending.TheVariants.{Idle, Reading, Writing, Closing}
use Rattle.session.specs.declared.Session.{Session}
use Rattle.fast_read.specs.Short.{leaves_short, short_tail, short_in}

module _ (s : Session) (k : ℕ) where
  -- a read that leaves its need short is one of some bytes, with room behind them
  stays-room : (p : Pending) → stays_at p s k ≡ true → (0 < k) × (s.buf.tail + k < s.capacity)
  stays-room Idle e = absurd (true≢false (sym e))
  stays-room (Reading p until lost) e =
      let t : ℕ = s.buf.tail + k in
      let (a, d) = (and-eq-true_iff (ltb 0 k && leb k (s.capacity - s.buf.tail) && ltb t until) (ltb t s.capacity)).0 e in
      let (b, u) = (and-eq-true_iff (ltb 0 k && leb k (s.capacity - s.buf.tail)) (ltb t until)).0 a in
      let (g, l) = (and-eq-true_iff (ltb 0 k) (leb k (s.capacity - s.buf.tail))).0 b in
      (ltb-true 0 k g, ltb-true t s.capacity d)
  stays-room (Writing q from piece) e = absurd (true≢false (sym e))
  stays-room (Closing failed code) e = absurd (true≢false (sym e))

-- a report that is not refused is one of a session that fits
report-fits : (s : Session) (x m n : ℕ) → report_refusal s x m n ≡ 0 → Fits s x m
unfolding report_refusal
report-fits s x m n e = misfit-fits s x m (go (misfit s x m) _ e)
  where
    go : (b : Bool) (r : ℕ) → ◌≡◌ {A = ℕ} (pick b 3 r) 0 → b ≡ false
    go true r f = absurd (omega (arith, f))
    go false r f = refl

-- a tail past 0
pub record Short (o : Option Session) (x m n k t : ℕ) : Type 0 where
  pub ses : Session
  pub held : o ≡ some ses
  pub short : leaves_short ses x m n k ≡ true
  pub tail : t ≡ ses.buf.tail + k
  pub fits : Fits ses x m
  pub room : t < ses.capacity

module _ (x m n k t : ℕ) where
  pub short-of : (o : Option Session) → t ≡ short_in o x m n k → 0 < t → Short o x m n k t
  short-of none e h = absurd (omega (arith, e))
  short-of (some s) e h = go (leaves_short s x m n k) refl e
    where
      go : (b : Bool) → leaves_short s x m n k ≡ b → t ≡ pick b (s.buf.tail + k) 0 → Short (some s) x m n k t
      go false f g = absurd (omega (arith, g))
      go true f g =
          let (a, y) = (and-eq-true_iff (eqb (report_refusal s x m n) 0) (stays_at s.pending s k)).0 f in
          let (i, r) = stays-room s k s.pending y in
          record { ses = s; held = refl; short = f; tail = g; fits = report-fits s x m n (eqb-true (report_refusal s x m n) 0 a); room = omega arith }

  pub long_of : (s : Session) → t ≡ short_tail s x m n k → t ≤ 0 → leaves_short s x m n k ≡ false
  long_of s e h = go (leaves_short s x m n k) refl e
    where
      go : (b : Bool) → leaves_short s x m n k ≡ b → t ≡ pick b (s.buf.tail + k) 0 → leaves_short s x m n k ≡ false
      go false f g = f
      go true f g =
          let (a, y) = (and-eq-true_iff (eqb (report_refusal s x m n) 0) (stays_at s.pending s k)).0 f in
          let (i, r) = stays-room s k s.pending y in
          absurd (omega arith)
