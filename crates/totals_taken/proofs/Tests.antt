-- A session that 3, 6 and 5 do not refuse a report of has its tail in its buffer. Assumes nothing.
use Prim.Native.Nat.{ℕ, ◌≤◌}
use mathlib.Core.Bool.{Bool, true, false, true≢false}
use mathlib.Core.Path.{◌≡◌, refl, sym}
use lib.Dec.{eqb}
use Rattle.protocol.specs.Bytes.{pick}
use Rattle.session.specs.Calls.{misfit}
use Rattle.session.specs.Reports.{report_refusal}
use Rattle.session.specs.declared.Session.{Session}
use Rattle.session.proofs.Misfit.{misfit-fits}

pub tail-in : (s : Session) (x m n : ℕ) → eqb (report_refusal s x m n) 0 ≡ true → s.buf.tail ≤ s.capacity
unfolding report_refusal
tail-in s x m n e = (misfit-fits s x m (go (misfit s x m) _ e)).inside
  where
    go : (t : Bool) (k : ℕ) → eqb (pick t 3 k) 0 ≡ true → t ≡ false
    go true k f = absurd (true≢false (sym f))
    go false k f = refl
