-- `calendar_date::month_length` meets its contract: the months of 31 days, and what is before January.
use mathlib.Core.Logic.{◌⊎◌, inl, inr}
use mathlib.Core.Path.{◌≡◌}
use Prim.Native.Nat.{ℕ, ◌≤◌, ◌<◌}
use native.Mathlib.Decide.{ℕ_discrete}
use native.Mathlib.Omega.{arith}
use Rattle.calendar.specs.Calendar.{month_length}
use Rattle.calendar_date.proofs.month_length.Goals as goal

apart : (y m : ℕ) → (m ≡ 1) ⊎ ((m ≡ 3) ⊎ ((m ≡ 5) ⊎ ((m ≡ 10) ⊎ (m ≡ 12)))) → 31 ≡ month_length y m
unfolding month_length
apart y m (inl e) = rw e
apart y m (inr (inl e)) = rw e
apart y m (inr (inr (inl e))) = rw e
apart y m (inr (inr (inr (inl e)))) = rw e
apart y m (inr (inr (inr (inr e)))) = rw e

-- July and August
neighbours : (y m : ℕ) → 7 ≤ m → m < 9 → 31 ≡ month_length y m
unfolding month_length
neighbours y m h k = go (ℕ_discrete m 7)
  where
    go : Dec (m ≡ 7) → 31 ≡ month_length y m
    go (yes e) = rw e
    go (no f) = let e : m ≡ 8 = omega arith in rw e

pub returns-in-1 : goal.returns-in-1
returns-in-1 c = apart c.args.year c.args.month c.in-1.is

pub returns-in-1-2 : goal.returns-in-1-2
returns-in-1-2 c = let low : 7 ≤ c.args.month = grind arith in neighbours c.args.year c.args.month low (omega arith)

pub returns-in_default : goal.returns-in_default
unfolding month_length
returns-in_default c = let e : c.args.month ≡ 0 = omega arith in rw e
