-- Answers to goals of `hours::are_days`.
use mathlib.Core.Path.{◌≡◌, refl, sym, ap, ◌∙◌}
use Prim.Native.Nat.{ℕ, ◌+◌, ◌*◌}
use native.Mathlib.Omega.{arith}
use lib.ListN.{drop}
use Rattle.hours.specs.Settings.{are_days}
use Rattle.hours.specs.Slots.{numbers}
use Rattle.hours.proofs.Days.{days-next, days-end}
use Rattle.hours.proofs.are_days.Goals as goal

pub loop-day-init : goal.loop-day-init
loop-day-init c = refl

pub returns-then-not-is_day : goal.returns-then-not-is_day
returns-then-not-is_day c =
    let next = days-next c.args.bytes.now (4 + 4 * c.loop-day.day) (λ i. (c.type_inv.bytes i).fits) (omega arith) in
    sym (c.loop-day.invariant ∙ next ∙ rw (← c.u32_at-word.ensures, ← c.is_day.ensures, c.if-not-is_day.true))

pub loop-day-preserved : goal.loop-day-preserved
loop-day-preserved c =
    let next = days-next c.args.bytes.now (4 + 4 * c.loop-day.day) (λ i. (c.type_inv.bytes i).fits) (omega arith) in
    let on : 4 + 4 * c.loop-day.day + 4 ≡ 4 + 4 * (c.loop-day.day + 1) = omega arith in
    c.loop-day.invariant ∙ next ∙ rw (← c.u32_at-word.ensures, ← c.is_day.ensures, c.if-not-is_day.false) (ap (λ (i : ℕ). are_days (numbers (drop i c.args.bytes.now))) on)

pub returns : goal.returns
returns c =
    sym (c.loop-day.invariant ∙ days-end c.args.bytes.now (4 + 4 * c.loop-day.day) (omega arith))
