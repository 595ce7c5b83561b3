-- Answers to goals of `features::list_start`.
use mathlib.Core.Path.{◌≡◌, refl, sym, ◌∙◌}
use Prim.Native.Nat.{◌+◌, ◌-◌}
use native.Mathlib.Omega.{arith}
use borrow.Author.Rules.{rules}
use lib.ListN.{length}
use Rattle.protocol.specs.Features.{marker}
use Rattle.protocol.proofs.Features.{after-here, after_next, after-end}
use Rattle.features.proofs.Pieces.{pieces-within, pieces-past}
use Rattle.features.proofs.list_start.Goals.{else-loop-end-test, then-loop-end-test+else-part_is+else-end-end-end}
use Rattle.features.proofs.list_start.Goals as goal

pub loop-end-init : goal.loop-end-init
loop-end-init c = (search rules, refl)

pub returns-then-part_is : goal.returns-then-part_is
returns-then-part_is c =
    let here = sym c.part_is.ensures ∙ c.if-part_is.true in
    rw (c.loop-end.invariant.1 ∙ after-here marker _ (c.loop-end.end - 9) c.loop-end.end (omega arith) (omega arith) (omega arith) here) (sym (pieces-within _ c.loop-end.end (omega arith)))

pub loop-end-preserved : goal.loop-end-preserved
loop-end-preserved c =
    let other = sym c.part_is.ensures ∙ c.if-part_is.false in
    let e : c.loop-end.end - 9 + 1 ≡ c.loop-end.end + 1 - 9 = omega arith in
    (search rules, c.loop-end.invariant.1 ∙ rw e at (after_next marker _ (c.loop-end.end - 9) c.loop-end.end (omega arith) (omega arith) (omega arith) other))

pub returns : goal.returns
returns c =
    let banner = c.args.banner.now in
    let i = c.loop-end.end - 9 in
    let past = sym (pieces-past banner (length banner + 1) (omega arith)) in
    elim c.loop-end-test.branch [
      | else-loop-end-test w ↦ rw (c.loop-end.invariant.1 ∙ after-end marker banner i (omega arith) (omega arith)) past
      | then-loop-end-test+else-part_is+else-end-end-end w ↦
          let other = sym w.part_is.ensures ∙ w.if-part_is.false in
          let next = after_next marker banner i c.loop-end.end (omega arith) (omega arith) (omega arith) other in
          rw (c.loop-end.invariant.1 ∙ next ∙ after-end marker banner (i + 1) (omega arith) (omega arith)) past
    ]
