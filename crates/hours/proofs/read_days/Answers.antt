-- Answers to goals of `hours::read_days`.
use mathlib.Core.List.{List}
use mathlib.Core.Path.{refl, sym, ap, ◌∙◌}
use Prim.Native.Nat.{ℕ, ◌+◌, ◌-◌, ◌≤◌}
use native.Mathlib.Omega.{arith}
use lib.ListN.{length, take, drop, drop_of_length-le}
use Rattle.text_lines.specs.Lines.{line_end}
use Rattle.hours.specs.Scan.{span_of, scanned}
use Rattle.hours.proofs.Cut.{found_at, found_none}
use Rattle.hours.proofs.Scan.{scanned-end, scan_open, scan_bad, scan_under, scan_on, span_small, left-shorter, with_length_lem}
use Rattle.hours.proofs.read_days.Goals as goal

pub loop-rest-init : goal.loop-rest-init
loop-rest-init c = (refl, omega arith, refl)

pub returns-in_err-end : goal.returns-in_err-end
returns-in_err-end c =
    let l = c.loop-rest in
    let n = found_none line_end l.rest.now c.find.ensures c.in_err-end.was in
    rw c.from_residual.ensures (sym (l.invariant.2 ∙ scan_open l.next l.days l.rest.now (grind arith) n))

pub returns-in_err-span : goal.returns-in_err-span
returns-in_err-span c =
    let l = c.loop-rest in
    let i = found_at line_end l.rest.now c.find.ensures _ c.in_ok-end.was in
    let bad = sym c.span_of.ensures ∙ ap span_of c.in_err-span.was in
    rw c.from_residual-in_err-span.ensures (sym (l.invariant.2 ∙ scan_bad l.next l.days l.rest.now _ i.0 i.1 bad))

pub returns-then-span-next : goal.returns-then-span-next
returns-then-span-next c =
    let l = c.loop-rest in
    let i = found_at line_end l.rest.now c.find.ensures _ c.in_ok-end.was in
    let good = sym c.span_of.ensures ∙ ap span_of c.in_ok-span.was in
    sym (l.invariant.2 ∙ scan_under l.next l.days l.rest.now _ i.0 i.1 _ good c.if-span-next.true)

pub put_day-requires : goal.put_day-requires
put_day-requires c =
    let small = span_small _ _ (sym c.span_of.ensures ∙ ap span_of c.in_ok-span.was) in
    (c.loop-rest.invariant.0, small.0, small.1, small.2)

pub overflow_add-next : goal.overflow_add-next
overflow_add-next c =
    let small = span_small _ _ (sym c.span_of.ensures ∙ ap span_of c.in_ok-span.was) in
    omega (arith, small.0)

pub overflow_add-rest : goal.overflow_add-rest
overflow_add-rest c =
    let i = found_at line_end c.loop-rest.rest.now c.find.ensures _ c.in_ok-end.was in
    omega (arith, i.1, c.loop-rest.invariant.1)

pub loop-rest-preserved : goal.loop-rest-preserved
loop-rest-preserved c =
    let l = c.loop-rest in
    let i = found_at line_end l.rest.now c.find.ensures _ c.in_ok-end.was in
    let good = sym c.span_of.ensures ∙ ap span_of c.in_ok-span.was in
    let small = span_small _ _ good in
    let on = scan_on l.next l.days l.rest.now _ i.0 i.1 _ good c.if-span-next.false in (
      ap length c.put_day.ensures ∙ with_length_lem l.days _ l.invariant.0 small.0 ∙ l.invariant.0,
      omega (arith, l.invariant.1, left-shorter l.rest.now (c.in_ok-end.end + 1) (omega (arith, i.1))),
      l.invariant.2 ∙ on
          ∙ ap (λ (b : List ℕ). scanned (c.in_ok-span.span.day + 1) b (take (length l.rest.now - (c.in_ok-end.end + 1)) (drop (c.in_ok-end.end + 1) l.rest.now))) (sym c.put_day.ensures),
    )

pub returns : goal.returns
returns c =
    let l = c.loop-rest in
    let short : length l.rest.now ≤ 0 = grind arith in
    sym (l.invariant.2 ∙ ap (scanned l.next l.days) (drop_of_length-le l.rest.now {i = 0} short) ∙ scanned-end l.next l.days)
