-- `hours::span_of` meets its contract.
use mathlib.Core.Path.{sym, ◌∙◌}
use native.Mathlib.Omega.{arith}
use lib.Seq.{length-take-le}
use Rattle.text_lines.specs.Lines.{comma}
use Rattle.hours.proofs.Cut.{past, found_at, found_none, one_field, second_none, all_three}
use Rattle.hours.proofs.span_of.Goals as goal

pub returns-in_err-first : goal.returns-in_err-first
returns-in_err-first c = let l = c.args.line.now in rw (c.from_residual.ensures, one_field l (omega (arith, found_none comma l c.find.ensures c.in_err-first.was)))

pub returns-in_err-second : goal.returns-in_err-second
returns-in_err-second c = let l = c.args.line.now in let i = found_at comma l c.find.ensures _ c.in_ok-first.was in let j = found_none comma _ c.find-2.ensures c.in_err-second.was in rw (c.from_residual-in_err-second.ensures, second_none l _ _ i.0 i.1 j (omega arith))

pub slice_bounds-parse_u32-end : goal.slice_bounds-parse_u32-end
slice_bounds-parse_u32-end c = let i = found_at comma c.args.line.now c.find.ensures _ c.in_ok-first.was in sym (length-take-le _ _ (omega (arith, i.1)))

pub slice_bounds-parse_u32-end-2 : goal.slice_bounds-parse_u32-end-2
slice_bounds-parse_u32-end-2 c = let j = found_at comma (past c.args.line.now c.in_ok-first.first) c.find-2.ensures _ c.in_ok-second.was in sym (length-take-le _ _ (omega (arith, j.1)))

pub returns : goal.returns
returns c =
    let line = c.args.line.now in
    let i = found_at comma line c.find.ensures _ c.in_ok-first.was in
    let j = found_at comma _ c.find-2.ensures _ c.in_ok-second.was in
    let all = all_three line _ _ i.0 i.1 j.0 j.1 in
    c.day_of.ensures ∙ rw (c.parse_u32-day.ensures, c.parse_u32-opens.ensures, c.parse_u32-closes.ensures) (sym all)
