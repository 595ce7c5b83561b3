-- Answers to goals of `id_table::has_marks`.
use mathlib.Core.Path.{sym, ap, ap₂, ◌∙◌}
use Prim.Native.Nat.{ℕ, ◌+◌, ◌-◌, ◌*◌}
use native.Mathlib.Omega.{arith}
use borrow.Author.Tests.{eq-eqb, ne_eqb}
use lib.Dec.{eqb}
use lib.ListN.{get_or, drop}
use Rattle.text_lines.specs.Lines.{line_end}
use Rattle.id_table.specs.IdsFile.{count}
use Rattle.id_table.specs.Places.{marked}
use Rattle.id_table.proofs.Groups.{marked_next, marked-last}
use Rattle.id_table.proofs.has_marks.Goals as goal

pub returns-then-s-from-ne44 : goal.returns-then-s-from-ne44
returns-then-s-from-ne44 c =
    let a = c.args in
    let i = c.loop-i.i in
    sym (c.loop-i.invariant ∙ rw (marked_next (count - i) a.s.now (a.from + 5 * i) (omega arith), ne_eqb _ _ c.if-s-from-ne44.true))

pub loop-i-preserved : goal.loop-i-preserved
loop-i-preserved c =
    let a = c.args in
    let i = c.loop-i.i in
    c.loop-i.invariant ∙ rw (marked_next (count - i) a.s.now (a.from + 5 * i) (omega arith), eq-eqb _ _ c.if-s-from-ne44.false)
    (ap₂ (λ (n at : ℕ). marked n (drop at a.s.now)) (omega arith) (omega arith))

pub returns : goal.returns
returns c =
    let a = c.args in
    let i = c.loop-i.i in
    sym (c.loop-i.invariant ∙ marked-last (count - i) a.s.now (a.from + 5 * i) (omega arith) ∙ ap (λ (at : ℕ). eqb (get_or a.s.now at 0) line_end) (omega arith))
