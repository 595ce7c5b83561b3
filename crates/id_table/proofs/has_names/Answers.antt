-- Answers to goals of `id_table::has_names`.
use mathlib.Core.Bool.{◌&&◌}
use mathlib.Core.Path.{◌≡◌, refl, sym, ap₂, ◌∙◌}
use Prim.Native.Nat.{◌+◌, ◌-◌, ◌*◌}
use native.Mathlib.Omega.{arith}
use borrow.Author.Tests.{eq-eqb, ne_eqb}
use lib.Dec.{eqb}
use lib.ListN.{drop, take}
use Rattle.protocol.specs.Bytes.{same}
use Rattle.id_table.specs.IdsFile.{count, same_all}
use Rattle.id_table.specs.Places.{groups}
use Rattle.id_table.proofs.Groups.{groups-next, groups_none, same-words}
use Rattle.id_table.proofs.has_names.Goals.{After-u32_at-in-loop-i}
use Rattle.id_table.proofs.has_names.Goals as goal

pub loop-i-init : goal.loop-i-init
loop-i-init c = refl

-- the i-th two, and those behind them
next : (c : After-u32_at-in-loop-i)
    → same_all (groups 5 count c.args.line.now) (groups 4 count c.args.names.now)
    ≡ eqb c.u32_at.result c.u32_at-in-loop-i.result
    && same_all (groups 5 (count - (c.loop-i.i + 1)) (drop (5 * (c.loop-i.i + 1)) c.args.line.now)) (groups 4 (count - (c.loop-i.i + 1)) (drop (4 * (c.loop-i.i + 1)) c.args.names.now))
next c =
    let line = c.args.line.now in
    let names = c.args.names.now in
    let i = c.loop-i.i in
    let left : count - i - 1 ≡ count - (i + 1) = omega arith in
    let five : 5 * i + 5 ≡ 5 * (i + 1) = omega arith in
    let four : 4 * i + 4 ≡ 4 * (i + 1) = omega arith in
    let compared : same (take 4 (drop (5 * i) line)) (take 4 (drop (4 * i) names)) ≡ eqb c.u32_at.result c.u32_at-in-loop-i.result =
    same-words line names (5 * i) (4 * i) (λ k. (c.type_inv.line k).fits) (λ k. (c.type_inv.names k).fits) (omega arith) (omega arith)
    ∙ sym (ap₂ eqb c.u32_at.ensures c.u32_at-in-loop-i.ensures) in
    c.loop-i.invariant ∙ rw (groups-next 5 (count - i) line (5 * i) (omega arith), groups-next 4 (count - i) names (4 * i) (omega arith), compared, left, five, four)

pub returns-then-u32_at : goal.returns-then-u32_at
returns-then-u32_at c = sym (next (goal.at.returns-then-u32_at c).After-u32_at-in-loop-i ∙ rw (ne_eqb _ _ c.if-u32_at.true))

pub loop-i-preserved : goal.loop-i-preserved
loop-i-preserved c = next (goal.at.loop-i-preserved c).After-u32_at-in-loop-i ∙ rw (eq-eqb _ _ c.if-u32_at.false)

pub returns : goal.returns
returns c =
    let i = c.loop-i.i in
    sym
    (c.loop-i.invariant
    ∙ rw (groups_none 5 (count - i) (drop (5 * i) c.args.line.now) (omega arith), groups_none 4 (count - i) (drop (4 * i) c.args.names.now) (omega arith)))
