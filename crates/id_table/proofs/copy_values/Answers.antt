-- Answers to goals of `id_table::copy_values`.
use Prim.Native.Nat.{◌+◌, ◌-◌, ◌*◌}
use mathlib.Core.Path.{◌≡◌, refl, sym, ap, ◌∙◌}
use native.Mathlib.Omega.{arith}
use lib.ListN.{length, drop}
use Rattle.protocol.proofs.Bytes.{over_none, put-length}
use Rattle.id_table.proofs.Groups.{groups_none, copied_next}
use Rattle.id_table.proofs.copy_values.Goals as goal
use Rattle.id_table.specs.IdsFile.{count}
use Rattle.id_table.specs.Places.{line_size}

pub loop-i-init : goal.loop-i-init
loop-i-init c = (refl, refl)

pub loop-i-preserved : goal.loop-i-preserved
loop-i-preserved c =
    let file = c.args.file.now in
    let l = c.loop-i in
    let same = ap length c.put_u32.ensures ∙ put-length l.settings (4 * l.i) _ in
    let left : count - l.i - 1 ≡ count - (l.i + 1) = omega arith in
    let from : line_size + 5 * l.i + 5 ≡ line_size + 5 * (l.i + 1) = omega arith in
    let to : 4 * l.i + 4 ≡ 4 * (l.i + 1) = omega arith in
    let copied = copied_next l.settings c.put_u32.new.out file (4 * l.i) (line_size + 5 * l.i) (count - l.i) c.u32_at-value.result
    (λ k. (c.type_inv.file k).fits)
    (omega arith) (omega arith) (omega arith)
    c.u32_at-value.ensures
    c.put_u32.ensures in
    (same ∙ l.invariant.0, (rw (left, from, to) at copied) ∙ l.invariant.1)

pub shape_of-settings : goal.shape_of-settings
shape_of-settings c = c.loop-i.invariant.0

pub returns : goal.returns
returns c =
    let file = c.args.file.now in
    let l = c.loop-i in
    sym (over_none l.settings (4 * l.i)) ∙ rw (groups_none 5 (count - l.i) (drop (line_size + 5 * l.i) file) (omega arith)) at l.invariant.1
