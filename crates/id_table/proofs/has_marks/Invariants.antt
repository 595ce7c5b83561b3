-- `id_table::has_marks` meets its contract. The invariant of its loop: the fifteen have their marks if those from i on do.
use mathlib.Core.Path.{◌≡◌}
use Prim.Native.Nat.{◌+◌, ◌-◌, ◌*◌}
use lib.ListN.{drop}
use Rattle.id_table.specs.IdsFile.{count}
use Rattle.id_table.specs.Places.{marked}
use Rattle.id_table.proofs.has_marks.Given as goal

abbrev pub invariant-loop-i : goal.invariant-loop-i
invariant-loop-i l = marked count (drop l.from l.s) ≡ marked (count - l.i) (drop (l.from + 5 * l.i) l.s)
