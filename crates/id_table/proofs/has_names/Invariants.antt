-- `id_table::has_names` meets its contract. The invariant of its loop: all are the names if those from i on are.
use mathlib.Core.Path.{◌≡◌}
use Prim.Native.Nat.{◌-◌, ◌*◌}
use lib.ListN.{drop}
use Rattle.id_table.specs.IdsFile.{count, same_all}
use Rattle.id_table.specs.Places.{groups}
use Rattle.id_table.proofs.has_names.Given as goal

abbrev pub invariant-loop-i : goal.invariant-loop-i
invariant-loop-i l =
    same_all (groups 5 count l.line) (groups 4 count l.names)
    ≡ same_all (groups 5 (count - l.i) (drop (5 * l.i) l.line)) (groups 4 (count - l.i) (drop (4 * l.i) l.names))
