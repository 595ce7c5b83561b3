-- `id_table::two_equal` meets its contract. The invariant of its loop: two are equal if two of those left are.
use mathlib.Core.List.{map}
use mathlib.Core.Path.{◌≡◌}
use lib.ListN.{drop, take}
use Rattle.id_table.specs.IdsFile.{two_equal}
use Rattle.id_table.proofs.two_equal.Given as goal

abbrev pub invariant-loop-i : goal.invariant-loop-i
invariant-loop-i g l = two_equal (map (take 4) l.ids) ≡ two_equal (map (take 4) (drop l.i l.ids))
