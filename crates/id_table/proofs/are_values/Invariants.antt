-- `id_table::are_values` meets its contract. The invariant of its loop: all are values if those left are.
use mathlib.Core.List.{map}
use mathlib.Core.Path.{◌≡◌}
use lib.ListN.{drop, take}
use Rattle.id_table.specs.IdsFile.{are_values}
use Rattle.id_table.proofs.are_values.Given as goal

abbrev pub invariant-loop-id : goal.invariant-loop-id
invariant-loop-id g l = are_values (map (take 4) l.ids) ≡ are_values (map (take 4) (drop l.id-index l.ids))
