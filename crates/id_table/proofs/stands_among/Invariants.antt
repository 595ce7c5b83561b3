-- `id_table::stands_among` meets its contract. The invariant of its loop: the value is one of all if it is one of those left.
use mathlib.Core.List.{map}
use mathlib.Core.Path.{◌≡◌}
use lib.ListN.{drop, take}
use Rattle.protocol.specs.Features.{some_is}
use Rattle.id_table.proofs.stands_among.Given as goal

abbrev pub invariant-loop-other : goal.invariant-loop-other
invariant-loop-other g l = some_is (take 4 l.id) (map (take 4) l.others) ≡ some_is (take 4 l.id) (map (take 4) (drop l.other-index l.others))
