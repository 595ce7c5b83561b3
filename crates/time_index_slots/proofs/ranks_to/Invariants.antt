-- `time_index_slots::ranks_to` meets its contract. The invariant of its loop: the ranks among all are those among the ones that are left.
use mathlib.Core.Path.{◌≡◌}
use Rattle.time_index.specs.Slots.{ranks}
use Rattle.time_index_slots.specs.Keys.{key_to}
use Rattle.time_index_slots.proofs.ranks_to.Given as goal

abbrev pub invariant-loop-i : goal.invariant-loop-i
invariant-loop-i l = ranks (key_to l.most) l.slots l.n ≡ ranks (key_to l.most) l.slots l.i
