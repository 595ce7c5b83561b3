-- `time_index_slots::make_room` meets its contract. The invariant of its loop: the bytes from `at` on are moved.
use mathlib.Core.Path.{◌≡◌}
use Prim.Native.Nat.{◌≤◌}
use lib.ListN.{length}
use Rattle.time_index_slots.proofs.Laws.{moved}
use Rattle.time_index_slots.proofs.make_room.Given as goal

abbrev pub invariant-loop-at : goal.invariant-loop-at
invariant-loop-at l = (l.from ≤ l.at) × (length l.slots ≡ length l.initial.slots) × (l.slots ≡ moved l.initial.slots l.at l.to)
