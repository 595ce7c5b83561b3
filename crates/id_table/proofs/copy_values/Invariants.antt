-- `id_table::copy_values` meets its contract. The invariant of its loop: with those from i on, the settings have all values.
use mathlib.Core.Path.{◌≡◌}
use Prim.Native.Nat.{◌+◌, ◌-◌, ◌*◌}
use lib.ListN.{length, drop}
use Rattle.protocol.specs.Bytes.{over}
use Rattle.protocol.specs.Messages.{joined}
use Rattle.id_table.specs.IdsFile.{count}
use Rattle.id_table.specs.Places.{groups, line_size}
use Rattle.id_table.proofs.copy_values.Given as goal

abbrev pub invariant-loop-i : goal.invariant-loop-i
invariant-loop-i l =
    (length l.settings ≡ length l.initial.settings)
    × (over l.settings (4 * l.i) (joined (groups 5 (count - l.i) (drop (line_size + 5 * l.i) l.file))) ≡ over l.initial.settings 0 (joined (groups 5 count (drop line_size l.file))))
