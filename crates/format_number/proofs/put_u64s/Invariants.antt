-- `format_number::put_u64s` meets its contract. The loop's invariant: `out` is what it was with the first numbers over what stood from
-- `off` on.
use mathlib.Core.Path.{◌≡◌}
use lib.ListN.{take}
use Rattle.protocol.specs.Bytes.{over}
use Rattle.format_number.specs.Words.{words}
use Rattle.format_number.proofs.put_u64s.Given as goal

abbrev pub invariant-loop-i : goal.invariant-loop-i
invariant-loop-i g l = l.out ≡ over l.initial.out l.off (words (take l.i l.n-items))
