-- `format_number::put_bytes` meets its contract. The loop's invariant: `out` is what it was with the first i bytes of `src` over what
-- stood from `off` on.
use mathlib.Core.Path.{◌≡◌}
use lib.ListN.{length}
use lib.Seq.{paste}
use Rattle.format_number.proofs.put_bytes.Given as goal

abbrev pub invariant-loop-i : goal.invariant-loop-i
invariant-loop-i l = (l.out ≡ paste l.initial.out l.off l.src l.i) × (length l.out ≡ length l.initial.out)
