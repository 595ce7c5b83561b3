-- `listing_lines::put_hex` meets its contract. The loop's invariant: the digits of the first bytes are laid.
--
use mathlib.Core.Path.{◌≡◌}
use Prim.Native.Nat.{◌+◌, ◌*◌}
use lib.ListN.{length, take}
use Rattle.listing_lines.specs.Lines.{hexadecimal, Laid}
use Rattle.listing_lines.proofs.put_hex.Given as goal

abbrev pub invariant-loop-b : goal.invariant-loop-b
invariant-loop-b l =
    (l.end ≡ l.at + 2 * l.b-index) × (length l.out ≡ length l.initial.out) × Laid l.initial.out l.at (hexadecimal (take l.b-index l.bytes)) l.out l.end
