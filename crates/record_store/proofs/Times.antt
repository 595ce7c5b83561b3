-- The bits of a time. Assumes nothing.
use mathlib.Core.Path.{◌≡◌, refl, ap, ◌∙◌}
use Prim.Native.Nat.{ℕ, ◌^◌, ◌<◌}
use native.Mathlib.Omega.{arith}
use borrow.Author.Rules.{sfits_of}
use lib.IntN.{ℤ, pos, negsuc}
use lib.Signed.{mag}
use mir.Facts.{to_z-of_z}
use mir.Syntax.{w64}
use mir.Val.{to_z, of_z}
use Rattle.record.specs.Fields.{unsigned}

-- the bits of a signed number
pub bits_unsigned : (z : ℤ) → of_z w64 z ≡ unsigned z
bits_unsigned (pos n) = refl
bits_unsigned (negsuc n) = omega arith

-- a time goes there as its bits, which are the time again: it fits
pub time : {n : ℕ} (z : ℤ) → mag z < 2 ^ 63 → n ≡ of_z w64 (to_z w64 (of_z w64 z)) → n ≡ unsigned z
time z h e = e ∙ ap (of_z w64) (to_z-of_z {w = w64} {z = z} (sfits_of h)) ∙ bits_unsigned z
