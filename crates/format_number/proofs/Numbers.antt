-- std's numbers of four and of eight bytes are the protocol's. Assumes nothing.
use mathlib.Core.List.{List, [], ◌∷◌}
use mathlib.Core.Path.{◌≡◌, sym, ap, ◌∙◌}
use Prim.Native.Nat.{ℕ, suc, ◌-◌, ◌<◌, ◌≤◌}
use native.Mathlib.Decide.{dec_lt}
use native.Mathlib.Nat.{div-div-eq-div-mul}
use native.Mathlib.Omega.{arith}
use lib.ListN.{length, take, drop, length-drop}
use lib.Seq.{length-take-le}
use mir.Facts.{to_z_pos, to_z-neg}
use mir.Syntax.{w32, w64}
use mir.Val.{to_z}
use Rattle.std.specs.Int.{from_le_bytes, to_le_bytes}
use Rattle.protocol.specs.Bytes.{le, bytes_of, signed, number_at, whole}
use Rattle.protocol.proofs.Bytes.{end_whole, whole_in}
use Rattle.protocol.proofs.Records.{signed_low, signed_high}

pub from_le_bytes-le_4 : (s : List ℕ) → length s ≡ 4 → from_le_bytes w32 s ≡ le s
from_le_bytes-le_4 (a ∷ b ∷ c ∷ d ∷ []) h = omega arith
from_le_bytes-le_4 (a ∷ b ∷ c ∷ d ∷ e ∷ s) h = absurd (omega arith)
from_le_bytes-le_4 (a ∷ b ∷ c ∷ []) h = absurd (omega arith)
from_le_bytes-le_4 (a ∷ b ∷ []) h = absurd (omega arith)
from_le_bytes-le_4 (a ∷ []) h = absurd (omega arith)
from_le_bytes-le_4 [] h = absurd (omega arith)

pub from_le_bytes-le_8 : (s : List ℕ) → length s ≡ 8 → from_le_bytes w64 s ≡ le s
from_le_bytes-le_8 (a ∷ b ∷ c ∷ d ∷ e ∷ f ∷ g ∷ h ∷ []) n = omega arith
from_le_bytes-le_8 (a ∷ b ∷ c ∷ d ∷ e ∷ f ∷ g ∷ h ∷ i ∷ s) n = absurd (omega arith)
from_le_bytes-le_8 (a ∷ b ∷ c ∷ d ∷ e ∷ f ∷ g ∷ []) n = absurd (omega arith)
from_le_bytes-le_8 (a ∷ b ∷ c ∷ d ∷ e ∷ f ∷ []) n = absurd (omega arith)
from_le_bytes-le_8 (a ∷ b ∷ c ∷ d ∷ e ∷ []) n = absurd (omega arith)
from_le_bytes-le_8 (a ∷ b ∷ c ∷ d ∷ []) n = absurd (omega arith)
from_le_bytes-le_8 (a ∷ b ∷ c ∷ []) n = absurd (omega arith)
from_le_bytes-le_8 (a ∷ b ∷ []) n = absurd (omega arith)
from_le_bytes-le_8 (a ∷ []) n = absurd (omega arith)
from_le_bytes-le_8 [] n = absurd (omega arith)

pub to_le_bytes-of_4 : (x : ℕ) → to_le_bytes w32 x ≡ bytes_of 4 x
to_le_bytes-of_4 x = simp div-div-eq-div-mul

pub to_le_bytes-of_8 : (x : ℕ) → to_le_bytes w64 x ≡ bytes_of 8 x
to_le_bytes-of_8 x = simp div-div-eq-div-mul

-- the bytes m at the front of what lies behind off, where there are so many
module _ (k : ℕ) (s : List ℕ) (off : ℕ) (rest m : List ℕ) (l : k ≤ length rest) (e : m ≡ take k rest) where
  pub first-length : length m ≡ k
  first-length = ap length e ∙ length-take-le k rest l

  pub whole-first : off ≤ length s → rest ≡ take (length s - off) (drop off s) → whole k 0 (number_at k 0) s off ≡ le m
  unfolding number_at
  whole-first h r =
      let d : rest ≡ drop off s = r ∙ end_whole s off h in
      whole_in k 0 (number_at k 0) s off (omega (arith, ap length d, length-drop off s)) ∙ ap le (sym (e ∙ ap (take k) d))

pub to_z-signed : (x : ℕ) → x < 0x1_0000_0000_0000_0000 → to_z w64 x ≡ signed x
to_z-signed x fits = go (dec_lt x 0x8000_0000_0000_0000)
  where
    go : Dec (x < 0x8000_0000_0000_0000) → to_z w64 x ≡ signed x
    go (yes h) = to_z_pos w64 h ∙ sym (signed_low x h)
    go (no f) =
        let k : ℕ = 0xffff_ffff_ffff_ffff - x in
        let e : x ≡ 0x1_0000_0000_0000_0000 - suc k = omega arith in
        ap (to_z w64) e ∙ to_z-neg w64 k (omega arith) ∙ sym (signed_high x (omega arith))
