-- Numbers in the digits of a base, 10 or 8: written without a leading zero, and read.
-- Assumes nothing.
use Rattle.std.specs.Prelude.{ℕ, zero, suc, ◌+◌, ◌-◌, ◌*◌, ◌/◌, ◌%◌, Bool, ◌&&◌, List, [], ◌∷◌, ◌++◌, leb, ltb}
use Rattle.std.proofs.Math.Option.{Option, none, some}
use Rattle.protocol.specs.Bytes.{pick}

-- the digits of n; f, at least n, ends the recursion
abbrev pub digits_by : (base f n : ℕ) → List ℕ
digits_by base zero n = (48 + n) ∷ []
digits_by base (suc f) n = pick (ltb n base) ((48 + n) ∷ []) (digits_by base f (n / base) ++ (48 + n % base) ∷ [])

-- n in digits, no leading zero; 0 is "0"
unfoldable pub digits : (base n : ℕ) → List ℕ
digits base n = digits_by base n n

-- a digit's byte
abbrev pub is_digit : (base b : ℕ) → Bool
is_digit base b = leb 48 b && ltb b (48 + base)

-- the number that text goes on to spell, with n read so far; none for a byte that is no digit, and past 32 bits
abbrev pub spelled : (base n : ℕ) → List ℕ → Option ℕ
spelled base n [] = some n
spelled base n (b ∷ text) =
    pick (is_digit base b) (pick (ltb (n * base + (b - 48)) 0x1_0000_0000) (spelled base (n * base + (b - 48)) text) none) none
