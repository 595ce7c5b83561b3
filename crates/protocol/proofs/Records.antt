-- Laws of `specs/Records.antt`: the numbers that a record's bytes spell, each at its offset.
-- Assumes nothing.
use mathlib.Core.Bool.{Bool, true, false}
use mathlib.Core.List.{List, [], ◌∷◌, ◌++◌}
use mathlib.Core.Path.{◌≡◌, refl, sym, ap, ◌∙◌}
use Prim.Native.Nat.{ℕ, suc, ◌+◌, ◌-◌, ◌*◌, ◌^◌, ◌≤◌, ◌<◌}
use native.Mathlib.Nat.{mul_assoc, pow-suc}
use native.Mathlib.Omega.{arith}
use borrow.Author.Tests.{lt-ltb, le-ltb}
use lib.Dec.{leb}
use lib.IntN.{pos, negsuc}
use lib.ListN.{length, take, drop, get_or, length-drop}
use lib.Seq.{drop-cons, drop-drop, take-add, length-take-le}
use Rattle.protocol.specs.Bytes.{pick, le, number_at, signed, whole}
use Rattle.protocol.specs.Records.{u32_at, u64_at, i64_at, id_at}
use Rattle.protocol.proofs.Bytes.{le4, whole_in}

-- a field of a record of n bytes that are all there: k bytes at o, read for themselves
pub field : {A : Type 0} (f : ℕ → A) (z : A) (n k o : ℕ) (s : List ℕ) (off : ℕ) → off + n ≤ length s → o + k ≤ n
    → whole k z (λ t. f (number_at k 0 t)) s (off + o) ≡ f (number_at k o (drop off s))
unfolding number_at
field f z n k o s off h i =
    whole_in k z (λ t. f (number_at k 0 t)) s (off + o) (omega arith)
    ∙ ap (λ l. f (le (take k l))) (sym (drop-drop o off s))

-- ... at each width
module _ (n : ℕ) (s : List ℕ) (off : ℕ) (fits : off + n ≤ length s) where
  pub u32_field : (o : ℕ) → o + 4 ≤ n → whole 4 0 (u32_at 0) s (off + o) ≡ u32_at o (drop off s)
  u32_field o = field (λ x. x) 0 n 4 o s off fits

  pub u64_field : (o : ℕ) → o + 8 ≤ n → whole 8 0 (u64_at 0) s (off + o) ≡ u64_at o (drop off s)
  u64_field o = field (λ x. x) 0 n 8 o s off fits

  pub i64_field : (o : ℕ) → o + 8 ≤ n → whole 8 (pos 0) (i64_at 0) s (off + o) ≡ i64_at o (drop off s)
  i64_field o = field signed (pos 0) n 8 o s off fits

-- four bytes that are there, one by one
pub id-in : (s : List ℕ) (off : ℕ) → off + 4 ≤ length s
    → id_at (drop off s) ≡ get_or s off 0 ∷ get_or s (off + 1) 0 ∷ get_or s (off + 2) 0 ∷ get_or s (off + 3) 0 ∷ []
id-in s off h =
    let e1 : off + 1 ≡ suc off = omega arith in
    let e2 : off + 2 ≡ suc (suc off) = omega arith in
    let e3 : off + 3 ≡ suc (suc (suc off)) = omega arith in
    rw (
      e1,
      e2,
      e3,
      drop-cons s off 0 (omega arith),
      drop-cons s (suc off) 0 (omega arith),
      drop-cons s (suc (suc off)) 0 (omega arith),
      drop-cons s (suc (suc (suc off))) 0 (omega arith),
    )

-- ... as a number
pub u32_in : (s : List ℕ) (off : ℕ) → off + 4 ≤ length s
    → whole 4 0 (u32_at 0) s off ≡ get_or s off 0 + 256 * (get_or s (off + 1) 0 + 256 * (get_or s (off + 2) 0 + 256 * get_or s (off + 3) 0))
unfolding number_at
u32_in s off h = whole_in 4 0 (u32_at 0) s off h ∙ le4 s off h

-- bytes behind bytes: the later ones count 256 times more for each of the earlier
pub le-append : (a b : List ℕ) → le (a ++ b) ≡ le a + 256 ^ length a * le b
le-append [] b = omega arith
le-append (x ∷ a) b = rw (pow-suc, mul_assoc) (omega (arith, le-append a b))

-- a number of j + k bytes is its j low ones and its k high ones
pub number-add : (j k off : ℕ) (s : List ℕ) → off + j ≤ length s
    → number_at (j + k) off s ≡ number_at j off s + 256 ^ j * number_at k (off + j) s
unfolding number_at
number-add j k off s h =
    ap le (take-add j k (drop off s))
    ∙ le-append (take j (drop off s)) (take k (drop j (drop off s)))
    ∙ rw (length-take-le j (drop off s) (omega (arith, length-drop off s)), drop-drop j off s)

-- eight bytes that are there, as two fours
pub u64_in : (s : List ℕ) (off : ℕ) → off + 8 ≤ length s
    → whole 8 0 (u64_at 0) s off ≡ whole 4 0 (u32_at 0) s off + 0x1_0000_0000 * whole 4 0 (u32_at 0) s (off + 4)
u64_in s off h =
    whole_in 8 0 (u64_at 0) s off h
    ∙ number-add 4 4 0 (drop off s) (omega (arith, length-drop off s))
    ∙ cc (whole_in 4 0 (u32_at 0) s off (omega arith), u32_field 8 s off h 4 (omega arith))

-- the two signs
pub signed_low : (x : ℕ) → x < 0x8000_0000_0000_0000 → signed x ≡ pos x
unfolding signed
signed_low x h = simp (lt-ltb _ _ h)

pub signed_high : (x : ℕ) → 0x8000_0000_0000_0000 ≤ x → signed x ≡ negsuc (0xffff_ffff_ffff_ffff - x)
unfolding signed
signed_high x h = simp (le-ltb _ _ h)

-- eight bytes as a signed number, there or not
pub i64_whole : (s : List ℕ) (off : ℕ) → whole 8 (pos 0) (i64_at 0) s off ≡ signed (whole 8 0 (u64_at 0) s off)
i64_whole s off = go (leb (off + 8) (length s))
  where
    go : (b : Bool) → pick b (i64_at 0 (drop off s)) (pos 0) ≡ signed (pick b (u64_at 0 (drop off s)) 0)
    go true = refl
    go false = sym (signed_low 0 (omega arith))
