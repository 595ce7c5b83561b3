-- Laws of numbers where they stand in a list (`specs/Records.antt`), and of those of four bytes that are written (`word` of
-- `specs/Messages.antt`): what was written is read back, and what is read was written so. Assumes nothing.
use Prim.Native.Nat.{ℕ, zero, suc, ◌+◌, ◌≤◌, ◌<◌, ◌^◌}
use mathlib.Core.List.{List, [], ◌∷◌, ◌++◌}
use mathlib.Core.Path.{◌≡◌, sym, ap, ◌∙◌}
use native.Mathlib.Omega.{arith}
use lib.ListN.{length, take, drop, length-drop, take-append-drop, drop_of_length-le}
use lib.Seq.{drop_at, drop-append-add, drop-drop, length-take-le}
use Rattle.protocol.specs.Bytes.{Bytes, le, bytes_of, number_at}
use Rattle.protocol.specs.Messages.{word}
use Rattle.protocol.proofs.Bytes.{bytes-head, bytes-tail, bytes_drop, bytes_of-le, le-bytes_of}

pub bytes_take : (k : ℕ) (s : List ℕ) → Bytes s → Bytes (take k s)
bytes_take zero s b i = omega arith
bytes_take (suc k) [] b i = omega arith
bytes_take (suc k) (x ∷ s) b zero = b 0
bytes_take (suc k) (x ∷ s) b (suc i) = bytes_take k s (bytes-tail x s b) i

-- a number of k bytes
pub le_below : (k : ℕ) (s : List ℕ) → Bytes s → le (take k s) < 256 ^ k
le_below zero s b = omega arith
le_below (suc k) [] b = omega (arith, le_below k [] b)
le_below (suc k) (x ∷ s) b = omega (arith, bytes-head x s b, le_below k s (bytes-tail x s b))

pub number-below : (k : ℕ) (b : List ℕ) (off : ℕ) → Bytes b → number_at k off b < 256 ^ k
unfolding number_at
number-below k b off h = le_below k (drop off b) (bytes_drop off b h)

-- a word written behind x is read there
pub word-behind : (x : List ℕ) (off v : ℕ) (rest : List ℕ) → length x ≡ off → v < 0x1_0000_0000 → number_at 4 off (x ++ (word v ++ rest)) ≡ v
unfolding number_at
word-behind x off v rest e h = rw (drop_at x (word v ++ rest) off e) (le-bytes_of 4 v h)

-- a number behind some bytes
pub number_behind : (k : ℕ) (p t : List ℕ) (off : ℕ) → number_at k (length p + off) (p ++ t) ≡ number_at k off t
unfolding number_at
number_behind k p t off = rw (drop-append-add p t off)

-- four bytes that are there are those of the number that is read, and then comes what follows
pub word-spelled : (b : List ℕ) (off : ℕ) → Bytes b → off + 4 ≤ length b → word (number_at 4 off b) ≡ take 4 (drop off b)
unfolding number_at
word-spelled b off h fits =
    let four : length (take 4 (drop off b)) ≡ 4 = length-take-le 4 (drop off b) (omega (arith, length-drop off b)) in
    ap (λ (k : ℕ). bytes_of k (number_at 4 off b)) (sym four) ∙ bytes_of-le (take 4 (drop off b)) (bytes_take 4 (drop off b) (bytes_drop off b h))

pub word-there : (b : List ℕ) (off next : ℕ) → Bytes b → off + 4 ≡ next → next ≤ length b → word (number_at 4 off b) ++ drop next b ≡ drop off b
word-there b off next h e fits =
    let after : drop next b ≡ drop 4 (drop off b) = ap (λ (k : ℕ). drop k b) (sym e) ∙ sym (drop-drop 4 off b) in
    ap (λ (t : List ℕ). t ++ drop next b) (word-spelled b off h (omega arith))
    ∙ ap (λ (t : List ℕ). take 4 (drop off b) ++ t) after
    ∙ take-append-drop 4 (drop off b)

-- ... where nothing follows
pub word-last : (b : List ℕ) (off next : ℕ) → Bytes b → off + 4 ≡ next → length b ≡ next → word (number_at 4 off b) ++ [] ≡ drop off b
word-last b off next h e f =
    ap (λ (t : List ℕ). word (number_at 4 off b) ++ t) (sym (drop_of_length-le b {i = next} (omega arith)))
    ∙ word-there b off next h e (omega arith)
