-- Laws of `words` (the first in format_number): the i-th read back and replaced, puts one behind the other, and bytes as words. Assumes nothing.
use mathlib.Core.List.{List, [], ◌∷◌, ◌++◌, append-nil}
use mathlib.Core.Path.{◌≡◌, refl, sym, ap, ◌∙◌}
use Prim.Native.Nat.{ℕ, zero, suc, ◌+◌, ◌*◌, ◌≤◌, ◌<◌}
use native.Mathlib.Omega.{arith}
use lib.ListN.{length, take, drop, get_or, set, length-drop, take-append-drop, drop_of_length-le}
use lib.Seq.{length-take-le, take-append_seam, take-append-add, drop-append-add, drop-drop, drop-nil}
use Rattle.protocol.specs.Bytes.{Bytes, le, bytes_of, number_at, over, put, whole}
use Rattle.protocol.specs.Records.{u64_at}
use Rattle.protocol.proofs.Bytes.{le-bytes_of, bytes_of-le, bytes_drop, put_in, put-put, whole_in}
use Rattle.protocol.proofs.Words.{bytes_take}
pub use Rattle.format_number.proofs.Words.{length-words, words_append}
use Rattle.record.specs.Narrow.{U64}
use Rattle.record.specs.Record.{words, word_of}

-- numbers that are put behind numbers are put with them
pub put_next : {l l' : List ℕ} (b : List ℕ) (at next : ℕ) (ms ns : List ℕ) → l ≡ put b at (words ms) → l' ≡ put l next (words ns)
    → at + 8 * length ms ≡ next → next + 8 * length ns ≤ length b → l' ≡ put b at (words (ms ++ ns))
put_next b at next ms ns p q e h =
    q
    ∙ ap (λ (l : List ℕ). put l next (words ns)) p
    ∙ put-put b at next (words ms) (words ns) (omega (arith, length-words ms)) (omega (arith, length-words ns))
    ∙ ap (put b at) (sym (words_append ms ns))

-- what is put over the whole
pub put_whole : (b m : List ℕ) → length b ≡ length m → put b 0 m ≡ m
unfolding over
put_whole b m e = put_in b 0 m (omega arith) ∙ ap (λ (l : List ℕ). m ++ l) (drop_of_length-le b {i = 0 + length m} (omega arith)) ∙ append-nil m

-- behind the first number lie the others
past : (n i : ℕ) (ns : List ℕ) → drop (8 * suc i) (words (n ∷ ns)) ≡ drop (8 * i) (words ns)
past n i ns = let e : 8 * suc i ≡ 8 + 8 * i = omega arith in rw e (drop-append-add (bytes_of 8 n) (words ns) (8 * i))

-- the i-th number, read back; 0 behind the last
pub word-words : (ns : List ℕ) → ((i : ℕ) → U64 (get_or ns i 0)) → (i : ℕ) → word_of (words ns) i ≡ get_or ns i 0
unfolding number_at
word-words [] h i = rw drop-nil
word-words (n ∷ ns) h zero = ap le (take-append_seam (bytes_of 8 n) (words ns)) ∙ le-bytes_of 8 n (h 0)
word-words (n ∷ ns) h (suc i) = ap (λ (l : List ℕ). le (take 8 l)) (past n i ns) ∙ word-words ns (λ j. h (suc j)) i

-- a number that the code reads
pub word_in : (s : List ℕ) (i : ℕ) → 8 * i + 8 ≤ length s → whole 8 0 (u64_at 0) s (8 * i) ≡ word_of s i
unfolding number_at
word_in s i h = whole_in 8 0 (u64_at 0) s (8 * i) h

-- the i-th number, replaced
over_word : (ns : List ℕ) (i t : ℕ) → i < length ns → over (words ns) (8 * i) (bytes_of 8 t) ≡ words (set ns i t)
unfolding over
over_word [] i t h = absurd (omega arith)
over_word (n ∷ ns) zero t h = refl
over_word (n ∷ ns) (suc i) t h =
    let e : 8 * suc i ≡ 8 + 8 * i = omega arith in
    let f : 8 + 8 * i + 8 ≡ 8 + (8 * i + 8) = omega arith in
    rw (e, f, take-append-add (bytes_of 8 n) (words ns) (8 * i), drop-append-add (bytes_of 8 n) (words ns) (8 * i + 8))
    (ap (λ (l : List ℕ). bytes_of 8 n ++ l) (over_word ns i t (omega arith)))

pub put_word : (ns : List ℕ) (i t : ℕ) → i < length ns → put (words ns) (8 * i) (bytes_of 8 t) ≡ words (set ns i t)
put_word ns i t h = put_in (words ns) (8 * i) (bytes_of 8 t) (omega (arith, length-words ns)) ∙ over_word ns i t h

-- ---- bytes, as their numbers

module _ (rec : List ℕ) where
  -- k numbers, from the i-th on
  unfoldable pub numbers_from : ℕ → ℕ → List ℕ
  numbers_from zero i = []
  numbers_from (suc k) i = word_of rec i ∷ numbers_from k (suc i)

  pub words-from : Bytes rec → (k i : ℕ) → 8 * (i + k) ≡ length rec → drop (8 * i) rec ≡ words (numbers_from k i)
  unfolding numbers_from number_at
  words-from bytes zero i e = drop_of_length-le rec {i = 8 * i} (omega arith)
  words-from bytes (suc k) i e =
      let l : List ℕ = drop (8 * i) rec in
      let f : length (take 8 l) ≡ 8 = length-take-le 8 l (omega (arith, length-drop (8 * i) rec)) in
      let b : Bytes (take 8 l) = bytes_take 8 l (bytes_drop (8 * i) rec bytes) in
      let w : bytes_of 8 (word_of rec i) ≡ take 8 l = ap (λ (n : ℕ). bytes_of n (le (take 8 l))) (sym f) ∙ bytes_of-le (take 8 l) b in
      let m : 8 * i + 8 ≡ 8 * suc i = omega arith in
      let d : drop 8 l ≡ drop (8 * suc i) rec = drop-drop 8 (8 * i) rec ∙ ap (λ (n : ℕ). drop n rec) m in
      sym (take-append-drop 8 l) ∙ cc (w, d, words-from bytes k (suc i) (omega arith))
