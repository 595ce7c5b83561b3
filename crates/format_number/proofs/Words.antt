-- Laws of `words`: how long they are, words behind words, and one number more put. Assumes nothing.
use mathlib.Core.List.{List, [], ◌∷◌, ◌++◌, append_assoc, append-nil}
use mathlib.Core.Path.{◌≡◌, refl, sym, ap, ◌∙◌}
use Prim.Native.Nat.{ℕ, ◌+◌, ◌*◌, ◌<◌, ◌≤◌}
use native.Mathlib.Omega.{arith}
use borrow.Rule.Slice.PartMut.{put_mid}
use lib.ListN.{length, take, drop, get_or, length-append}
use lib.Seq.{length-take-le, drop-drop}
use mir.Syntax.{w64}
use Rattle.std.specs.Int.{to_le_bytes}
use Rattle.std.proofs.lemmas.List.{take_more}
use Rattle.protocol.specs.Bytes.{bytes_of, over}
use Rattle.protocol.proofs.Bytes.{length-bytes_of, over-over}
use Rattle.format_number.specs.Words.{words}
use Rattle.format_number.proofs.Numbers.{to_le_bytes-of_8}

pub length-words : (ns : List ℕ) → length (words ns) ≡ 8 * length ns
length-words [] = refl
length-words (n ∷ ns) = length-append (bytes_of 8 n) (words ns) ∙ omega (arith, length-bytes_of 8 n, length-words ns)

pub words_append : (ms ns : List ℕ) → words (ms ++ ns) ≡ words ms ++ words ns
words_append [] ns = refl
words_append (m ∷ ms) ns = ap (λ (l : List ℕ). bytes_of 8 m ++ l) (words_append ms ns) ∙ sym (append_assoc (bytes_of 8 m) (words ms) (words ns))

-- one number more
words_next : (ns : List ℕ) (i : ℕ) → i < length ns → words (take (i + 1) ns) ≡ words (take i ns) ++ bytes_of 8 (get_or ns i 0)
words_next ns i h =
    ap words (take_more ns i 0 h)
    ∙ words_append (take i ns) (get_or ns i 0 ∷ [])
    ∙ ap (λ (l : List ℕ). words (take i ns) ++ l) (append-nil (bytes_of 8 (get_or ns i 0)))

-- what a write to a part of a slice leaves
pub put_mid-over : (a k : ℕ) (b m : List ℕ) → length m ≡ k → put_mid a k b m ≡ over b a m
unfolding over
put_mid-over a k b m e = rw (drop-drop k a b, e, append_assoc (take a b) m (drop (a + k) b)) refl

-- the next number, put behind those that are put
pub put_next_word : (b : List ℕ) (off i at k : ℕ) (ns l m : List ℕ) → l ≡ over b off (words (take i ns)) → m ≡ to_le_bytes w64 (get_or ns i 0)
    → i < length ns → off + 8 * length ns ≤ length b → at ≡ off + 8 * i → k ≡ 8
    → put_mid at k l m ≡ over b off (words (take (i + 1) ns))
put_next_word b off i at k ns l m p q h fits e f =
    let n : length (words (take i ns)) ≡ 8 * i = length-words (take i ns) ∙ ap (λ (j : ℕ). 8 * j) (length-take-le i ns (omega arith)) in
    let m' : m ≡ bytes_of 8 (get_or ns i 0) = q ∙ to_le_bytes-of_8 (get_or ns i 0) in
    let e' : at ≡ off + length (words (take i ns)) = omega arith in
    put_mid-over at k l m (ap length m' ∙ sym f)
    ∙ rw (p, m', e', words_next ns i h) (over-over b off (words (take i ns)) (omega arith) (bytes_of 8 (get_or ns i 0)))
