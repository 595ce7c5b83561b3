-- A record with totals, taken apart: the session's bytes in front, five numbers behind them.
-- Assumes nothing.
use Prim.Native.Nat.{ℕ, zero, suc, ◌+◌, ◌-◌, ◌*◌, ◌/◌, ◌%◌, ◌^◌, ◌≤◌, ◌<◌}
use mathlib.Core.List.{List, [], ◌∷◌, ◌++◌}
use mathlib.Core.Path.{◌≡◌, refl, sym, ap, ◌∙◌}
use native.Mathlib.Omega.{arith}
use borrow.Author.Tests.{le-leb}
use lib.ListN.{length, take, drop, get_or, length-append}
use lib.Seq.{take_at, drop_at, take-append_seam}
use Rattle.protocol.specs.Bytes.{bytes_of, le, number_at}
use Rattle.protocol.proofs.Bytes.{length-bytes_of, le-bytes_of}
use Rattle.protocol.proofs.Words.{number_behind}
use Rattle.record.specs.Record.{words, word_of, size}
use Rattle.record.proofs.Words.{length-words}
use Rattle.session.proofs.Buf.{number-in}
use Rattle.totals.specs.Crossing.{record_size, received_of, consumed_of, written_of, asked_of, reads_of, limit, totalling}

-- a number of a list, whatever the others are
word-of : (ns : List ℕ) (i : ℕ) → i < length ns → word_of (words ns) i ≡ le (bytes_of 8 (get_or ns i 0))
unfolding number_at
word-of [] i h = absurd (omega arith)
word-of (n ∷ ns) zero h = ap le (take-append_seam (bytes_of 8 n) (words ns))
word-of (n ∷ ns) (suc i) h =
    let e : 8 * suc i ≡ length (bytes_of 8 n) + 8 * i = omega (arith, length-bytes_of 8 n) in
    ap (λ (k : ℕ). number_at 8 k (bytes_of 8 n ++ words ns)) e ∙ number_behind 8 (bytes_of 8 n) (words ns) (8 * i) ∙ word-of ns i (omega arith)

-- ---- 64 bits of a number

bytes-over : (k d : ℕ) → bytes_of k (256 ^ k + d) ≡ bytes_of k d
bytes-over zero d = refl
bytes-over (suc k) d =
    let m : (256 ^ suc k + d) % 256 ≡ d % 256 = omega arith in
    let q : (256 ^ suc k + d) / 256 ≡ 256 ^ k + d / 256 = omega arith in
    rw (m, q, bytes-over k (d / 256))

pub bytes-wrapped : (d : ℕ) → bytes_of 8 (limit + d) ≡ bytes_of 8 d
bytes-wrapped d = bytes-over 8 d

-- the bytes that a session holds: tail less head
abbrev pub held_of : List ℕ → ℕ
held_of rec = word_of rec 3 - word_of rec 2

-- where head is not past tail, and no more is held than was received
pub totalling-is : (x : List ℕ) (r n a k : ℕ) → word_of x 2 ≤ word_of x 3 → held_of x ≤ r → totalling x r n a k ≡ x ++ words (r ∷ (r - held_of x) ∷ n ∷ a ∷ k ∷ [])
totalling-is x r n a k h l =
    let e : limit + r + word_of x 2 - word_of x 3 ≡ limit + (r - held_of x) = omega arith in
    ap (λ (b : List ℕ). x ++ (bytes_of 8 r ++ (b ++ words (n ∷ a ∷ k ∷ [])))) (ap (bytes_of 8) e ∙ bytes-wrapped (r - held_of x))

-- the session's numbers, whatever stands behind them
pub in_front_lem : (x own : List ℕ) → length x ≡ size → (i : ℕ) → i < 32 → word_of (x ++ own) i ≡ word_of x i
in_front_lem x own e i h =
    sym (number-in (length x) 8 (8 * i) (x ++ own) (le-leb (8 * i + 8) (length x) (omega (arith, e)))) ∙ ap (number_at 8 (8 * i)) (take-append_seam x own)

module _ (x : List ℕ) (e : length x ≡ size) (r d n a k : ℕ) where
  abbrev own : List ℕ
  own = r ∷ d ∷ n ∷ a ∷ k ∷ []

  abbrev pub whole : List ℕ
  whole = x ++ words own

  pub whole-size : length whole ≡ record_size
  whole-size = length-append x (words own) ∙ omega (arith, e, length-words own)

  pub whole-inner : take size whole ≡ x
  whole-inner = take_at x (words own) size e

  pub whole-own : drop size whole ≡ words own
  whole-own = drop_at x (words own) size e

  bytes-behind : (i : ℕ) → i < 5 → word_of whole (32 + i) ≡ le (bytes_of 8 (get_or own i 0))
  bytes-behind i l =
      let f : 8 * (32 + i) ≡ length x + 8 * i = omega (arith, e) in
      ap (λ (k : ℕ). number_at 8 k whole) f ∙ number_behind 8 x (words own) (8 * i) ∙ word-of own i l

  behind : (i : ℕ) → i < 5 → get_or own i 0 < limit → word_of whole (32 + i) ≡ get_or own i 0
  behind i l h = bytes-behind i l ∙ le-bytes_of 8 (get_or own i 0) h

  pub whole-received : r < limit → received_of whole ≡ r
  whole-received h = behind 0 (omega arith) h

  pub whole-consumed : d < limit → consumed_of whole ≡ d
  whole-consumed h = behind 1 (omega arith) h

  pub whole-written : n < limit → written_of whole ≡ n
  whole-written h = behind 2 (omega arith) h

  pub whole-asked : a < limit → asked_of whole ≡ a
  whole-asked h = behind 3 (omega arith) h

  pub whole-reads : k < limit → reads_of whole ≡ k
  whole-reads h = behind 4 (omega arith) h

  -- .. of eight bytes, whatever the number
  pub whole-counts : reads_of whole ≡ le (bytes_of 8 k)
  whole-counts = bytes-behind 4 (omega arith)
