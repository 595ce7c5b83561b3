-- What is heard is what was told: from the number returned and the slice of a reply the host reads what the reply says.
-- Assumes nothing.
use Prim.Native.Nat.{ℕ, zero, suc, ◌+◌, ◌*◌, ◌/◌, ◌%◌, ◌≤◌, ◌<◌}
use mathlib.Core.Bool.{true}
use mathlib.Core.List.{List, [], ◌∷◌, ◌++◌}
use mathlib.Core.Path.{◌≡◌, refl, sym, ap, ◌∙◌}
use native.Mathlib.Decide.{ℕ_discrete}
use native.Mathlib.Nat.{zero-add}
use native.Mathlib.Omega.{arith}
use borrow.Author.Tests.{le-leb, ne_eqb, ltb-true}
use lib.Dec.{ltb}
use lib.ListN.{length, get_or, take, drop, length-append}
use lib.Seq.{take-append_seam}
use Rattle.protocol.specs.Answers as P
use Rattle.protocol.specs.Bytes.{Bytes, bytes_of, number_at, over, put}
use Rattle.protocol.specs.Messages.{word}
use Rattle.protocol.proofs.Bytes.{bytes_of-le, length-bytes_of, put_in}
use Rattle.protocol.proofs.Decimal.{decimal-length}
use Rattle.format_record.specs.Told.{told_stat, told_stat2}
use Rattle.format_record.specs.declared.StatV1.{StatV1}
use Rattle.format_record.specs.declared.StatV2.{StatV2}
use Rattle.request_piece.specs.Pieces.{by_value}
use Rattle.request_piece.specs.declared.Piece.{Piece}
use Rattle.request_piece.specs.declared.Piece.TheVariants as P'
use Rattle.record.specs.Narrow.{U64, NarrowDent, NarrowDent2}
use Rattle.record.specs.Record.{words}
use Rattle.record.proofs.Numbers.{signed_back, unsigned-wide, AllU64, at_all}
use Rattle.record.proofs.Words.{length-words, word-words}
use Rattle.session.specs.declared.Answer.{Answer}
use Rattle.session.specs.declared.Answer.TheVariants as A
use Rattle.session.specs.declared.Reply.{Reply}
use Rattle.session.specs.declared.Reply.TheVariants as R
use Rattle.session.specs.Core.{show_of}
use Rattle.session.specs.Host.{told, write_bytes}
use Rattle.session.specs.Shown.{part_of, paper}
use Rattle.session.proofs.Buf.{number-in}
use Rattle.boundary.specs.Heard.{at, stat_heard, stat2_heard, done_heard, answer_heard, heard}
use Rattle.boundary.specs.Told.{stat_words, stat_v2_words, answer_number, answer_words, reply_number, reply_bytes, out_size}
use Rattle.boundary.proofs.Narrow.{dent, dent2, Plain, NarrowAnswer, NarrowPiece, NarrowReply}

-- a number in the first of two lists
pub number-front : (k off : ℕ) (a rest : List ℕ) → off + k ≤ length a → number_at k off (a ++ rest) ≡ number_at k off a
number-front k off a rest h = sym (number-in (length a) k off (a ++ rest) (le-leb _ _ h)) ∙ ap (number_at k off) (take-append_seam a rest)

-- a piece that is passed by value is short
pub piece-short : (p : Piece) → NarrowPiece 0 p → length (by_value p) ≤ 10
piece-short (P'.Header id arg) n = omega (arith, length-append (word id) (word arg), length-bytes_of 4 id, length-bytes_of 4 arg)
piece-short P'.Lent n = omega arith
piece-short P'.Comma n = omega arith
piece-short (P'.Digits m) n = decimal-length m.0 n
piece-short (P'.Inner id) n = omega (arith, length-bytes_of 4 id)
piece-short (P'.Word x) n = omega (arith, length-bytes_of 4 x)
piece-short P'.End n = omega arith

four_bytes : {a b c d : ℕ} → (a < 256) × (b < 256) × (c < 256) × (d < 256) → Bytes (a ∷ b ∷ c ∷ d ∷ [])
four_bytes h zero = h.0
four_bytes h (suc zero) = h.1
four_bytes h (suc (suc zero)) = h.2
four_bytes h (suc (suc (suc zero))) = h.3
four_bytes h (suc (suc (suc (suc i)))) = omega arith

module _ (out : List ℕ) (size : out_size ≤ length out) where
  abbrev put-words : List ℕ → List ℕ
  put-words ns = put out 0 (words ns)

  pub put_front : (m : List ℕ) → length m ≤ out_size → put out 0 m ≡ m ++ drop (length m) out
  unfolding over
  put_front m h = put_in out 0 m (omega arith) ∙ rw zero-add

  -- the i-th of the numbers that were put
  pub at_words : (ns : List ℕ) → AllU64 ns → length ns ≤ 14 → (i : ℕ) → ltb i (length ns) ≡ true → at (put-words ns) i ≡ get_or ns i 0
  at_words ns h l i e =
      let n = length-words ns in
      let b = ltb-true i (length ns) e in
      ap (number_at 8 (8 * i)) (put_front (words ns) (omega arith)) ∙ number-front 8 (8 * i) (words ns) _ (omega arith) ∙ word-words ns (at_all ns h) i

  -- a stat, with the n of its entry's name
  stat-heard : (s : StatV1) (k i n : ℕ) → NarrowDent (dent s n) → U64 k → U64 i → stat_heard (put-words (k ∷ i ∷ n ∷ stat_words s)) ≡ told_stat s
  stat-heard s k i n h a b =
      let w = at_words (k ∷ i ∷ n ∷ stat_words s) (omega arith) (omega arith) in
      rw (w 3 refl, w 4 refl, w 5 refl)

  pub wide2 : (s : StatV2) (n : ℕ) → NarrowDent2 (dent2 s n) → AllU64 (stat_v2_words s)
  wide2 s n h =
      let x = unsigned-wide s.atime h.atime in
      let y = unsigned-wide s.mtime h.mtime in
      let z = unsigned-wide s.ctime h.ctime in
      omega arith

  stat2-heard : (s : StatV2) (k i n : ℕ) → NarrowDent2 (dent2 s n) → U64 k → U64 i → stat2_heard (put-words (k ∷ i ∷ n ∷ stat_v2_words s)) ≡ told_stat2 s
  stat2-heard s k i n h a b =
      let w = at_words (k ∷ i ∷ n ∷ stat_v2_words s) (a, (b, (omega arith, wide2 s n h))) (omega arith) in
      rw (
        w 3 refl,
        w 4 refl,
        w 5 refl,
        w 6 refl,
        w 7 refl,
        w 8 refl,
        w 9 refl,
        w 10 refl,
        w 11 refl,
        w 12 refl,
        w 13 refl,
        signed_back s.atime h.atime,
        signed_back s.mtime h.mtime,
        signed_back s.ctime h.ctime,
      )

  -- a number that is none of an answer with values
  refused-heard : (rx msg : List ℕ) (n : ℕ) → Plain n → answer_heard n (put-words (7 ∷ 0 ∷ 0 ∷ [])) rx msg ≡ P.refused n
  unfolding answer_heard done_heard
  refused-heard rx msg n h = go (ℕ_discrete n 0)
    where
      go : Dec (n ≡ 0) → answer_heard n (put-words (7 ∷ 0 ∷ 0 ∷ [])) rx msg ≡ P.refused n
      go (yes e) = rw (e, at_words (7 ∷ 0 ∷ 0 ∷ []) (omega arith) (omega arith) 0 refl)
      go (no f) =
          rw (
            ne_eqb n 0 f,
            ne_eqb n 10 h.1,
            ne_eqb n 12 (omega arith),
            ne_eqb n 13 (omega arith),
            ne_eqb n 14 (omega arith),
            ne_eqb n 15 (omega arith),
            ne_eqb n 16 (omega arith),
            ne_eqb n 17 (omega arith),
          )

  -- of a session whose capacity is c, with l bytes lent
  answer-told : (c : ℕ) → U64 c → (rx msg : List ℕ) (a : Answer) → NarrowAnswer c a → answer_heard (answer_number a) (put-words (answer_words a)) rx msg ≡ paper rx msg a
  unfolding answer_heard done_heard paper
  answer-told c wide rx msg A.Done h = rw (at_words (answer_words A.Done) (omega arith) (omega arith) 0 refl)
  answer-told c wide rx msg A.End h = rw (at_words (answer_words A.End) (omega arith) (omega arith) 0 refl)
  answer-told c wide rx msg (A.StatV1 s) h =
      rw (at_words (answer_words (A.StatV1 s)) (omega arith) (omega arith) 0 refl) (ap P.stat (stat-heard s 2 0 0 h (omega arith) (omega arith)))
  answer-told c wide rx msg (A.StatV2 s) h =
      rw (at_words (answer_words (A.StatV2 s)) (omega arith, (omega arith, (omega arith, wide2 s 0 h))) (omega arith) 0 refl)
      (ap P.stat2 (stat2-heard s 3 0 0 h (omega arith) (omega arith)))
  answer-told c wide rx msg (A.EntryV1 s i n) h =
      let w = at_words (answer_words (A.EntryV1 s i n)) (omega arith) (omega arith) in
      rw (w 0 refl, w 1 refl, w 2 refl) (ap (λ x. part_of rx i n (P.entry x)) (stat-heard s 4 i n h.1 (omega arith) (omega arith)))
  answer-told c wide rx msg (A.EntryV2 s i n) h =
      let w = at_words (answer_words (A.EntryV2 s i n)) (omega arith, (omega arith, (omega arith, wide2 s n h.1))) (omega arith) in
      rw (w 0 refl, w 1 refl, w 2 refl) (ap (λ x. part_of rx i n (P.entry2 x)) (stat2-heard s 5 i n h.1 (omega arith) (omega arith)))
  answer-told c wide rx msg (A.Chunk i n) h =
      let w = at_words (answer_words (A.Chunk i n)) (omega arith) (omega arith) in
      rw (w 0 refl, w 1 refl, w 2 refl)
  answer-told c wide rx msg (A.Refused n) h = refused-heard rx msg n h
  answer-told c wide rx msg (A.Missing n) h = rw (at_words (answer_words (A.Missing n)) (omega arith) (omega arith) 3 refl)
  answer-told c wide rx msg A.Closed h = refl
  answer-told c wide rx msg (A.Error k) h = rw (at_words (answer_words (A.Error k)) (omega arith) (omega arith) 3 refl)
  answer-told c wide rx msg (A.Fail n) h =
      let w = at_words (answer_words (A.Fail n)) (omega arith) (omega arith) in
      rw (w 1 refl, w 2 refl)
  answer-told c wide rx msg (A.Unexpected a b e d) h =
      let id : List ℕ = a ∷ b ∷ e ∷ d ∷ [] in
      ap (λ x. P.unexpected (bytes_of 4 x)) (at_words (answer_words (A.Unexpected a b e d)) (omega arith) (omega arith) 3 refl)
      ∙ ap P.unexpected (bytes_of-le id (four_bytes h))
  answer-told c wide rx msg (A.Errno k) h = rw (at_words (answer_words (A.Errno k)) (omega arith) (omega arith) 3 refl)
  answer-told c wide rx msg A.TooLarge h = refl

  -- bytes, behind how many they are
  piece-heard : (p : Piece) → NarrowPiece 0 p → take (at (put out 0 (reply_bytes (R.WriteBytes p))) 0) (drop 8 (put out 0 (reply_bytes (R.WriteBytes p)))) ≡ by_value p
  unfolding reply_bytes
  piece-heard p h =
      let b : List ℕ = by_value p in
      let n : ℕ = length b in
      let l : n ≤ 10 = piece-short p h in
      let rest : List ℕ = drop (length (words (n ∷ []) ++ b)) out in
      rw (put_front (words (n ∷ []) ++ b) (omega arith))
      (ap (λ k. take k (b ++ rest)) (number-front 8 0 (words (n ∷ [])) (b ++ rest) (omega arith) ∙ word-words (n ∷ []) (at_all (n ∷ []) (omega arith)) 0)
      ∙ take-append_seam b rest)

  -- what is answered, by its number
  told-heard : (o rx msg : List ℕ) (n : ℕ) → heard (256 * n) o rx msg ≡ told (answer_heard n o rx msg)
  unfolding heard
  told-heard o rx msg n =
      let r : 256 * n % 256 ≡ 0 = omega arith in
      let q : 256 * n / 256 ≡ n = omega arith in
      rw (r, q)

  pub heard-told : (c l : ℕ) → U64 c → U64 l → (rx msg : List ℕ) (r : Reply) → NarrowReply c l r → heard (reply_number r) (put out 0 (reply_bytes r)) rx msg ≡ show_of rx msg r
  unfolding reply_number reply_bytes heard
  heard-told c l wide lent rx msg (R.Told a) h = told-heard (put-words (answer_words a)) rx msg (answer_number a) ∙ ap told (answer-told c wide rx msg a h)
  heard-told c l wide lent rx msg (R.Read i n) h = let w = at_words (i ∷ n ∷ []) (omega arith) (omega arith) in rw (w 0 refl, w 1 refl)
  heard-told c l wide lent rx msg (R.WriteRx i n) h = let w = at_words (i ∷ n ∷ []) (omega arith) (omega arith) in rw (w 0 refl, w 1 refl)
  heard-told c l wide lent rx msg (R.WriteLent i n) h = let w = at_words (i ∷ n ∷ []) (omega arith) (omega arith) in rw (w 0 refl, w 1 refl)
  heard-told c l wide lent rx msg (R.WriteBytes p) h = ap write_bytes (piece-heard p h)
  heard-told c l wide lent rx msg R.Close h = refl
