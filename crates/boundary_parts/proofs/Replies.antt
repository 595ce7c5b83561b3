-- A reply whose numbers fit, put into its slice, names a part inside: the host reads back the numbers that were put.
-- Assumes nothing.
use Prim.Native.Nat.{ℕ, ◌*◌, ◌/◌, ◌%◌, ◌≤◌}
use mathlib.Core.List.{List, [], ◌∷◌, ◌++◌}
use mathlib.Core.Bool.{true}
use mathlib.Core.Path.{◌≡◌, refl, ap, ◌∙◌}
use native.Mathlib.Decide.{ℕ_discrete}
use native.Mathlib.Omega.{arith}
use borrow.Author.Tests.{ne_eqb}
use lib.Dec.{ltb}
use lib.ListN.{length, get_or, drop}
use Rattle.protocol.specs.Bytes.{number_at, put}
use Rattle.protocol.proofs.Bytes.{put-length}
use Rattle.request_piece.specs.Pieces.{by_value}
use Rattle.request_piece.specs.declared.Piece.{Piece}
use Rattle.record.proofs.Numbers.{AllU64, at_all}
use Rattle.record.proofs.Words.{word-words}
use Rattle.record.specs.Narrow.{U64}
use Rattle.record.specs.Record.{words}
use Rattle.session.specs.declared.Answer.{Answer}
use Rattle.session.specs.declared.Answer.TheVariants as A
use Rattle.session.specs.declared.Reply.{Reply}
use Rattle.session.specs.declared.Reply.TheVariants as R
use Rattle.boundary.specs.Heard.{at}
use Rattle.boundary.specs.Told.{stat_words, stat_v2_words, answer_number, answer_words, reply_number, reply_bytes, out_size}
use Rattle.boundary.proofs.Heard.{number-front, piece-short, put_front, at_words, wide2}
use Rattle.boundary.proofs.Narrow.{Plain, NarrowAnswer, NarrowPiece, NarrowReply}
use Rattle.boundary_parts.specs.Bounds.{Part, told_part, named, Inside}

-- capacity c, with l bytes lent, and slices no shorter
module _ (rx msg lent out : List ℕ) (room : out_size ≤ length out) (c l : ℕ) (wide : U64 c) (few : U64 l)
    (in-rx : c ≤ length rx) (in-msg : c ≤ length msg) (in_lent : l ≤ length lent) where
  abbrev Holds : List ℕ → Part → Type 0
  Holds o p = Inside rx msg lent o p

  -- the first three numbers of an answer
  answer_at : (ns : List ℕ) → AllU64 ns → length ns ≤ 14 → (i : ℕ) → ltb i (length ns) ≡ true → at (put out 0 (words ns)) i ≡ get_or ns i 0
  answer_at ns h k i e = at_words out room ns h k i e

  told_named : (o : List ℕ) (n : ℕ) → named (256 * n) o ≡ told_part n o
  unfolding named
  told_named o n =
      let r : 256 * n % 256 ≡ 0 = omega arith in
      let q : 256 * n / 256 ≡ n = omega arith in
      rw (r, q)

  -- a number that is none of an answer with a part
  plain_in : (n : ℕ) (ns : List ℕ) → Plain n → at (put out 0 (words ns)) 0 ≡ 7 → Holds (put out 0 (words ns)) (told_part n (put out 0 (words ns)))
  unfolding told_part
  plain_in n ns h e = go (ℕ_discrete n 0)
    where
      go : Dec (n ≡ 0) → Holds (put out 0 (words ns)) (told_part n (put out 0 (words ns)))
      go (yes z) = rw (z, e) tt
      go (no f) = rw (ne_eqb n 0 f, ne_eqb n 14 (omega arith)) tt

  answer-in : (a : Answer) → NarrowAnswer c a → Holds (put out 0 (words (answer_words a))) (told_part (answer_number a) (put out 0 (words (answer_words a))))
  unfolding told_part
  answer-in A.Done h = rw (answer_at (0 ∷ 0 ∷ 0 ∷ []) (omega arith) (omega arith) 0 refl) tt
  answer-in A.End h = rw (answer_at (1 ∷ 0 ∷ 0 ∷ []) (omega arith) (omega arith) 0 refl) tt
  answer-in (A.StatV1 s) h = rw (answer_at (2 ∷ 0 ∷ 0 ∷ stat_words s) (omega arith) (omega arith) 0 refl) tt
  answer-in (A.StatV2 s) h =
      rw (answer_at (3 ∷ 0 ∷ 0 ∷ stat_v2_words s) (omega arith, (omega arith, (omega arith, wide2 out room s 0 h))) (omega arith) 0 refl) tt
  answer-in (A.EntryV1 s i n) h =
      let w = answer_at (4 ∷ i ∷ n ∷ stat_words s) (omega arith) (omega arith) in
      rw (w 0 refl, w 1 refl, w 2 refl) (omega arith)
  answer-in (A.EntryV2 s i n) h =
      let w = answer_at (5 ∷ i ∷ n ∷ stat_v2_words s) (omega arith, (omega arith, (omega arith, wide2 out room s n h.1))) (omega arith) in
      rw (w 0 refl, w 1 refl, w 2 refl) (omega arith)
  answer-in (A.Chunk i n) h =
      let w = answer_at (6 ∷ i ∷ n ∷ []) (omega arith) (omega arith) in
      rw (w 0 refl, w 1 refl, w 2 refl) (omega arith)
  answer-in (A.Refused n) h = plain_in n (7 ∷ 0 ∷ 0 ∷ []) h (answer_at (7 ∷ 0 ∷ 0 ∷ []) (omega arith) (omega arith) 0 refl)
  answer-in (A.Missing n) h = tt
  answer-in A.Closed h = tt
  answer-in (A.Error k) h = tt
  answer-in (A.Fail n) h =
      let w = answer_at (7 ∷ 0 ∷ n ∷ []) (omega arith) (omega arith) in
      rw (w 1 refl, w 2 refl) (omega arith)
  answer-in (A.Unexpected a b e d) h = tt
  answer-in (A.Errno k) h = tt
  answer-in A.TooLarge h = tt

  -- the bytes of a piece, behind how many they are
  piece-in : (p : Piece) → NarrowPiece 0 p
      → Holds (put out 0 (reply_bytes (R.WriteBytes p))) (named (reply_number (R.WriteBytes p)) (put out 0 (reply_bytes (R.WriteBytes p))))
  unfolding reply_number reply_bytes named
  piece-in p h =
      let b : List ℕ = by_value p in
      let n : ℕ = length b in
      let k : n ≤ 10 = piece-short p h in
      let rest : List ℕ = drop (length (words (n ∷ []) ++ b)) out in
      let z = put-length out 0 (words (n ∷ []) ++ b) in
      let e : at (put out 0 (words (n ∷ []) ++ b)) 0 ≡ n =
      ap (number_at 8 0) (put_front out room (words (n ∷ []) ++ b) (omega arith)) ∙ number-front 8 0 (words (n ∷ [])) (b ++ rest) (omega arith)
      ∙ word-words (n ∷ []) (at_all (n ∷ []) (omega arith)) 0 in
      rw e (omega arith)

  pub reply-in : (r : Reply) → NarrowReply c l r → Holds (put out 0 (reply_bytes r)) (named (reply_number r) (put out 0 (reply_bytes r)))
  unfolding reply_number reply_bytes named
  reply-in (R.Told a) h = rw (told_named (put out 0 (words (answer_words a))) (answer_number a)) (answer-in a h)
  reply-in (R.Read i n) h = let w = answer_at (i ∷ n ∷ []) (omega arith) (omega arith) in rw (w 0 refl, w 1 refl) (omega arith)
  reply-in (R.WriteRx i n) h = let w = answer_at (i ∷ n ∷ []) (omega arith) (omega arith) in rw (w 0 refl, w 1 refl) (omega arith)
  reply-in (R.WriteLent i n) h = let w = answer_at (i ∷ n ∷ []) (omega arith) (omega arith) in rw (w 0 refl, w 1 refl) (omega arith)
  reply-in (R.WriteBytes p) h = piece-in p h
  reply-in R.Close h = tt
