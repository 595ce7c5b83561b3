-- Facts on demand 3's comparison of two sessions: "Before A's first answer 12, 13 or 17 B gives A's answers; only where A's FAIL text is cut, B's
-- text begins with A's instead"; "A FAIL text is cut where L > c" (document 01). What is alike, and what is not.
-- Assumes nothing.
use Rattle.std.specs.Prelude.{ℕ, List, [], ◌∷◌}
use Rattle.protocol.specs.Answers.{Answer, closed, error, done, end, stat, stat2, entry, entry2, chunk, refused, missing, broken, fail, unexpected, errno, too_large}
use Rattle.protocol.specs.Bytes.{ascii}
use Rattle.protocol.specs.Records.{Stat, Stat2}
use Rattle.protocol_readers.specs.Wider.{Stops, Unstopped, Like}

-- A with capacity c on a FAIL of length l, its text, and B's
abbrev Alike : (c l : ℕ) → (text_a text_b : List ℕ) → Type 0
Alike c l a b = Like c l (fail a) (fail b)

pub record Compared : Type 0 where
  -- 12, 13 and 17 stop it, no other answer does
  pub closed_stops : Stops (broken closed)
  pub error_stops : (c : ℕ) → Stops (broken (error c))
  pub large_stops : Stops too_large
  pub done_passes : Stops done → ⊥
  pub end_passes : Stops end → ⊥
  pub stat_passes : (s : Stat) → Stops (stat s) → ⊥
  pub stat2_passes : (s : Stat2) → Stops (stat2 s) → ⊥
  pub entry_passes : (s : Stat) (n : List ℕ) → Stops (entry s n) → ⊥
  pub entry2_passes : (s : Stat2) (n : List ℕ) → Stops (entry2 s n) → ⊥
  pub chunk_passes : (b : List ℕ) → Stops (chunk b) → ⊥
  pub refused_passes : Stops (refused 6) → ⊥
  pub missing_passes : (f : ℕ) → Stops (missing f) → ⊥
  pub fail_passes : (t : List ℕ) → Stops (fail t) → ⊥
  pub id_passes : (i : List ℕ) → Stops (unexpected i) → ⊥
  pub errno_passes : (c : ℕ) → Stops (errno c) → ⊥
  -- before the first of them, and not from it on
  pub before : Unstopped (done ∷ too_large ∷ done ∷ []) 0
  pub at : Unstopped (done ∷ too_large ∷ done ∷ []) 1 → ⊥
  pub behind : Unstopped (done ∷ too_large ∷ done ∷ []) 2 → ⊥
  -- the same answer is alike; a text that is cut, and B's of any capacity
  pub same : (a : Answer) → Like 3 5 a a
  pub cut : Alike 3 5 (ascii "abc") (ascii "abcde")
  pub cut_twice : Alike 3 5 (ascii "abc") (ascii "abcd")
  -- another text, one that is cut elsewhere, one that is not cut, another answer, another answer's bytes
  pub other_text : Alike 3 5 (ascii "abd") (ascii "abcde") → ⊥
  pub cut_early : Alike 3 5 (ascii "ab") (ascii "abcde") → ⊥
  pub not_cut : Alike 3 3 (ascii "abc") (ascii "abcd") → ⊥
  pub other_answer : Like 3 5 (fail (ascii "abc")) done → ⊥
  pub other_chunk : Like 3 5 (chunk (ascii "abc")) (chunk (ascii "abcde")) → ⊥
