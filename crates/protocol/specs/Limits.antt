-- Facts on the host's two limits. Paths: "The limit for paths becomes 1,024 in host and request reader alike .. Answer 7 moves with it"
-- (document 02, [2]), "path_length;  // <= 1024" (file_sync_protocol.h); "A path over 1,024 bytes with a NUL gave 7 and now gives 8" (document
-- 02, [6]). Data: "DATA keeps 65,536" (document 02, [2]), "Data goes in DATA messages of at most 65,536 bytes; empty data writes nothing",
-- "Data of 65,536: one message; 65,537: 65,536 and 1" (document 01), "Each chunk must not be larger than 64k" (SYNC.TXT). The request reader's
-- are in Received.
-- Assumes nothing.
use Rattle.std.specs.Prelude.{ℕ, ◌≤◌, ◌<◌, true, false, List, [], ◌∷◌, ◌++◌, map, ◌≡◌, length, replicate}
use Rattle.std.proofs.Math.Option.{Option, none, some}
use Rattle.protocol.specs.Answers.{Answer, refused}
use Rattle.protocol.specs.Bytes.{ascii}
use Rattle.protocol.specs.Calls.{call, messages}
use Rattle.protocol.specs.Fact.{Fact}
use Rattle.protocol.specs.Ids.{Table, under, published, STAT, SEND}
use Rattle.protocol.specs.Messages.{stat, ask, send, chunk}
use Rattle.protocol.specs.Reader.{Config, accepted, writes}
use Rattle.protocol.specs.Refusal.{path_refusal, refusal}
use Rattle.protocol.specs.Refusals.{with_path, answers, NoNul}

-- ---- a path in every request that has one, with these flags, where every feature is there

abbrev pub host : Table → Config
host t = record { setting = record { dialect = under t; features = replicate 7 true; ended = false }; capacity = 8; close = accepted }

abbrev answered : (flags : ℕ) → (path : List ℕ) → Option Answer → Fact (List (Option Answer))
answered f p a = record { computed = answers published (replicate 7 true) (with_path 33188 f p); paper = replicate 8 a }

-- n bytes, none of them NUL
abbrev of_length : ℕ → List ℕ
of_length n = replicate n 97

abbrev pub lengths : List (Fact (List (Option Answer)))
lengths =
    answered 4 [] none
    ∷ answered 4 (of_length 1024) none
    ∷ answered 4 (of_length 1025) (some (refused 7))
    -- 8 before 7, both before 9
    ∷ answered 4 (of_length 1024 ++ 0 ∷ []) (some (refused 8))
    ∷ answered 3 (of_length 1025) (some (refused 7))
    ∷ answered 3 (of_length 1025 ++ 0 ∷ []) (some (refused 8))
    ∷ answered 3 (0 ∷ []) (some (refused 8))
    ∷ []

-- ---- paths and data of every length, under any table

pub record Limits (t : Table) : Type 0 where
  pub path_fits : (p : List ℕ) → NoNul p → length p ≤ 1024 → path_refusal (under t) p ≡ none
  pub path_over : (p : List ℕ) → NoNul p → 1024 < length p → path_refusal (under t) p ≡ some (refused 7)
  -- the longest path goes out with its length; a SEND of it and of ten digits has the largest arg that is written, 1,035
  pub longest_asked : (p : List ℕ) → NoNul p → length p ≡ 1024 → writes (host t) (call (ask stat p)) ≡ (t STAT ++ 0 ∷ 4 ∷ 0 ∷ 0 ∷ []) ++ p
  pub longest_sent : (p : List ℕ) → NoNul p → length p ≡ 1024
      → writes (host t) (call (send p 4294967295)) ≡ (t SEND ++ 0x0b ∷ 4 ∷ 0 ∷ 0 ∷ []) ++ (p ++ ascii ",4294967295")
  -- of a longer one nothing does, in any request, with a NUL or without
  pub over_unwritten : (p : List ℕ) → 1024 < length p → map (λ q. writes (host t) (call q)) (with_path 33188 4 p) ≡ replicate 8 []
  -- data of any length is taken
  pub data_unrefused : (x : List ℕ) → refusal (host t).setting (call (chunk x)) ≡ none
  pub data_none : messages (call (chunk [])) ≡ []
  -- one message up to the limit
  pub data_one : (x : List ℕ) → 0 < length x → length x ≤ 65536 → messages (call (chunk x)) ≡ chunk x ∷ []
  -- beyond it, one of 65,536 bytes and then those of the rest
  pub data_more : (x rest : List ℕ) → length x ≡ 65536 → messages (call (chunk (x ++ rest))) ≡ chunk x ∷ messages (call (chunk rest))
