-- The refusals 6 to 10 as one table: a call beside what the documents answer, at a longest path of three bytes. "The written order becomes
-- 1, 2, then 3, 6, 4, 5, 8, 7, 9, 10" (document 02, [6]). `proofs/Refusals.antt` shows that `refusal` gives these answers. Then what holds of
-- every path.
-- Assumes nothing.
use Rattle.std.specs.Prelude.{ℕ, ◌≤◌, ◌<◌, Bool, true, false, not, List, [], ◌∷◌, ◌++◌, map, ◌≡◌, length, replicate}
use Rattle.std.proofs.Math.Option.{Option, none, some}
use Rattle.protocol.specs.Answers.{Answer, refused, missing}
use Rattle.protocol.specs.Bytes.{ascii, has}
use Rattle.protocol.specs.Calls.{Call, call, next_entry, next_chunk, v1, v2}
use Rattle.protocol.specs.Refusal.{Setting, is_none, path_refusal, refusal}
use Rattle.protocol.specs.Ids.{Dialect, letters}
use Rattle.protocol.specs.Messages.{stat, sta2, list, lis2, recv, Request, ask, rcv2, send, snd2, chunk, done, quit}
use Rattle.protocol.specs.Requests.{bad_path}

-- the numbers of the features that are there, whether the session has ended, the call, its refusal
pub record Row : Type 0 where
  pub features : List ℕ
  pub ended : Bool
  pub made : Call
  pub paper : Option Answer

abbrev pub setting_at : Row → Setting
setting_at r =
    record {
      dialect = record { bytes = letters; longest = 3 };
      features = map (λ n. has n r.features) (1 ∷ 2 ∷ 3 ∷ 4 ∷ 5 ∷ 6 ∷ 7 ∷ []);
      ended = r.ended;
    }

abbrev row : List ℕ → Request → Option Answer → Row
row features q a = record { features = features; ended = false; made = call q; paper = a }

-- the same answer to some requests, with no feature there
abbrev each : Option Answer → List Request → List Row
each a qs = map (λ q. row [] q a) qs

-- every request with a path, with this mode and these flags
abbrev pub with_path : (mode flags : ℕ) → List ℕ → List Request
with_path m f p = ask stat p ∷ ask sta2 p ∷ ask list p ∷ ask lis2 p ∷ ask recv p ∷ rcv2 p f ∷ send p m ∷ snd2 p m f ∷ []

-- .. and flags that are refused
abbrev misflagged : List ℕ → List Request
misflagged p = with_path 0 3 p

-- 8 before 7, 7 before 9, 9 before 10
abbrev paths : List Row
paths =
    each none (ask stat (ascii "/ab") ∷ ask list (ascii "/ab") ∷ ask recv (ascii "/ab") ∷ send (ascii "/ab") 0 ∷ [])
    -- a NUL in a path that is not too long, and in one that is: before the limit, first behind it, far behind it
    ++ each (some (refused 8)) (misflagged (0 ∷ []))
    ++ each (some (refused 8)) (misflagged (ascii "/a" ++ 0 ∷ []))
    ++ each (some (refused 8)) (misflagged (0 ∷ ascii "abc"))
    ++ each (some (refused 8)) (misflagged (ascii "/ab" ++ 0 ∷ []))
    ++ each (some (refused 8)) (misflagged (ascii "/abcdefg" ++ 0 ∷ ascii "h"))
    ++ each (some (refused 7)) (misflagged (ascii "/abc"))
    ++ each (some (refused 9)) (rcv2 [] 3 ∷ snd2 [] 0 3 ∷ rcv2 [] 8 ∷ snd2 [] 0 8 ∷ rcv2 [] 0x8000_0000 ∷ [])
    ++ each none (chunk (0 ∷ ascii "abc") ∷ done 0 ∷ quit ∷ [])

-- a pull and a push with these flags
abbrev both : List ℕ → (flags : ℕ) → Option Answer → List Row
both features f a = row features (rcv2 [] f) a ∷ row features (snd2 [] 7 f) a ∷ []

-- 10, "with its number: 3 first, then 4, 5, 6, 7"; the flags Brotli 1, LZ4 2, Zstd 4 and the dry run each want their own
abbrev features : List Row
features =
    both [] 0 (some (missing 3))
    ++ both (1 ∷ 2 ∷ 4 ∷ 5 ∷ 6 ∷ 7 ∷ []) 1 (some (missing 3))
    ++ both (3 ∷ []) 0 none
    ++ both (3 ∷ 5 ∷ 6 ∷ 7 ∷ []) 1 (some (missing 4))
    ++ both (3 ∷ 4 ∷ 6 ∷ 7 ∷ []) 2 (some (missing 5))
    ++ both (3 ∷ 4 ∷ 5 ∷ 7 ∷ []) 4 (some (missing 6))
    ++ both (3 ∷ 4 ∷ []) 1 none
    ++ both (3 ∷ 5 ∷ []) 2 none
    ++ both (3 ∷ 6 ∷ []) 4 none
    ++ row (3 ∷ 7 ∷ []) (rcv2 [] 0x8000_0000) (some (refused 9))
    ∷ row (3 ∷ 7 ∷ []) (snd2 [] 0 0x8000_0000) none
    ∷ row (3 ∷ 4 ∷ 5 ∷ 6 ∷ []) (snd2 [] 0 0x8000_0000) (some (missing 7))
    ∷ row [] (snd2 [] 0 0x8000_0001) (some (missing 3))
    ∷ row (3 ∷ 7 ∷ []) (snd2 [] 0 0x8000_0001) (some (missing 4))
    ∷ row (3 ∷ 7 ∷ []) (snd2 [] 0 0x8000_0004) (some (missing 6))
    ∷ row (3 ∷ 4 ∷ []) (snd2 [] 0 0x8000_0001) (some (missing 7))
    ∷ row (2 ∷ 3 ∷ 4 ∷ 5 ∷ 6 ∷ 7 ∷ []) (ask sta2 []) (some (missing 1))
    ∷ row (1 ∷ []) (ask sta2 []) none
    ∷ row (1 ∷ 3 ∷ 4 ∷ 5 ∷ 6 ∷ 7 ∷ []) (ask lis2 []) (some (missing 2))
    ∷ row (2 ∷ []) (ask lis2 []) none
    ∷ []

-- the steps of a listing and of a pull: only 6
abbrev steps : List Row
steps = map (λ q. record { features = []; ended = false; made = q; paper = none }) (next_entry v1 ∷ next_entry v2 ∷ next_chunk ∷ [])

-- after quit: 6 before all else
abbrev late : List Row
late =
    map (λ q. record { features = []; ended = true; made = q; paper = some (refused 6) })
    (map call (misflagged (0 ∷ ascii "abc") ++ misflagged (ascii "/abc")) ++ call (ask stat []) ∷ call (chunk []) ∷ call (done 0) ∷ call quit ∷ next_entry v1 ∷ next_entry v2 ∷ next_chunk ∷ [])

abbrev pub rows : List Row
rows = paths ++ features ++ steps ++ late

-- ---- every path, in every request that has one, whatever the limit, the mode, the flags and the features

-- what a session that has not ended answers to some requests
abbrev pub answers : Dialect → (features : List Bool) → List Request → List (Option Answer)
answers d has qs = map (λ q. refusal (record { dialect = d; features = has; ended = false }) (call q)) qs

-- any byte but NUL
abbrev pub NoNul : List ℕ → Type 0
NoNul [] = Unit {0}
NoNul (b ∷ p) = (0 < b) × NoNul p

pub record PathsRefused : Type 0 where
  -- "A path over 1,024 bytes with a NUL gave 7 and now gives 8": wherever the NUL lies, however long the path is
  pub nul : (d : Dialect) (has : List Bool) (m f : ℕ) (before behind : List ℕ)
      → answers d has (with_path m f (before ++ 0 ∷ behind)) ≡ replicate 8 (some (refused 8))
  -- 7 for a longer path without one
  pub over : (d : Dialect) (has : List Bool) (m f : ℕ) (p : List ℕ) → NoNul p → d.longest < length p
      → answers d has (with_path m f p) ≡ replicate 8 (some (refused 7))
  -- any other path is answered as an empty one, whatever bytes it has
  pub fits : (d : Dialect) (has : List Bool) (m f : ℕ) (p : List ℕ) → NoNul p → length p ≤ d.longest
      → answers d has (with_path m f p) ≡ answers d has (with_path m f [])
  -- the request reader's test of a path, 18 either way, holds of the same paths
  pub reader : (d : Dialect) (p : List ℕ) → bad_path d p ≡ not (is_none (path_refusal d p))
