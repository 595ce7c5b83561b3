-- What a call answers, and document 01's number for each answer ("Answers, by who can cause them").
-- Assumes nothing.
use Rattle.std.specs.Prelude.{ℕ, List, [], ◌∷◌, ℤ, pos}
use Rattle.protocol.specs.Records.{Stat, Stat2}

-- what the link can come to: 12 channel closed, or 13 another error, with the host's code
pub data End : Type 0 where
  closed : End
  error : (code : ℕ) → End

pub data Answer : Type 0 where
  -- a call that went through: done, the end of a listing or a transfer, a stat, an entry with its name, a chunk of data
  done end : Answer
  stat : Stat → Answer
  stat2 : Stat2 → Answer
  entry : Stat → (name : List ℕ) → Answer
  entry2 : Stat2 → (name : List ℕ) → Answer
  chunk : List ℕ → Answer
  -- the caller: 1 to 9 and 11, and what document 02 adds to them, 25 of a call among these; 10 with the number of the missing feature
  refused : (number : ℕ) → Answer
  missing : (feature : ℕ) → Answer
  -- the link
  broken : End → Answer
  -- the panel: 14 with the text, 15 with the id's bytes, 16 with the errno, 17
  fail : (text : List ℕ) → Answer
  unexpected : (id : List ℕ) → Answer
  errno : (code : ℕ) → Answer
  too_large : Answer

-- document 01's number; 0 for a call that went through
abbrev pub number : Answer → ℕ
number done = 0
number end = 0
number (stat s) = 0
number (stat2 s) = 0
number (entry s name) = 0
number (entry2 s name) = 0
number (chunk b) = 0
number (refused n) = n
number (missing f) = 10
number (broken closed) = 12
number (broken (error c)) = 13
number (fail t) = 14
number (unexpected i) = 15
number (errno c) = 16
number too_large = 17

-- "The caller. Session and lent bytes unchanged": the numbers of these refusals
abbrev pub callers : List ℕ
callers = 1 ∷ 2 ∷ 3 ∷ 4 ∷ 5 ∷ 6 ∷ 7 ∷ 8 ∷ 9 ∷ 10 ∷ 11 ∷ []

-- the numbers that a record carries, in the order of its offsets
abbrev pub stat_numbers : Stat → List ℤ
stat_numbers s = pos s.mode ∷ pos s.size ∷ pos s.mtime ∷ []

abbrev pub stat2_numbers : Stat2 → List ℤ
stat2_numbers s =
    pos s.error ∷ pos s.dev ∷ pos s.ino ∷ pos s.mode ∷ pos s.nlink ∷ pos s.uid ∷ pos s.gid ∷ pos s.size
    ∷ s.atime ∷ s.mtime ∷ s.ctime
    ∷ []

-- the numbers that an answer carries
abbrev pub numbers : Answer → List ℤ
numbers done = []
numbers end = []
numbers (stat s) = stat_numbers s
numbers (stat2 s) = stat2_numbers s
numbers (entry s name) = stat_numbers s
numbers (entry2 s name) = stat2_numbers s
numbers (chunk b) = []
numbers (refused n) = []
numbers (missing f) = pos f ∷ []
numbers (broken closed) = []
numbers (broken (error c)) = pos c ∷ []
numbers (fail t) = []
numbers (unexpected i) = []
numbers (errno c) = pos c ∷ []
numbers too_large = []

-- the bytes that an answer carries: a name, a chunk, a FAIL's text, an id
abbrev pub bytes : Answer → List ℕ
bytes done = []
bytes end = []
bytes (stat s) = []
bytes (stat2 s) = []
bytes (entry s name) = name
bytes (entry2 s name) = name
bytes (chunk b) = b
bytes (refused n) = []
bytes (missing f) = []
bytes (broken e) = []
bytes (fail t) = t
bytes (unexpected i) = i
bytes (errno c) = []
bytes too_large = []
