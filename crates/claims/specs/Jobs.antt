-- Three entries of a listing as replies that a host is told, and what an index beside it answers: a at 5, b at 3, c at 5 (the trials of
-- document 02, [1]).
-- Assumes nothing.
use Rattle.std.specs.Prelude.{ℕ, List, [], ◌∷◌, ◌++◌, pos, replicate}
use Prim.Native.String.{String}
use Rattle.protocol.specs.Answers as A
use Rattle.protocol.specs.Answers.{Answer}
use Rattle.protocol.specs.Bytes.{ascii}
use Rattle.time_index.specs.Claim.{Tell}
use Rattle.time_index.specs.Index.{Item, item}

-- an entry of v1: kind, start and length of the name, mode, size, mtime, a number each
abbrev word : ℕ → List ℕ
word n = n ∷ 0 ∷ 0 ∷ 0 ∷ 0 ∷ 0 ∷ 0 ∷ 0 ∷ []

abbrev pub reply : (mtime : ℕ) → List ℕ
reply t = word 4 ++ word 2 ++ word 1 ++ word 128 ++ word 98 ++ word t ++ replicate 72 7

abbrev tell : (mtime : ℕ) → (rx : String) → Tell
tell t rx = record { told = 0; reply = reply t; rx = ascii rx; msg = [] }

abbrev entry : (mtime : ℕ) → (name : String) → Answer
entry t name = A.entry (record { mode = 128; size = 98; mtime = t }) (ascii name)

abbrev pub told : List Tell
told = tell 5 "xxa" ∷ tell 3 "xxbx" ∷ tell 5 "xxcxx" ∷ []

abbrev pub entries : List Answer
entries = entry 5 "a" ∷ entry 3 "b" ∷ entry 5 "c" ∷ []

abbrev pub area : List ℕ
area = replicate 9 46

abbrev pub a : Item
a = item 0 (pos 5) (ascii "a")

abbrev pub b : Item
b = item 1 (pos 3) (ascii "b")

abbrev pub c : Item
c = item 2 (pos 5) (ascii "c")
