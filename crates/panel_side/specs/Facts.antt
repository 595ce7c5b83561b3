-- Facts on reading back, by hand from document 02, [4]: "a capacity that holds the largest record, name, FAIL text or DATA message"; "of a v2 stat
-- with a nonzero error it reads that error, as 16"; an entry with one is still an entry (document 01).
-- Assumes nothing.
use Rattle.std.specs.Prelude.{ℕ, List, [], ◌∷◌, pos, replicate}
use Rattle.protocol.specs.Answers as A
use Rattle.protocol.specs.Answers.{Answer}
use Rattle.protocol.specs.Bytes.{ascii}
use Rattle.protocol.specs.Calls.{v1, v2}
use Rattle.protocol.specs.Fact.{Fact}
use Rattle.protocol.specs.Records.{Stat2}
use Rattle.panel_reply.specs.Facts.{file}
use Rattle.panel_reply.specs.Replies.{stat, stat2, entry, entry2, listing_end, chunk, transfer_end, okay, fail}
use Rattle.panel_side.specs.ReadBack.{read_as, capacity_for}

abbrev row : {A : Type 0} → A → A → Fact A
row c p = record { computed = c; paper = p }

abbrev file2 : (error : ℕ) → Stat2
file2 e = record { error = e; dev = 1; ino = 2; mode = 33188; nlink = 1; uid = 3; gid = 4; size = 1998; atime = pos 6; mtime = pos 5; ctime = pos 7 }

-- record, name, text and message, each by itself; an entry is 20 or 76 bytes without its name, a DATA message 8 bytes and its data
abbrev pub capacities : List (Fact ℕ)
capacities =
    row (capacity_for (stat file)) 16
    ∷ row (capacity_for (stat2 (file2 0))) 72
    ∷ row (capacity_for (entry file (ascii "T98"))) 20
    ∷ row (capacity_for (entry file (replicate 20 97))) 20
    ∷ row (capacity_for (entry file (replicate 30 97))) 30
    ∷ row (capacity_for (entry2 (file2 0) (replicate 30 97))) 76
    ∷ row (capacity_for (entry2 (file2 0) (replicate 77 97))) 77
    ∷ row (capacity_for (listing_end v1)) 20
    ∷ row (capacity_for (listing_end v2)) 76
    ∷ row (capacity_for (chunk [])) 8
    ∷ row (capacity_for (chunk (ascii "T98"))) 11
    ∷ row (capacity_for transfer_end) 8
    ∷ row (capacity_for okay) 8
    ∷ row (capacity_for (fail (ascii "no"))) 2
    ∷ row (capacity_for (fail (replicate 30 97))) 30
    ∷ []

abbrev pub answers : List (Fact Answer)
answers =
    row (read_as (stat file)) (A.stat file)
    ∷ row (read_as (stat2 (file2 0))) (A.stat2 (file2 0))
    ∷ row (read_as (stat2 (file2 2))) (A.errno 2)
    ∷ row (read_as (stat2 (file2 0x8000_0000))) (A.errno 0x8000_0000)
    ∷ row (read_as (entry file (ascii "T98"))) (A.entry file (ascii "T98"))
    ∷ row (read_as (entry2 (file2 2) (ascii "T98"))) (A.entry2 (file2 2) (ascii "T98"))
    ∷ row (read_as (listing_end v1)) A.end
    ∷ row (read_as (listing_end v2)) A.end
    ∷ row (read_as (chunk (ascii "T98"))) (A.chunk (ascii "T98"))
    ∷ row (read_as transfer_end) A.end
    ∷ row (read_as okay) A.done
    ∷ row (read_as (fail (ascii "no"))) (A.fail (ascii "no"))
    ∷ []
