-- Facts on the answers: document 01's number for each ("Answers, by who can cause them"), and the numbers and bytes that it carries
-- ("a stat or entry answers its numbers at the offsets above, an entry also its name; a chunk its bytes", "10 missing feature, with its number",
-- "13 another error, with the host's 32-bit code", "14 FAIL text, 15 unexpected id, 16 errno"); and on single flags.
-- Assumes nothing.
use Rattle.std.specs.Prelude.{ℕ, ◌^◌, Bool, true, false, List, [], ◌∷◌, ◌++◌, map, ℤ, pos, negsuc, replicate}
use Rattle.protocol.specs.Answers as A
use Rattle.protocol.specs.Answers.{Answer, closed, error, number, numbers, bytes}
use Rattle.protocol.specs.Bytes.{ascii}
use Rattle.protocol.specs.Fact.{Fact}
use Rattle.protocol.specs.Flags.{refused_flags}
use Rattle.protocol.specs.Records.{Stat, Stat2}
use Rattle.protocol.specs.Replies.{counting}

-- what is told of an answer
pub record Told : Type 0 where
  pub number : ℕ
  pub numbers : List ℤ
  pub bytes : List ℕ

abbrev row : Answer → ℕ → List ℤ → List ℕ → Fact Told
row a n ns b = record { computed = record { number = number a; numbers = numbers a; bytes = bytes a }; paper = record { number = n; numbers = ns; bytes = b } }

abbrev a_stat : Stat
a_stat = record { mode = 1; size = 2; mtime = 3 }

abbrev a_stat2 : Stat2
a_stat2 = record { error = 1; dev = 2; ino = 3; mode = 4; nlink = 5; uid = 6; gid = 7; size = 8; atime = pos 9; mtime = negsuc 10; ctime = pos 11 }

abbrev eleven : List ℤ
eleven = pos 1 ∷ pos 2 ∷ pos 3 ∷ pos 4 ∷ pos 5 ∷ pos 6 ∷ pos 7 ∷ pos 8 ∷ pos 9 ∷ negsuc 10 ∷ pos 11 ∷ []

abbrev pub told : List (Fact Told)
told =
    row A.done 0 [] []
    ∷ row A.end 0 [] []
    ∷ row (A.stat a_stat) 0 (pos 1 ∷ pos 2 ∷ pos 3 ∷ []) []
    ∷ row (A.stat2 a_stat2) 0 eleven []
    ∷ row (A.entry a_stat (ascii "T98")) 0 (pos 1 ∷ pos 2 ∷ pos 3 ∷ []) (ascii "T98")
    ∷ row (A.entry2 a_stat2 (ascii "T98")) 0 eleven (ascii "T98")
    ∷ row (A.chunk (ascii "T98")) 0 [] (ascii "T98")
    ∷ row (A.missing 5) 10 (pos 5 ∷ []) []
    ∷ row (A.broken closed) 12 [] []
    ∷ row (A.broken (error 5)) 13 (pos 5 ∷ []) []
    ∷ row (A.fail (ascii "no!")) 14 [] (ascii "no!")
    ∷ row (A.unexpected (ascii "OKAY")) 15 [] (ascii "OKAY")
    ∷ row (A.errno 5) 16 (pos 5 ∷ []) []
    ∷ row A.too_large 17 [] []
    ∷ map (λ n. row (A.refused n) n [] []) (1 ∷ 2 ∷ 3 ∷ 4 ∷ 5 ∷ 6 ∷ 7 ∷ 8 ∷ 9 ∷ 11 ∷ 21 ∷ [])

-- ---- "9 flags: DRY_RUN on RCV2, a bit outside hexadecimal 80000007 (added), or more than one of the bits 1, 2 and 4 is set"

abbrev refusals : (pull : Bool) → (words : List ℕ) → List Bool → Fact (List Bool)
refusals pull words bs = record { computed = map (refused_flags pull) words; paper = bs }

-- the 32 words of a single bit, the words of the three low ones, and a dry run beside each of those
abbrev pub words : List (Fact (List Bool))
words =
    refusals false (map (λ i. 2 ^ i) (counting 0 32)) (replicate 3 false ++ replicate 28 true ++ false ∷ [])
    ∷ refusals true (map (λ i. 2 ^ i) (counting 0 32)) (replicate 3 false ++ replicate 28 true ++ true ∷ [])
    ∷ refusals false (counting 0 8) (false ∷ false ∷ false ∷ true ∷ false ∷ true ∷ true ∷ true ∷ [])
    ∷ refusals true (counting 0 8) (false ∷ false ∷ false ∷ true ∷ false ∷ true ∷ true ∷ true ∷ [])
    ∷ refusals false (counting 0x8000_0000 8) (false ∷ false ∷ false ∷ true ∷ false ∷ true ∷ true ∷ true ∷ [])
    ∷ refusals true (counting 0x8000_0000 8) (replicate 8 true)
    ∷ []
