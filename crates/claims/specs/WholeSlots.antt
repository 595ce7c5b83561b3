-- Facts on whole slots, 65,568 bytes, by hand from document 02, [1] (time_index/specs/Facts has the others, on short ones).
-- Assumes nothing.
use Rattle.std.specs.Prelude.{ℕ, Bool, true, false, List, [], ◌∷◌, ◌++◌, pos, take, replicate}
use Rattle.protocol.specs.Bytes.{ascii}
use Rattle.protocol.specs.Fact.{Fact}
use Rattle.time_index.specs.Crossing.{cross_index_open, cross_index_between, cross_index_latest, cross_index_entry}
use Rattle.time_index.specs.Facts.{row, word, head, whole, three, out}
use Rattle.time_index.specs.Slots.{headed, is_index}

-- slots that hold an index, and slots that hold none: names or entries past their limit, another mark, another length
abbrev pub indexes : List (Fact Bool)
indexes =
    row (is_index (whole 4 9) 9) true
    ∷ row (is_index (whole 4 10) 9) false
    ∷ row (is_index (headed 70000 4 65536 ++ replicate 65536 0) 70000) true
    ∷ row (is_index (headed 70000 4 65537 ++ replicate 65536 0) 70000) false
    ∷ row (is_index (whole 4 9 ++ 0 ∷ []) 9) false
    ∷ row (is_index (ascii "yugindex" ++ word 9 ++ (1 ∷ 16 ∷ []) ++ replicate 6 0 ++ word 0 ++ replicate 65536 0) 9) false
    ∷ row (is_index (ascii "yugindez" ++ word 9 ++ word 0 ++ word 0 ++ replicate 65536 0) 9) false
    ∷ []

-- slots of another length are left alone; of the right one the first 32 bytes are written
abbrev pub opening : List (Fact (List ℕ × ℕ))
opening =
    row (cross_index_open (replicate 40 7) 9) (replicate 40 7, 3)
    ∷ row (take 40 (cross_index_open (replicate 65568 7) 9).0, (cross_index_open (replicate 65568 7) 9).1) (head 0 0 ++ replicate 8 7, 0)
    ∷ []

-- bb at 3, a at 5, c at 5, as they stand in whole slots beside an area of 9
abbrev three' : List ℕ
three' = three ++ replicate 65488 0

-- how many and the first rank; another area, too short a slice
abbrev pub asking : List (Fact (List ℕ × ℕ))
asking =
    row (cross_index_between three' 9 (pos 3) (pos 5) out) (word 3 ++ word 0 ++ replicate 104 46, 0)
    ∷ row (cross_index_between three' 9 (pos 5) (pos 4) out) (word 0 ++ word 1 ++ replicate 104 46, 0)
    ∷ row (cross_index_between three' 8 (pos 3) (pos 5) out) (out, 3)
    ∷ row (cross_index_between three' 9 (pos 3) (pos 5) (replicate 119 46)) (replicate 119 46, 3)
    ∷ row (cross_index_latest three' 9 (pos 5) out) (word 1 ++ word 1 ++ replicate 104 46, 0)
    ∷ row (cross_index_entry three' 9 0 out) (word 1 ++ word 1 ++ word 2 ++ word 1 ++ word 3 ++ replicate 80 46, 0)
    ∷ []
