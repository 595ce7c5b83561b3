-- Facts on lines, by hand. Document 02, [9]: "joined by commas", "lines end with byte 10". Assumes nothing.
use Rattle.std.specs.Prelude.{ℕ, List, [], ◌∷◌, ◌++◌}
use Rattle.std.proofs.Math.Option.{Option, none, some}
use Rattle.protocol.specs.Bytes.{ascii}
use Rattle.protocol.specs.Fact.{Fact}
use Rattle.text_lines.specs.Lines.{file_of, lines_of}

abbrev row : List ℕ → Option (List (List (List ℕ))) → Fact (Option (List (List (List ℕ))))
row s ls = record { computed = lines_of s; paper = ls }

abbrev pub reading : List (Fact (Option (List (List (List ℕ)))))
reading =
    -- no line; an empty line has one field, an empty one
    row [] (some [])
    ∷ row (10 ∷ []) (some (([] ∷ []) ∷ []))
    ∷ row (10 ∷ 10 ∷ []) (some (([] ∷ []) ∷ ([] ∷ []) ∷ []))
    -- one field, two, empty ones
    ∷ row (97 ∷ 98 ∷ 10 ∷ []) (some (((97 ∷ 98 ∷ []) ∷ []) ∷ []))
    ∷ row (97 ∷ 44 ∷ 98 ∷ 10 ∷ []) (some (((97 ∷ []) ∷ (98 ∷ []) ∷ []) ∷ []))
    ∷ row (44 ∷ 10 ∷ []) (some (([] ∷ [] ∷ []) ∷ []))
    ∷ row (97 ∷ 44 ∷ 44 ∷ 98 ∷ 10 ∷ []) (some (((97 ∷ []) ∷ [] ∷ (98 ∷ []) ∷ []) ∷ []))
    ∷ row (97 ∷ 44 ∷ 10 ∷ 44 ∷ 98 ∷ 10 ∷ []) (some (((97 ∷ []) ∷ [] ∷ []) ∷ ([] ∷ (98 ∷ []) ∷ []) ∷ []))
    -- every other byte stands for itself: blanks, CR, NUL, 255
    ∷ row (97 ∷ 44 ∷ 32 ∷ 98 ∷ 13 ∷ 10 ∷ []) (some (((97 ∷ []) ∷ (32 ∷ 98 ∷ 13 ∷ []) ∷ []) ∷ []))
    ∷ row (0 ∷ 255 ∷ 10 ∷ []) (some (((0 ∷ 255 ∷ []) ∷ []) ∷ []))
    -- the last byte is not 10
    ∷ row (97 ∷ []) none
    ∷ row (44 ∷ []) none
    ∷ row (13 ∷ []) none
    ∷ row (97 ∷ 10 ∷ 98 ∷ []) none
    ∷ row (97 ∷ 10 ∷ 10 ∷ 32 ∷ []) none
    -- an hours file ([10])
    ∷ row (ascii "day,open,close" ++ 10 ∷ ascii "0,480,1020" ++ 10 ∷ [])
    (some ((ascii "day" ∷ ascii "open" ∷ ascii "close" ∷ []) ∷ (ascii "0" ∷ ascii "480" ∷ ascii "1020" ∷ []) ∷ []))
    ∷ []

abbrev pub writing : List (Fact (List ℕ))
writing =
    record { computed = file_of []; paper = [] }
    ∷ record { computed = file_of (((97 ∷ []) ∷ (98 ∷ []) ∷ []) ∷ ((99 ∷ 100 ∷ []) ∷ []) ∷ []); paper = 97 ∷ 44 ∷ 98 ∷ 10 ∷ 99 ∷ 100 ∷ 10 ∷ [] }
    ∷ record { computed = file_of (([] ∷ [] ∷ []) ∷ ([] ∷ []) ∷ []); paper = 44 ∷ 10 ∷ 10 ∷ [] }
    ∷ []
