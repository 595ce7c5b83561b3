-- Files of lines (document 02, [9]): fields "joined by commas", "lines end with byte 10". [10] and [12] have theirs so too.
-- Assumes nothing.
use Rattle.std.specs.Prelude.{ℕ, Bool, true, false, List, [], ◌∷◌, ◌++◌, eqb}
use Rattle.std.proofs.Math.Option.{Option, none, some}

abbrev pub comma : ℕ
comma = 44

abbrev pub line_end : ℕ
line_end = 10

-- some pieces, with a byte between each two
abbrev pub joined_by : ℕ → List (List ℕ) → List ℕ
joined_by b [] = []
joined_by b (p ∷ []) = p
joined_by b (p ∷ q ∷ ps) = p ++ b ∷ joined_by b (q ∷ ps)

-- a file: the fields of each line joined by commas, then byte 10
abbrev pub file_of : List (List (List ℕ)) → List ℕ
file_of [] = []
file_of (l ∷ ls) = joined_by comma l ++ line_end ∷ file_of ls

-- one byte in front of the pieces of a text: a cut, or the first byte of the first piece
abbrev pub in_front : (cut : Bool) → ℕ → List (List ℕ) → List (List ℕ)
in_front true x ps = [] ∷ ps
in_front false x [] = (x ∷ []) ∷ []
in_front false x (p ∷ ps) = (x ∷ p) ∷ ps

-- a text cut at each b: what stands before, between and behind them
abbrev pub cut_at : ℕ → List ℕ → List (List ℕ)
cut_at b [] = [] ∷ []
cut_at b (x ∷ s) = in_front (eqb x b) x (cut_at b s)

-- a line in front of others
abbrev pub and_line : List (List ℕ) → Option (List (List (List ℕ))) → Option (List (List (List ℕ)))
and_line l none = none
and_line l (some ls) = some (l ∷ ls)

-- the lines of a text that was cut at its bytes 10: behind the last of them nothing stands; each of the others is cut at its commas
abbrev pub ended : List (List ℕ) → Option (List (List (List ℕ)))
ended [] = none
ended ([] ∷ []) = some []
ended ((x ∷ p) ∷ []) = none
ended (p ∷ q ∷ ps) = and_line (cut_at comma p) (ended (q ∷ ps))

-- the fields of each line of a text; none where its last byte is not 10
unfoldable pub lines_of : List ℕ → Option (List (List (List ℕ)))
lines_of s = ended (cut_at line_end s)
