-- Ids at places that are known beforehand: in a file, and in the settings. Assumes nothing.
use Rattle.std.specs.Prelude.{ℕ, zero, suc, Bool, true, ◌&&◌, List, [], ◌∷◌, eqb, length, get_or, take, drop}
use Rattle.text_lines.specs.Lines.{comma, line_end}
use Rattle.id_table.specs.IdsFile.{count, IdsRead, ids, refused, heading, same_all}

-- n times four bytes, each `step` bytes behind the ones before
unfoldable pub groups : (step n : ℕ) → List ℕ → List (List ℕ)
groups step zero s = []
groups step (suc n) s = take 4 s ∷ groups step n (drop step s)

-- n times four bytes and one more: a comma, at last byte 10
unfoldable pub marked : ℕ → List ℕ → Bool
marked zero s = true
marked (suc zero) s = eqb (get_or s 4 0) line_end
marked (suc (suc n)) s = eqb (get_or s 4 0) comma && marked (suc n) (drop 5 s)

-- a line of the file, and the file, in bytes
abbrev pub line_size : ℕ
line_size = 75

abbrev pub file_size : ℕ
file_size = 150

-- whether a file has the bytes between the ids where two lines of fifteen have them, and the heading
unfoldable pub formed : List ℕ → Bool
formed f = eqb (length f) file_size && marked count f && marked count (drop line_size f) && same_all (groups 5 count f) heading

-- the number that stands for what was read: 0 where nothing is refused
abbrev pub fault_of : IdsRead → ℕ
fault_of (ids vs) = 0
fault_of (refused n) = n
