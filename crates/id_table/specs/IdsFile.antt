-- The file of ids (document 02, [9]): "a line with the fifteen published ids in the order of `SyncId::ALL`, joined by commas, then one line of
-- values in that order, each four bytes from 33 to 126, no comma; lines end with byte 10". "A file of another form is refused with 22 and one
-- with two equal values with 23, form first".
-- Assumes nothing.
use Rattle.std.specs.Prelude.{ℕ, Bool, true, false, ◌&&◌, ◌||◌, List, [], ◌∷◌, map, eqb, length}
use Rattle.std.proofs.Math.Option.{Option, none, some}
use Rattle.protocol.specs.Bytes.{pick, same}
use Rattle.protocol.specs.Features.{some_is}
use Rattle.protocol.specs.Ids.{all, letters, Table, is_value}
use Rattle.text_lines.specs.Lines.{file_of, lines_of}

-- how many ids there are
abbrev pub count : ℕ
count = 15

abbrev pub bad_form : ℕ
bad_form = 22

abbrev pub equal_values : ℕ
equal_values = 23

-- what is read: the values in the order of the ids, or the number of a refusal
pub data IdsRead : Type 0 where
  ids : (values : List (List ℕ)) → IdsRead
  refused : ℕ → IdsRead

abbrev pub are_values : List (List ℕ) → Bool
are_values [] = true
are_values (v ∷ vs) = is_value v && are_values vs

-- whether any two are equal
abbrev pub two_equal : List (List ℕ) → Bool
two_equal [] = false
two_equal (v ∷ vs) = some_is v vs || two_equal vs

-- fifteen values, no two of them equal; form first
unfoldable pub checked : List (List ℕ) → IdsRead
checked vs = pick (eqb (length vs) count && are_values vs) (pick (two_equal vs) (refused equal_values) (ids vs)) (refused bad_form)

-- the first line
abbrev pub heading : List (List ℕ)
heading = map letters all

abbrev pub same_all : List (List ℕ) → List (List ℕ) → Bool
same_all [] [] = true
same_all [] (q ∷ qs) = false
same_all (p ∷ ps) [] = false
same_all (p ∷ ps) (q ∷ qs) = same p q && same_all ps qs

abbrev pub two_lines : Option (List (List (List ℕ))) → IdsRead
two_lines none = refused bad_form
two_lines (some []) = refused bad_form
two_lines (some (first ∷ [])) = refused bad_form
two_lines (some (first ∷ values ∷ [])) = pick (same_all first heading) (checked values) (refused bad_form)
two_lines (some (first ∷ values ∷ l ∷ ls)) = refused bad_form

unfoldable pub ids_in : List ℕ → IdsRead
ids_in file = two_lines (lines_of file)

-- the file of some values, and that of a table
abbrev pub file_with : List (List ℕ) → List ℕ
file_with values = file_of (heading ∷ values ∷ [])

abbrev pub ids_file : Table → List ℕ
ids_file t = file_with (map t all)
