-- Files and lines determine each other. Assumes nothing.
use Rattle.std.specs.Prelude.{ℕ, ◌<◌, false, List, [], ◌∷◌, ◌++◌, ◌≡◌, length}
use Rattle.std.proofs.Math.Option.{none, some}
use Rattle.protocol.specs.Bytes.{has}
use Rattle.text_lines.specs.Lines.{comma, line_end, file_of, lines_of}

-- P of every element
abbrev pub Every : {A : Type 0} → (A → Type 0) → List A → Type 0
Every P [] = Unit {0}
Every P (x ∷ xs) = P x × Every P xs

-- a field has neither a comma nor byte 10 in it
pub record Field (f : List ℕ) : Type 0 where
  pub no_comma : has comma f ≡ false
  pub no_end : has line_end f ≡ false

-- a line has a field, and only such
pub record Line (l : List (List ℕ)) : Type 0 where
  pub some : 0 < length l
  pub fields : Every Field l

pub record TextLines : Type 0 where
  -- the lines that were written are read back
  pub back : (ls : List (List (List ℕ))) → Every Line ls → lines_of (file_of ls) ≡ some ls
  -- whatever is read is the file of its lines
  pub whole : (f : List ℕ) (ls : List (List (List ℕ))) → lines_of f ≡ some ls → file_of ls ≡ f
  pub lines : (f : List ℕ) (ls : List (List (List ℕ))) → lines_of f ≡ some ls → Every Line ls
  -- a text is read where it is empty or its last byte is 10, and only there
  pub empty : lines_of [] ≡ some []
  pub ended : (s : List ℕ) → (ls : List (List (List ℕ))) × (lines_of (s ++ line_end ∷ []) ≡ some ls)
  pub unended : (s : List ℕ) (b : ℕ) → (b ≡ line_end → ⊥) → lines_of (s ++ b ∷ []) ≡ none
