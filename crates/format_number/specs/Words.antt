-- Numbers in eight bytes each, one behind the other. Assumes nothing.
use Rattle.std.specs.Prelude.{ℕ, List, [], ◌∷◌, ◌++◌}
use Rattle.protocol.specs.Bytes.{bytes_of}

-- numbers in eight bytes each
abbrev pub words : List ℕ → List ℕ
words [] = []
words (n ∷ ns) = bytes_of 8 n ++ words ns
