-- How many bytes are put, if they fit. Assumes nothing.
use Rattle.std.specs.Prelude.{ℕ, ◌+◌, List, leb, length, Option, Some, None}
use Rattle.protocol.specs.Bytes.{pick}

-- the bytes m, from at on in b
unfoldable pub fitted : (b : List ℕ) (at : ℕ) (m : List ℕ) → Option ℕ
fitted b at m = pick (leb (at + length m) (length b)) (Some (length m)) None
