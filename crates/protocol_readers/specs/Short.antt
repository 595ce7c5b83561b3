-- What it says that a plain reader fell short. Assumes nothing.
use Rattle.std.specs.Prelude.{ℕ, ◌≤◌, ◌<◌, List, ◌≡◌, length, drop}
use Rattle.protocol.specs.Reader.{Result, ended, short}

-- It needs n, which is within the capacity c, and fewer are unread: v, the last of the bytes u that it was given.
pub record Lacks (c n : ℕ) (u v : List ℕ) : Type 0 where
  pub fits : n ≤ c
  pub fewer : length v < n
  pub dropped : ℕ
  pub last : v ≡ drop dropped u

abbrev pub ShortAt : ℕ → List ℕ → Result → Type 0
ShortAt c u (ended a v) = Unit {0}
ShortAt c u (short n v) = Lacks c n u v
