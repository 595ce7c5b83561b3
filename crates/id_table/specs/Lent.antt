-- Settings as they are lent. Assumes nothing.
use Rattle.std.specs.Prelude.{ℕ}
use Rattle.ids.specs.declared.Ids.{Ids as Table}

-- the ids that their table has, or the number of why they have none
pub data Lent : Type 0 where
  Ids : Table → Lent
  Refused : ℕ → Lent
