-- Slots by the numbers that the code has read of them. Assumes nothing.
use Rattle.std.specs.Prelude.{ℕ, List, ◌≡◌, length}
use Rattle.time_index.specs.Slots.{slots_size, count_in, used_in}

pub record Standing (s : List ℕ) (n used : ℕ) : Type 0 where
  pub size : length s ≡ slots_size
  pub count : n ≡ count_in s
  pub names : used ≡ used_in s
