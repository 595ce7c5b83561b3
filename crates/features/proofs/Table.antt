-- The names of the features as the code keeps them: one beginning, and a table of tails by number. `Names.antt` shows that they are the
-- protocol's seven.
-- Assumes nothing.
use mathlib.Core.List.{List, [], ◌∷◌, ◌++◌}
use Prim.Native.Nat.{ℕ, ◌-◌}
use lib.Dec.{leb}
use lib.ListN.{get_or, take, drop}
use Rattle.protocol.specs.Bytes.{pick, ascii}

abbrev pub beginning : List ℕ
beginning = ascii "sendrecv_v2"

abbrev pub tails : List ℕ
tails = ascii "stat_v2ls_v2_brotli_lz4_zstd_dry_run_send"

abbrev pub ends : List ℕ
ends = 0 ∷ 7 ∷ 12 ∷ 12 ∷ 19 ∷ 23 ∷ 28 ∷ 41 ∷ []

-- the tail of feature n
abbrev pub tail_of : ℕ → List ℕ
tail_of n = take (get_or ends n 0 - get_or ends (n - 1) 0) (drop (get_or ends (n - 1) 0) tails)

-- its name: from the third on the beginning stands before the tail
abbrev pub built : ℕ → List ℕ
built n = pick (leb 3 n) beginning [] ++ tail_of n
