-- The features of a banner: "Find the first "features="; split what follows at each comma or semicolon; present if some piece
-- equals the name. Absent marker: no." (document 01, features.rs).
-- Assumes nothing.
use Rattle.std.specs.Prelude.{ℕ, Bool, false, ◌||◌, List, [], ◌∷◌, ◌++◌, eqb, length, take, drop}
use Rattle.std.proofs.Math.Option.{Option, none, some}
use Rattle.protocol.specs.Bytes.{pick, ascii, same}

abbrev pub marker : List ℕ
marker = ascii "features="

-- what follows the first place where a list begins with m
unfoldable pub rest_after : List ℕ → List ℕ → Option (List ℕ)
rest_after m [] = pick (same m []) (some []) none
rest_after m (b ∷ s) = pick (same (take (length m) (b ∷ s)) m) (some (drop (length m) (b ∷ s))) (rest_after m s)

-- a comma or a semicolon
abbrev pub separator : ℕ → Bool
separator b = eqb b 44 || eqb b 59

-- a list cut at each separator, with `piece` read so far
unfoldable pub split : List ℕ → List ℕ → List (List ℕ)
split piece [] = piece ∷ []
split piece (b ∷ s) = pick (separator b) (piece ∷ split [] s) (split (piece ++ b ∷ []) s)

-- whether some piece is the name
abbrev pub some_is : List ℕ → List (List ℕ) → Bool
some_is name [] = false
some_is name (p ∷ ps) = same p name || some_is name ps

abbrev pub in_pieces : List ℕ → Option (List ℕ) → Bool
in_pieces name none = false
in_pieces name (some s) = some_is name (split [] s)

unfoldable pub has_feature : List ℕ → List ℕ → Bool
has_feature banner name = in_pieces name (rest_after marker banner)

-- The session numbers its features 1 to 7, in this order.
abbrev pub names : List (List ℕ)
names =
    ascii "stat_v2" ∷ ascii "ls_v2" ∷ ascii "sendrecv_v2"
    ∷ ascii "sendrecv_v2_brotli" ∷ ascii "sendrecv_v2_lz4" ∷ ascii "sendrecv_v2_zstd"
    ∷ ascii "sendrecv_v2_dry_run_send"
    ∷ []

-- which of them a banner has, in their order
abbrev pub has_each : List ℕ → List (List ℕ) → List Bool
has_each banner [] = []
has_each banner (n ∷ ns) = has_feature banner n ∷ has_each banner ns

unfoldable pub features_of : List ℕ → List Bool
features_of banner = has_each banner names
