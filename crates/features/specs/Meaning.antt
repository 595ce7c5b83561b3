-- What the walk of a banner reads, and a `Features` as the protocol lists it. Assumes nothing.
use Rattle.std.specs.Prelude.{Bool, List, [], ◌∷◌, map, ◌≡◌, ℕ, eqb, leb, length, take, drop}
use Rattle.std.proofs.Math.Option.{Option, none, some}
use Rattle.protocol.specs.Bytes.{pick, same}
use Rattle.protocol.specs.Features.{split, names}
use Rattle.features.specs.declared.Feature.{Feature}
use Rattle.features.specs.declared.Feature.TheVariants.{StatV2, LsV2, SendRecvV2, Brotli, Lz4, Zstd, DryRunSend}
use Rattle.features.specs.declared.Features.{Features}

-- whether a list begins with the text
abbrev pub starts_with : (text s : List ℕ) → Bool
starts_with text s = same (take (length text) s) text

-- the pieces from a place on; none past the end
abbrev pub pieces_from : ℕ → List ℕ → List (List ℕ)
pieces_from i s = pick (leb i (length s)) (split [] (drop i s)) []

-- the pieces of the list that follows a marker; none where no marker is
abbrev pub pieces_behind : Option (List ℕ) → List (List ℕ)
pieces_behind none = []
pieces_behind (some s) = split [] s

-- the numbers of the features, in the order of their names
abbrev numbers : List ℕ
numbers = 1 ∷ 2 ∷ 3 ∷ 4 ∷ 5 ∷ 6 ∷ 7 ∷ []

-- p is the name of the feature of that number and of no other; of none where the number is 0
abbrev pub Named : (p : List ℕ) (number : ℕ) → Type 0
Named p number = map (same p) names ≡ map (eqb number) numbers

-- the features 1 to 7 in their order
abbrev pub listed : Features → List Bool
listed f = f.stat_v2 ∷ f.ls_v2 ∷ f.sendrecv_v2 ∷ f.brotli ∷ f.lz4 ∷ f.zstd ∷ f.dry_run_send ∷ []

abbrev pub feature_number : Feature → ℕ
feature_number StatV2 = 1
feature_number LsV2 = 2
feature_number SendRecvV2 = 3
feature_number Brotli = 4
feature_number Lz4 = 5
feature_number Zstd = 6
feature_number DryRunSend = 7
