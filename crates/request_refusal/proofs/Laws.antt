-- Laws of `protocol`'s refusals that the proofs here and callers cite. Assumes nothing.
use mathlib.Core.Bool.{Bool, false, ◌&&◌, not}
use mathlib.Core.List.{List, ◌∷◌}
use mathlib.Core.Option.{Option, none, some}
use mathlib.Core.Path.{◌≡◌, refl}
use Prim.Native.Nat.{ℕ, zero, suc, ◌<◌}
use native.Mathlib.Nat.{not-suc-le-zero}
use native.Mathlib.Omega.{arith}
use lib.ListN.{get_or}
use Rattle.std.specs.Prelude.{Result, Ok, Err, is_ok}
use Rattle.features.specs.Meaning.{feature_number}
use Rattle.features.specs.declared.Feature.{Feature}
use Rattle.features.specs.declared.Feature.TheVariants.{StatV2, LsV2, SendRecvV2, Brotli, Lz4, Zstd, DryRunSend}
use Rattle.protocol.specs.Answers.{Answer, missing}
use Rattle.protocol.specs.Refusal.{or_else, refuse, is_none, feature_refusal, path_refusal, request_refusal}
use Rattle.protocol.specs.Ids.{Table, under}
use Rattle.protocol.specs.Messages.{Request, ask, rcv2, send, snd2, chunk, done, quit}
use Rattle.request_refusal.specs.Meaning.{checked}
use Rattle.request_refusal.specs.declared.Refusal.{Refusal}

pub or_none : (a : Option Answer) → or_else a none ≡ a
or_none none = refl
or_none (some x) = refl

-- feature n, looked up in a list that has the first at 1
pub feature_at : (fs : List Bool) (needed : Bool) (n : ℕ) → 0 < n
    → feature_refusal fs needed n ≡ refuse (needed && not (get_or (false ∷ fs) n false)) (missing n)
unfolding feature_refusal
feature_at fs needed zero h = absurd (not-suc-le-zero h)
feature_at fs needed (suc n) h = refl

some-feature : (f : Feature) → 0 < feature_number f
some-feature StatV2 = omega arith
some-feature LsV2 = omega arith
some-feature SendRecvV2 = omega arith
some-feature Brotli = omega arith
some-feature Lz4 = omega arith
some-feature Zstd = omega arith
some-feature DryRunSend = omega arith

pub feature_named : (fs : List Bool) (needed : Bool) (f : Feature)
    → feature_refusal fs needed (feature_number f) ≡ refuse (needed && not (get_or (false ∷ fs) (feature_number f) false)) (missing (feature_number f))
feature_named fs needed f = feature_at fs needed (feature_number f) (some-feature f)

-- what is not refused
pub ok-checked : (r : Result Unit Refusal) → is_ok r ≡ is_none (checked r)
ok-checked (Ok x) = refl
ok-checked (Err e) = refl

-- 8, 7, 9 and 10 depend neither on the letters of a table nor on whether the session has ended
pub alike : (t u : Table) (fs : List Bool) (e f : Bool) (q : Request)
    → request_refusal (record { dialect = under t; features = fs; ended = e }) q ≡ request_refusal (record { dialect = under u; features = fs; ended = f }) q
unfolding request_refusal path_refusal
alike t u fs e f (ask i p) = refl
alike t u fs e f (rcv2 p w) = refl
alike t u fs e f (send p m) = refl
alike t u fs e f (snd2 p m w) = refl
alike t u fs e f (chunk x) = refl
alike t u fs e f (done k) = refl
alike t u fs e f quit = refl
