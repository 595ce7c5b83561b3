-- `refusal` gives the answers of `specs/Refusals.antt`'s table, and what holds of every path. Assumes nothing.
use Prim.Native.Nat.{ℕ}
use mathlib.Core.Bool.{Bool, true, false, not}
use mathlib.Core.List.{List, [], ◌∷◌, map}
use mathlib.Core.Path.{◌≡◌, refl}
use native.Mathlib.Omega.{arith}
use borrow.Author.Tests.{lt-ltb, le-ltb, ne_eqb}
use lib.Dec.{ltb}
use lib.ListN.{length}
use Rattle.protocol.specs.Bytes.{has}
use Rattle.protocol.specs.Ids.{Dialect}
use Rattle.protocol.specs.Refusal.{is_none, refusal, path_refusal, flag_refusal, feature_refusal, transfer_refusal, request_refusal}
use Rattle.protocol.specs.Flags.{several, unknown, dry_run, refused_flags}
use Rattle.protocol.specs.Requests.{bad_path}
use Rattle.protocol.specs.Refusals.{Row, rows, setting_at, NoNul, PathsRefused}
use Rattle.protocol.proofs.Bytes.{has-at}

pub refusals-hold : map (λ (r : Row). refusal (setting_at r) r.made) rows ≡ map (λ (r : Row). r.paper) rows
unfolding refusal request_refusal path_refusal flag_refusal feature_refusal transfer_refusal refused_flags several unknown dry_run
refusals-hold = refl

pub has-no_nul : (p : List ℕ) → NoNul p → has 0 p ≡ false
has-no_nul [] n = refl
has-no_nul (b ∷ p) n = rw (ne_eqb b 0 (omega (arith, n.0))) (has-no_nul p n.1)

bad-refused : (d : Dialect) (p : List ℕ) → bad_path d p ≡ not (is_none (path_refusal d p))
unfolding bad_path path_refusal
bad-refused d p = go (ltb d.longest (length p)) (has 0 p) refl refl
  where
    go : (long nul : Bool) → ltb d.longest (length p) ≡ long → has 0 p ≡ nul → bad_path d p ≡ not (is_none (path_refusal d p))
    go true true l z = simp (l, z)
    go true false l z = simp (l, z)
    go false true l z = simp (l, z)
    go false false l z = simp (l, z)

pub paths-refused : PathsRefused
unfolding refusal request_refusal path_refusal
paths-refused =
    record {
      nul = λ d fs m f a b. rw (has-at 0 a b);
      over = λ d fs m f p n l. simp (has-no_nul p n, lt-ltb _ _ l);
      fits = λ d fs m f p n l. simp (has-no_nul p n, le-ltb _ _ l, le-ltb d.longest 0 (omega arith));
      reader = bad-refused;
    }
