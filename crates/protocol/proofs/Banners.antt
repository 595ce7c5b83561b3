-- The facts of `specs/Banners.antt` hold. Assumes nothing.
use mathlib.Core.Bool.{Bool, true, false, or-true}
use mathlib.Core.List.{List, [], ◌∷◌, ◌++◌, map, append-nil, append_assoc}
use mathlib.Core.Option.{Option, none, some}
use mathlib.Core.Path.{◌≡◌, refl, sym, ap, ◌∙◌}
use mathlib.Mathlib.Data.Bool.Basic.{eq-false_of_not-eq-true}
use Prim.Native.Nat.{ℕ, zero, suc, ◌<◌}
use native.Mathlib.Omega.{arith}
use borrow.Author.Tests.{ne_eqb}
use lib.ListN.{length, get_or}
use Rattle.protocol.specs.Banners.{Row, banners, paper, Further, separated, NoSeparator, NoSeparators, the_marker, pieces_in, MarkerAt, BannersRead}
use Rattle.protocol.specs.Bytes.{pick, same}
use Rattle.protocol.specs.Features.{marker, rest_after, separator, split, some_is, in_pieces, has_feature, names, has_each, features_of}
use Rattle.protocol.proofs.Bytes.{same-eq, same_refl}

-- The pieces from the last one on: `split` computes both of its branches, and so takes too long on a whole banner.
abbrev fronted : Bool → ℕ → List (List ℕ) → List (List ℕ)
fronted true b ps = [] ∷ ps
fronted false b [] = []
fronted false b (p ∷ ps) = (b ∷ p) ∷ ps

abbrev pieces : List ℕ → List (List ℕ)
pieces [] = [] ∷ []
pieces (b ∷ s) = fronted (separator b) b (pieces s)

abbrev begun : List ℕ → List (List ℕ) → List (List ℕ)
begun p [] = []
begun p (q ∷ qs) = (p ++ q) ∷ qs

begun-nil : (ps : List (List ℕ)) → begun [] ps ≡ ps
begun-nil [] = refl
begun-nil (p ∷ ps) = refl

begun_more : (p : List ℕ) (b : ℕ) (ps : List (List ℕ)) → begun (p ++ b ∷ []) ps ≡ begun p (fronted false b ps)
begun_more p b [] = refl
begun_more p b (q ∷ ps) = ap (λ l. l ∷ ps) (append_assoc p (b ∷ []) q)

split-pieces : (p s : List ℕ) → split p s ≡ begun p (pieces s)
unfolding split
split-pieces p [] = ap (λ l. l ∷ []) (sym (append-nil p))
split-pieces p (b ∷ s) = go (split-pieces [] s) (split-pieces (p ++ b ∷ []) s) (separator b)
  where
    go : split [] s ≡ begun [] (pieces s) → split (p ++ b ∷ []) s ≡ begun (p ++ b ∷ []) (pieces s)
        → (t : Bool) → pick t (p ∷ split [] s) (split (p ++ b ∷ []) s) ≡ begun p (fronted t b (pieces s))
    go cut on true = rw (cut, begun-nil, append-nil)
    go cut on false = on ∙ begun_more p b (pieces s)

abbrev found : List ℕ → Option (List ℕ) → Bool
found name none = false
found name (some s) = some_is name (pieces s)

abbrev found_each : List ℕ → List (List ℕ) → List Bool
found_each banner [] = []
found_each banner (n ∷ ns) = found n (rest_after marker banner) ∷ found_each banner ns

has-found : (banner name : List ℕ) → has_feature banner name ≡ found name (rest_after marker banner)
unfolding has_feature
has-found banner name = go (rest_after marker banner)
  where
    go : (o : Option (List ℕ)) → in_pieces name o ≡ found name o
    go none = refl
    go (some s) = ap (some_is name) (split-pieces [] s ∙ begun-nil (pieces s))

each-found : (banner : List ℕ) (ns : List (List ℕ)) → has_each banner ns ≡ found_each banner ns
each-found banner [] = refl
each-found banner (n ∷ ns) = rw (has-found banner n, each-found banner ns)

all_found : (rs : List Row) → map (λ (r : Row). features_of r.banner) rs ≡ map (λ (r : Row). found_each r.banner names) rs
unfolding features_of
all_found [] = refl
all_found (r ∷ rs) = rw (each-found r.banner names, all_found rs)

by-pieces : map (λ (r : Row). found_each r.banner names) banners ≡ map paper banners
unfolding rest_after
by-pieces = refl

pub banners-hold : map (λ (r : Row). features_of r.banner) banners ≡ map paper banners
banners-hold = all_found banners ∙ by-pieces

-- ---- every banner

-- a piece is read to its end, wherever it begins
split-piece : (read p rest : List ℕ) → NoSeparator p → split read (p ++ rest) ≡ split (read ++ p) rest
unfolding split
split-piece read [] rest u = rw append-nil
split-piece read (b ∷ p) rest u =
    rw (ne_eqb b 44 u.0, ne_eqb b 59 u.1) (split-piece (read ++ b ∷ []) p rest u.2 ∙ rw append_assoc)

split-separated : (p : List ℕ) (ns : List Further) → NoSeparators (pieces_in p ns) → split [] (separated p ns) ≡ pieces_in p ns
unfolding split
split-separated p [] u = ap (split []) (sym (append-nil p)) ∙ split-piece [] p [] u.0
split-separated p (n ∷ ns) u =
    split-piece [] p _ u.0 ∙ cut n.by_semicolon ∙ ap (λ (ps : List (List ℕ)). p ∷ ps) (split-separated n.piece ns u.1)
  where
    cut : (b : Bool) → split p (pick b 59 44 ∷ separated n.piece ns) ≡ p ∷ split [] (separated n.piece ns)
    cut true = refl
    cut false = refl

some-listed : (name : List ℕ) (ps : List (List ℕ)) (i : ℕ) → i < length ps → get_or ps i [] ≡ name → some_is name ps ≡ true
some-listed name [] i h e = absurd (omega arith)
some-listed name (p ∷ ps) zero h e = rw (e, same_refl)
some-listed name (p ∷ ps) (suc i) h e = rw (some-listed name ps i (omega arith) e) (or-true (same p name))

none-listed : (name : List ℕ) (ps : List (List ℕ)) → ((i : ℕ) → i < length ps → get_or ps i [] ≡ name → ⊥) → some_is name ps ≡ false
none-listed name [] f = refl
none-listed name (p ∷ ps) f =
    rw (eq-false_of_not-eq-true (λ e. f 0 (omega arith) (same-eq p name e)), none-listed name ps (λ i h. f (suc i) (omega arith)))

has-behind : (s name : List ℕ) → has_feature (the_marker ++ s) name ≡ some_is name (split [] s)
unfolding has_feature rest_after
has-behind s name = refl

rest-first : (front rest : List ℕ) → ((i : ℕ) → i < length front → MarkerAt (front ++ the_marker ++ rest) i → ⊥)
    → rest_after marker (front ++ the_marker ++ rest) ≡ rest_after marker (the_marker ++ rest)
unfolding rest_after
rest-first [] rest f = refl
rest-first (b ∷ front) rest f =
    rw (eq-false_of_not-eq-true (λ e. f 0 (omega arith) (same-eq _ _ e))) (rest-first front rest (λ i h. f (suc i) (omega arith)))

rest-absent : (banner : List ℕ) → ((i : ℕ) → MarkerAt banner i → ⊥) → rest_after marker banner ≡ none
unfolding rest_after
rest-absent [] f = refl
rest-absent (b ∷ s) f = rw (eq-false_of_not-eq-true (λ e. f 0 (same-eq _ _ e))) (rest-absent s (λ i. f (suc i)))

pub banners-read : BannersRead
unfolding has_feature features_of
banners-read =
    record {
      present = λ p ns u i h. has-behind (separated p ns) _ ∙ rw (split-separated p ns u) (some-listed _ (pieces_in p ns) i h refl);
      not_present = λ p ns u name f. has-behind (separated p ns) name ∙ rw (split-separated p ns u) (none-listed name (pieces_in p ns) f);
      first = λ front rest name f. ap (in_pieces name) (rest-first front rest f);
      no_marker = λ banner name f. ap (in_pieces name) (rest-absent banner f);
      seven = λ banner. refl;
    }
