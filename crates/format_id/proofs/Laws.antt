-- An id looked for among the fifteen, one turn of a loop at a time. Assumes nothing.
use mathlib.Core.Bool.{true, false}
use mathlib.Core.List.{List, [], ◌∷◌}
use mathlib.Core.Option.{some}
use mathlib.Core.Path.{◌≡◌, refl, sym, ap, ◌∙◌}
use Prim.Native.Nat.{ℕ, suc, ◌+◌, ◌<◌}
use native.Mathlib.Numerals.{add-one}
use lib.Dec.{eqb}
use lib.ListN.{drop, get_or, get_or-map}
use lib.Pointwise.{pointwise}
use lib.Seq.{drop-cons}
use Rattle.protocol.specs.Bytes.{same}
use Rattle.protocol.specs.Ids.{Id, Dialect, STAT, all, among}
use Rattle.format_id.specs.Ids.{id_of}
use Rattle.format_id.specs.declared.SyncId.{SyncId}
use Rattle.format_id.specs.declared.SyncId.TheVariants as S

-- `SyncId::ALL`, and the id at i
abbrev order : List SyncId
order = S.Stat ∷ S.Sta2 ∷ S.List ∷ S.Lis2 ∷ S.Send ∷ S.Snd2 ∷ S.Recv ∷ S.Rcv2 ∷ S.Data ∷ S.Done ∷ S.Okay ∷ S.Fail ∷ S.Dent ∷ S.Dnt2 ∷ S.Quit ∷ []

abbrev pub at : ℕ → Id
at i = id_of (get_or order i S.Stat)

next : (i : ℕ) → i < 15 → drop i all ≡ at i ∷ drop (i + 1) all
next i h =
    drop-cons all i STAT h
    ∙ ap (λ (x : Id). x ∷ drop (suc i) all) (get_or-map id_of order i S.Stat)
    ∙ ap (λ (j : ℕ). at i ∷ drop j all) (sym (add-one i))

-- whether the id at i has the bytes b
module _ (d : Dialect) (b : List ℕ) (i : ℕ) (h : i < 15) where
  pub here : same (d.bytes (at i)) b ≡ true → among d (drop i all) b ≡ some (at i)
  here e = ap (λ (is : List Id). among d is b) (next i h) ∙ rw e

  pub further : same (d.bytes (at i)) b ≡ false → among d (drop i all) b ≡ among d (drop (i + 1) all) b
  further e = ap (λ (is : List Id). among d is b) (next i h) ∙ rw e

-- the library's comparison of two lists
pub pointwise-same : (s t : List ℕ) → pointwise eqb s t ≡ same s t
pointwise-same [] [] = refl
pointwise-same [] (y ∷ t) = refl
pointwise-same (x ∷ s) [] = refl
pointwise-same (x ∷ s) (y ∷ t) = rw (pointwise-same s t)
