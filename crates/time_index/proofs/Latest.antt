-- The latest entry at or before a time: what `latest` finds is what its words say, and nothing else is. Assumes nothing.
use mathlib.Core.Bool.{Bool, true, false, true≢false}
use mathlib.Core.List.{List, [], ◌∷◌}
use mathlib.Core.Option.{Option, none, some}
use mathlib.Core.Path.{◌≡◌, refl, sym, ap, subst, ◌∙◌}
use lib.IntN.{ℤ}
use Rattle.protocol.specs.Bytes.{pick}
use Rattle.time_index.specs.Index.{Item, no_later, within, later_of, latest}
use Rattle.time_index.specs.Claim.{of_time, LatestAt, Latest}
use Rattle.time_index.proofs.Lists.{nonempty, none_of, of_other, of_same}
use Rattle.time_index.proofs.Times.{no_later-self, else_earlier, no_later-on, one_time, within-one, within-self}

-- a time that is no later than t, where x is later: another time than x's
not-that : (t z : ℤ) (x : Item) → no_later x.time t ≡ false → no_later z t ≡ true → z ≡ x.time → ⊥
not-that t z x h g e = true≢false (sym (subst (λ (y : ℤ). no_later y t ≡ true) e g) ∙ h)

module _ (t : ℤ) (x : Item) (xs : List Item) where
  -- an item that is later than t alters nothing
  past : no_later x.time t ≡ false → (o : Option Item) → Latest t xs o → Latest t (x ∷ xs) o
  past h none n = λ z g. of_other z x xs (not-that t z x h g) ∙ n z g
  past h (some y) l =
      record {
        before = l.before;
        others = l.others;
        first = of_other y.time x xs (not-that t y.time x h l.before) ∙ l.first;
        last = λ z g f. l.last z g (λ e. f (of_other z x xs (not-that t z x h g) ∙ e));
      }

  module _ (h : no_later x.time t ≡ true) where
    -- x itself, where each time of the others is no later than its
    self : ((z : ℤ) → no_later z t ≡ true → (of_time z xs ≡ [] → ⊥) → no_later z x.time ≡ true) → LatestAt t (x ∷ xs) x
    self most =
        record { before = h; others = of_time x.time xs; first = of_same x.time x xs refl; last = λ z g f. go z g f (within z z x.time) refl }
      where
        go : (z : ℤ) → no_later z t ≡ true → (of_time z (x ∷ xs) ≡ [] → ⊥) → (q : Bool) → within z z x.time ≡ q → no_later z x.time ≡ true
        go z g f true e = subst (λ (y : ℤ). no_later z y ≡ true) (within-one z x.time e) (no_later-self z)
        go z g f false e = most z g (λ n. f (of_other z x xs (λ s. true≢false (sym (subst (λ (y : ℤ). within z z y ≡ true) s (within-self z)) ∙ e)) ∙ n))

    -- an item behind it that is later
    other : (y : Item) → LatestAt t xs y → no_later y.time x.time ≡ false → LatestAt t (x ∷ xs) y
    other y l d =
        record {
          before = l.before;
          others = l.others;
          first = of_other y.time x xs apart ∙ l.first;
          last = λ z g f. go z g f (within z z x.time) refl;
        }
      where
        apart : y.time ≡ x.time → ⊥
        apart e = true≢false (sym (subst (λ (z : ℤ). no_later y.time z ≡ true) e (no_later-self y.time)) ∙ d)

        go : (z : ℤ) → no_later z t ≡ true → (of_time z (x ∷ xs) ≡ [] → ⊥) → (q : Bool) → within z z x.time ≡ q → no_later z y.time ≡ true
        go z g f true e =
            subst (λ (w : ℤ). no_later w y.time ≡ true) (sym (within-one z x.time e)) (else_earlier y.time x.time d)
        go z g f false e =
            l.last z g (λ n. f (of_other z x xs (λ s. true≢false (sym (subst (λ (w : ℤ). within z z w ≡ true) s (within-self z)) ∙ e)) ∙ n))

    one_more_lem : (o : Option Item) → Latest t xs o → LatestAt t (x ∷ xs) (later_of x o)
    one_more_lem none n = self (λ z g f. absurd (f (n z g)))
    one_more_lem (some y) l = go (no_later y.time x.time) refl
      where
        go : (q : Bool) → no_later y.time x.time ≡ q → LatestAt t (x ∷ xs) (pick q x y)
        go true e = self (λ z g f. no_later-on z y.time x.time (l.last z g f) e)
        go false e = other y l e

pub latest_means : (t : ℤ) (held : List Item) → Latest t held (latest t held)
unfolding latest
latest_means t [] = λ z g. none_of z
latest_means t (x ∷ xs) = go (latest_means t xs) (no_later x.time t) refl
  where
    go : Latest t xs (latest t xs) → (q : Bool) → no_later x.time t ≡ q → Latest t (x ∷ xs) (pick q (some (later_of x (latest t xs))) (latest t xs))
    go l true e = one_more_lem t x xs e (latest t xs) l
    go l false e = past t x xs e (latest t xs) l

-- ---- only one item is it

module _ (t : ℤ) (held : List Item) where
  is-there : (x : Item) → LatestAt t held x → of_time x.time held ≡ [] → ⊥
  is-there x l e = nonempty l.first e

  same-latest : (x y : Item) → LatestAt t held x → LatestAt t held y → x ≡ y
  same-latest x y l m =
      let one : x.time ≡ y.time = one_time x.time y.time (m.last x.time l.before (is-there x l)) (l.last y.time m.before (is-there y m)) in
      let both : x ∷ l.others ≡ y ∷ m.others = sym l.first ∙ ap (λ (z : ℤ). of_time z held) one ∙ m.first in
      cc

  pub one-latest : (o p : Option Item) → Latest t held o → Latest t held p → o ≡ p
  one-latest none none l m = refl
  one-latest none (some y) l m = absurd (is-there y m (l y.time m.before))
  one-latest (some x) none l m = absurd (is-there x l (m x.time l.before))
  one-latest (some x) (some y) l m = ap some (same-latest x y l m)

pub latest_only : (t : ℤ) (held : List Item) (o : Option Item) → Latest t held o → o ≡ latest t held
latest_only t held o l = one-latest t held o (latest t held) l (latest_means t held)
