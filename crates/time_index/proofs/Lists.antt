-- What is held, in time order: the times rise, and those of one time stand in listing order; and only one list is so. Assumes nothing.
use Prim.Native.Nat.{ℕ}
use mathlib.Core.Bool.{Bool, true, false, true≢false}
use mathlib.Core.List.{List, [], ◌∷◌}
use mathlib.Core.Path.{◌≡◌, refl, sym, ap, subst, ◌∙◌}
use native.Mathlib.Omega.{arith}
use lib.IntN.{ℤ}
use Rattle.protocol.specs.Bytes.{pick}
use Rattle.time_index.specs.Index.{Item, no_later, within, inserted, in_time, keep, between}
use Rattle.time_index.specs.Claim.{of_time, NoneLater, Rising, Between}
use Rattle.time_index.proofs.Times.{no_later-self, else_earlier, no_later-on, one_time, within-self, within-one}

pub nonempty : {A : Type 0} {x : A} {l m : List A} → l ≡ x ∷ m → l ≡ [] → ⊥
nonempty e f = let z : ◌≡◌ {A = ℕ} 0 1 = cc in omega arith

-- ---- keep

module _ (p : ℤ → Bool) where
  pub keep-in : (x : Item) (l : List Item) → p x.time ≡ true → keep p (x ∷ l) ≡ x ∷ keep p l
  unfolding keep
  keep-in x l h = rw h

  pub keep_out : (x : Item) (l : List Item) → p x.time ≡ false → keep p (x ∷ l) ≡ keep p l
  unfolding keep
  keep_out x l h = rw h

-- ---- rising lists

pub none-later_on : (x y : Item) (l : List Item) → no_later x.time y.time ≡ true → NoneLater y l → NoneLater x l
none-later_on x y [] h n = tt
none-later_on x y (z ∷ zs) h n = (no_later-on x.time y.time z.time h n.0, none-later_on x y zs h n.1)

none-later_inserted : (x y : Item) (l : List Item) → no_later x.time y.time ≡ true → NoneLater x l → NoneLater x (inserted y l)
unfolding inserted
none-later_inserted x y [] h n = (h, tt)
none-later_inserted x y (z ∷ zs) h n = go (none-later_inserted x y zs h n.1) (no_later y.time z.time)
  where
    go : NoneLater x (inserted y zs) → (q : Bool) → NoneLater x (pick q (y ∷ z ∷ zs) (z ∷ inserted y zs))
    go r true = (h, n)
    go r false = (n.0, r)

rising-inserted : (x : Item) (l : List Item) → Rising l → Rising (inserted x l)
unfolding inserted
rising-inserted x [] r = (tt, tt)
rising-inserted x (y ∷ ys) r = go (rising-inserted x ys r.1) (no_later x.time y.time) refl
  where
    go : Rising (inserted x ys) → (q : Bool) → no_later x.time y.time ≡ q → Rising (pick q (x ∷ y ∷ ys) (y ∷ inserted x ys))
    go s true e = ((e, none-later_on x y ys e r.0), r)
    go s false e = (none-later_inserted y x ys (else_earlier x.time y.time e) r.0, s)

pub rising-in_time : (l : List Item) → Rising (in_time l)
unfolding in_time
rising-in_time [] = tt
rising-in_time (x ∷ xs) = rising-inserted x (in_time xs) (rising-in_time xs)

none-later_keep : (p : ℤ → Bool) (x : Item) (l : List Item) → NoneLater x l → NoneLater x (keep p l)
unfolding keep
none-later_keep p x [] n = tt
none-later_keep p x (y ∷ ys) n = go (none-later_keep p x ys n.1) (p y.time)
  where
    go : NoneLater x (keep p ys) → (q : Bool) → NoneLater x (pick q (y ∷ keep p ys) (keep p ys))
    go r true = (n.0, r)
    go r false = r

rising-keep : (p : ℤ → Bool) (l : List Item) → Rising l → Rising (keep p l)
unfolding keep
rising-keep p [] r = tt
rising-keep p (x ∷ xs) r = go (rising-keep p xs r.1) (p x.time)
  where
    go : Rising (keep p xs) → (q : Bool) → Rising (pick q (x ∷ keep p xs) (keep p xs))
    go s true = (none-later_keep p x xs r.0, s)
    go s false = s

-- ---- those of one time

-- an item of another time is left out
pub of_other : (t : ℤ) (x : Item) (l : List Item) → (t ≡ x.time → ⊥) → of_time t (x ∷ l) ≡ of_time t l
of_other t x l f = go (within t t x.time) refl
  where
    go : (q : Bool) → within t t x.time ≡ q → of_time t (x ∷ l) ≡ of_time t l
    go true e = absurd (f (within-one t x.time e))
    go false e = keep_out (within t t) x l e

pub of_same : (t : ℤ) (x : Item) (l : List Item) → t ≡ x.time → of_time t (x ∷ l) ≡ x ∷ of_time t l
of_same t x l e = keep-in (within t t) x l (subst (λ (z : ℤ). within t t z ≡ true) e (within-self t))

of_inserted : (t : ℤ) (x : Item) (l : List Item) → of_time t (inserted x l) ≡ of_time t (x ∷ l)
unfolding inserted keep
of_inserted t x [] = refl
of_inserted t x (y ∷ ys) = go (of_inserted t x ys) (no_later x.time y.time) refl
  where
    o : List Item
    o = of_time t ys

    -- two items of different times change places
    by : no_later x.time y.time ≡ false → (q r : Bool) → within t t x.time ≡ q → within t t y.time ≡ r
        → pick r (y ∷ pick q (x ∷ o) o) (pick q (x ∷ o) o) ≡ pick q (x ∷ pick r (y ∷ o) o) (pick r (y ∷ o) o)
    by h true true e f =
        let s : x.time ≡ y.time = sym (within-one t x.time e) ∙ within-one t y.time f in
        absurd (true≢false (sym (no_later-self x.time) ∙ ap (no_later x.time) s ∙ h))
    by h true false e f = refl
    by h false true e f = refl
    by h false false e f = refl

    go : of_time t (inserted x ys) ≡ of_time t (x ∷ ys) → (q : Bool) → no_later x.time y.time ≡ q
        → of_time t (pick q (x ∷ y ∷ ys) (y ∷ inserted x ys)) ≡ of_time t (x ∷ y ∷ ys)
    go rest true e = refl
    go rest false e = rw rest (by e (within t t x.time) (within t t y.time) refl refl)

pub of_in_time : (t : ℤ) (l : List Item) → of_time t (in_time l) ≡ of_time t l
unfolding in_time keep
of_in_time t [] = refl
of_in_time t (x ∷ xs) = of_inserted t x (in_time xs) ∙ rw (of_in_time t xs)

of_kept : (a b t : ℤ) (l : List Item) → of_time t (keep (within a b) l) ≡ pick (within a b t) (of_time t l) []
unfolding keep
of_kept a b t [] = none_kept (within a b t)
  where
    none_kept : (q : Bool) → ◌≡◌ {A = List Item} [] (pick q [] [])
    none_kept true = refl
    none_kept false = refl
of_kept a b t (x ∷ xs) = go (of_kept a b t xs) (within a b x.time) (within t t x.time) refl refl
  where
    o : List Item
    o = of_time t xs

    same_test : (q : Bool) → within t t x.time ≡ true → within a b x.time ≡ q → within a b t ≡ q
    same_test q e f = ap (within a b) (within-one t x.time e) ∙ f

    go : of_time t (keep (within a b) xs) ≡ pick (within a b t) o [] → (q r : Bool) → within a b x.time ≡ q → within t t x.time ≡ r
        → of_time t (pick q (x ∷ keep (within a b) xs) (keep (within a b) xs)) ≡ pick (within a b t) (pick r (x ∷ o) o) []
    go rest true true e f = keep-in (within t t) x (keep (within a b) xs) f ∙ rw (rest, same_test true f e)
    go rest true false e f = keep_out (within t t) x (keep (within a b) xs) f ∙ rest
    go rest false true e f = rest ∙ rw (same_test false f e)
    go rest false false e f = rest

-- ---- only one list is so

-- a time before all has no items
pub before-all : (t : ℤ) (x : Item) (l : List Item) → no_later x.time t ≡ false → NoneLater x l → of_time t l ≡ []
unfolding keep
before-all t x [] h n = refl
before-all t x (y ∷ ys) h n =
    of_other t y ys (λ e. true≢false (sym n.0 ∙ ap (no_later x.time) (sym e) ∙ h)) ∙ before-all t x ys h n.1

-- the first of a rising list is no later than a time that has items
first-no_later : (t : ℤ) (x : Item) (l : List Item) → NoneLater x l → (of_time t (x ∷ l) ≡ [] → ⊥) → no_later x.time t ≡ true
first-no_later t x l n f = go (no_later x.time t) refl
  where
    go : (q : Bool) → no_later x.time t ≡ q → no_later x.time t ≡ true
    go true e = e
    go false e = absurd (f (before-all t x (x ∷ l) e (no_later-self x.time, n)))

pub none_of : (t : ℤ) → of_time t [] ≡ []
unfolding keep
none_of t = refl

pub only-rising : (l m : List Item) → Rising l → Rising m → ((t : ℤ) → of_time t l ≡ of_time t m) → l ≡ m
only-rising [] [] r s h = refl
only-rising [] (y ∷ ys) r s h = absurd (nonempty (of_same y.time y ys refl) (sym (h y.time) ∙ none_of y.time))
only-rising (x ∷ xs) [] r s h = absurd (nonempty (of_same x.time x xs refl) (h x.time ∙ none_of x.time))
only-rising (x ∷ xs) (y ∷ ys) r s h = go (only-rising xs ys r.1 s.1)
  where
    x-first : no_later x.time y.time ≡ true
    x-first = first-no_later y.time x xs r.0 (λ e. nonempty (of_same y.time y ys refl) (sym (h y.time) ∙ e))

    y-first : no_later y.time x.time ≡ true
    y-first = first-no_later x.time y ys s.0 (λ e. nonempty (of_same x.time x xs refl) (h x.time ∙ e))

    one : x.time ≡ y.time
    one = one_time x.time y.time x-first y-first

    both : x ∷ of_time x.time xs ≡ y ∷ of_time x.time ys
    both = sym (of_same x.time x xs refl) ∙ h x.time ∙ of_same x.time y ys one

    tails : (t : ℤ) (q : Bool) → within t t x.time ≡ q → of_time t xs ≡ of_time t ys
    tails t true e =
        let a : x ∷ of_time t xs ≡ y ∷ of_time t ys =
        sym (keep-in (within t t) x xs e) ∙ h t ∙ keep-in (within t t) y ys (sym (ap (within t t) one) ∙ e) in cc
    tails t false e = sym (keep_out (within t t) x xs e) ∙ h t ∙ keep_out (within t t) y ys (sym (ap (within t t) one) ∙ e)

    go : (((t : ℤ) → of_time t xs ≡ of_time t ys) → xs ≡ ys) → x ∷ xs ≡ y ∷ ys
    go rest = let e : xs ≡ ys = rest (λ t. tails t (within t t x.time) refl) in cc both

-- ---- between

pub between_means : (a b : ℤ) (held : List Item) → Between a b held (between a b held)
unfolding between
between_means a b held =
    record {
      rising = rising-keep (within a b) (in_time held) (rising-in_time held);
      each = λ t. of_kept a b t (in_time held) ∙ ap (λ (l : List Item). pick (within a b t) l []) (of_in_time t held);
    }

pub between_only : (a b : ℤ) (held l : List Item) → Between a b held l → l ≡ between a b held
between_only a b held l h =
    let g = between_means a b held in
    only-rising l (between a b held) h.rising g.rising (λ t. h.each t ∙ sym (g.each t))
