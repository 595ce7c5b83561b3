-- What lies between two times, and the latest, by their ranks in a list that rises. Assumes nothing.
use Prim.Native.Nat.{ℕ, suc, ◌-◌, ◌≤◌, ◌<◌}
use mathlib.Core.Bool.{Bool, true, false, not, ◌&&◌, true≢false}
use mathlib.Core.List.{List, [], ◌∷◌}
use mathlib.Core.Option.{Option, none, some}
use mathlib.Core.Path.{◌≡◌, refl, sym, ap, subst, ◌∙◌}
use native.Mathlib.Omega.{arith}
use borrow.Author.Tests.{leb-true, leb-false, not-true, not-false}
use lib.Dec.{leb}
use lib.IntN.{ℤ}
use lib.ListN.{length, take, drop, get_or}
use lib.Seq.{drop-cons}
use Rattle.protocol.specs.Bytes.{pick}
use Rattle.time_index.specs.Index.{Item, no_later, earlier, within, in_time, keep, between, latest}
use Rattle.time_index.specs.Claim.{of_time, NoneLater, Rising, LatestAt, Latest}
use Rattle.time_index.proofs.Lists.{keep_out, none_of, of_other, of_same, of_in_time, rising-in_time}
use Rattle.time_index.proofs.Latest.{one-latest, latest_means}
use Rattle.time_index.proofs.Ranks.{no_item, time_of, lead, lead_in, lead_out, lead_most, lead-below, lead_at, lead_past, rising-at, down_up_to}
use Rattle.time_index.proofs.Times.{no_later-self, no_later-on, one_time, later-on}

-- the ranks up to the last at or before t, and up to the last before t
abbrev pub lead_to : ℤ → List Item → ℕ
lead_to t l = lead (λ z. no_later z t) l

abbrev pub lead_below : ℤ → List Item → ℕ
lead_below t l = lead (λ z. earlier z t) l

-- ---- between

module _ (a b : ℤ) where
  -- nothing, behind what is later than b
  none_within : (x : Item) (l : List Item) → no_later x.time b ≡ false → NoneLater x l → keep (within a b) l ≡ []
  unfolding keep
  none_within x [] h n = refl
  none_within x (y ∷ ys) h n = rw (later-on b x.time y.time h n.0) (go (none_within x ys h n.1) (no_later a y.time))
    where
      go : keep (within a b) ys ≡ [] → (q : Bool) → pick (q && false) (y ∷ keep (within a b) ys) (keep (within a b) ys) ≡ []
      go rest true = rest
      go rest false = rest

  -- all up to b, where none is before a
  all-to : (l : List Item) → Rising l → ((i : ℕ) → i < length l → no_later a (time_of l i) ≡ true) → keep (within a b) l ≡ take (lead_to b l) l
  unfolding keep lead
  all-to [] r h = refl
  all-to (x ∷ xs) r h = go (all-to xs r.1 (λ i g. h (suc i) (omega arith))) (no_later x.time b) refl
    where
      first : no_later a x.time ≡ true
      first = h 0 (omega arith)

      go : keep (within a b) xs ≡ take (lead_to b xs) xs → (q : Bool) → no_later x.time b ≡ q
          → keep (within a b) (x ∷ xs) ≡ take (lead_to b (x ∷ xs)) (x ∷ xs)
      go rest true e = rw (first, e) (ap (λ (l : List Item). x ∷ l) rest)
      go rest false e = rw (first, e) (none_within x xs e r.0)

  kept-none : keep (within a b) [] ≡ take (lead_to b [] - lead_below a []) (drop (lead_below a []) [])
  unfolding keep lead
  kept-none = refl

  pub kept-part : (l : List Item) → Rising l → keep (within a b) l ≡ take (lead_to b l - lead_below a l) (drop (lead_below a l) l)
  kept-part [] r = kept-none
  kept-part (x ∷ xs) r = go (kept-part xs r.1) (no_later a x.time) (no_later x.time b) refl refl
    where
      shifted : (m n : ℕ) → suc m - suc n ≡ m - n
      shifted m n = omega arith

      all_left : (n : ℕ) → n - 0 ≡ n
      all_left n = omega arith

      go : keep (within a b) xs ≡ take (lead_to b xs - lead_below a xs) (drop (lead_below a xs) xs) → (q s : Bool) → no_later a x.time ≡ q → no_later x.time b ≡ s
          → keep (within a b) (x ∷ xs) ≡ take (lead_to b (x ∷ xs) - lead_below a (x ∷ xs)) (drop (lead_below a (x ∷ xs)) (x ∷ xs))
      go rest true s e f =
          all-to (x ∷ xs) r (λ i h. no_later-on a x.time (time_of (x ∷ xs) i) e (rising-at (x ∷ xs) r 0 i (omega arith) h))
          ∙ rw (lead_out (λ z. earlier z a) x xs (ap not e), all_left (lead_to b (x ∷ xs)))
      go rest false true e f =
          keep_out (within a b) x xs (rw e)
          ∙ rest
          ∙ rw (lead_in (λ z. earlier z a) x xs (ap not e), lead_in (λ z. no_later z b) x xs f, shifted (lead_to b xs) (lead_below a xs))
      go rest false false e f =
          keep_out (within a b) x xs (rw e)
          ∙ none_within x xs f r.0
          ∙ rw (lead_in (λ z. earlier z a) x xs (ap not e), lead_out (λ z. no_later z b) x xs f, none_left (lead_below a xs))
        where
          none_left : (n : ℕ) → 0 - suc n ≡ 0
          none_left n = omega arith

pub between-part : (a b : ℤ) (held : List Item)
    → between a b held ≡ take (lead_to b (in_time held) - lead_below a (in_time held)) (drop (lead_below a (in_time held)) (in_time held))
unfolding between
between-part a b held = kept-part a b (in_time held) (rising-in_time held)

-- ---- the latest

-- a time that stands nowhere has no items
none-at : (z : ℤ) (l : List Item) → ((i : ℕ) → i < length l → z ≡ time_of l i → ⊥) → of_time z l ≡ []
none-at z [] h = none_of z
none-at z (x ∷ xs) h = of_other z x xs (h 0 (omega arith)) ∙ none-at z xs (λ i g. h (suc i) (omega arith))

none-behind : (t : ℤ) → of_time t [] ≡ of_time t (drop (lead_below t []) [])
unfolding lead
none-behind t = refl

-- those of one time stand behind all that are earlier
of_behind : (t : ℤ) (l : List Item) → of_time t l ≡ of_time t (drop (lead_below t l) l)
of_behind t [] = none-behind t
of_behind t (x ∷ xs) = go (of_behind t xs) (no_later t x.time) refl
  where
    go : of_time t xs ≡ of_time t (drop (lead_below t xs) xs) → (q : Bool) → no_later t x.time ≡ q → of_time t (x ∷ xs) ≡ of_time t (drop (lead_below t (x ∷ xs)) (x ∷ xs))
    go rest true e = rw (lead_out (λ z. earlier z t) x xs (ap not e))
    go rest false e =
        of_other t x xs (λ s. true≢false (sym (subst (λ (z : ℤ). no_later t z ≡ true) s (no_later-self t)) ∙ e))
        ∙ rest
        ∙ rw (lead_in (λ z. earlier z t) x xs (ap not e))

-- the first of a time is not behind another of it
pub first-rank : (l : List Item) (r : ℕ) → lead_below (time_of l r) l ≤ r
first-rank l r =
    let m = time_of l r in
    let f : r < lead_below m l → ⊥ = λ h. true≢false (sym (no_later-self m) ∙ not-true (no_later m m) (lead-below (λ z. earlier z m) l r h)) in omega arith

-- the latest of a rising list, its rank known
module _ (t : ℤ) (l : List Item) (rises : Rising l) where
  pub none-latest : lead_to t l ≡ 0 → Latest t l none
  none-latest e z g = none-at z l
      (λ i h s. true≢false (sym (subst (λ (y : ℤ). no_later y t ≡ true) s g) ∙ go i h (no_later (time_of l i) t) refl))
    where
      go : (i : ℕ) → i < length l → (q : Bool) → no_later (time_of l i) t ≡ q → no_later (time_of l i) t ≡ false
      go i h true f = absurd (omega (arith, lead_past (λ z. no_later z t) l (down_up_to t l rises) i h f))
      go i h false f = f

  module _ (r : ℕ) (found : lead_to t l ≡ suc r) where
    abbrev m : ℤ
    m = time_of l r

    abbrev k : ℕ
    k = lead_below m l

    within-l : r < length l
    within-l = omega (arith, lead_most (λ z. no_later z t) l)

    m_before : no_later m t ≡ true
    m_before = lead-below (λ z. no_later z t) l r (omega arith)

    k-most : k ≤ r
    k-most = first-rank l r

    same-time : time_of l k ≡ m
    same-time =
        one_time (time_of l k) m (rising-at l rises k r k-most within-l)
        (not-false (no_later m (time_of l k)) (lead_at (λ z. earlier z m) l (omega (arith, k-most, within-l))))

    -- every rank up to r is no later than m, every other is later than t
    apart : (z : ℤ) → no_later z t ≡ true → no_later z m ≡ false → (i : ℕ) → i < length l → z ≡ time_of l i → ⊥
    apart z g f i h s = go (leb i r) refl
      where
        go : (q : Bool) → leb i r ≡ q → ⊥
        go true e = true≢false (sym (subst (λ (y : ℤ). no_later y m ≡ true) (sym s) (rising-at l rises i r (leb-true i r e) within-l)) ∙ f)
        go false e =
            let n = lead_past (λ y. no_later y t) l (down_up_to t l rises) i h (subst (λ (y : ℤ). no_later y t ≡ true) s g) in
            omega (arith, leb-false i r e, found)

    pub latest-at : LatestAt t l (get_or l k no_item)
    latest-at =
        record {
          before = rw same-time m_before;
          others = of_time m (drop (suc k) l);
          first = ap (λ (z : ℤ). of_time z l) same-time ∙ of_behind m l ∙ ap (of_time m) (drop-cons l k no_item (omega (arith, k-most, within-l)))
              ∙ of_same m (get_or l k no_item) (drop (suc k) l) (sym same-time);
          last = λ z g f. go z g f (no_later z m) refl;
        }
      where
        go : (z : ℤ) → no_later z t ≡ true → (of_time z l ≡ [] → ⊥) → (q : Bool) → no_later z m ≡ q → no_later z (time_of l k) ≡ true
        go z g f true e = rw same-time e
        go z g f false e = absurd (f (none-at z l (apart z g e)))

-- what is so of the list in time order is so of what is held
as_held : (t : ℤ) (l held : List Item) → ((z : ℤ) → of_time z l ≡ of_time z held) → (o : Option Item) → Latest t l o → Latest t held o
as_held t l held h none n = λ z g. sym (h z) ∙ n z g
as_held t l held h (some x) a =
    record { before = a.before; others = a.others; first = sym (h x.time) ∙ a.first; last = λ z g f. a.last z g (λ e. f (sym (h z) ∙ e)) }

module _ (t : ℤ) (held : List Item) where
  found-held : (o : Option Item) → Latest t (in_time held) o → latest t held ≡ o
  found-held o h = one-latest t held (latest t held) o (latest_means t held) (as_held t (in_time held) held (λ z. of_in_time z held) o h)

  pub latest-none : lead_to t (in_time held) ≡ 0 → latest t held ≡ none
  latest-none e = found-held none (none-latest t (in_time held) (rising-in_time held) e)

  pub latest-some : (r : ℕ) → lead_to t (in_time held) ≡ suc r
      → latest t held ≡ some (get_or (in_time held) (lead_below (time_of (in_time held) r) (in_time held)) no_item)
  latest-some r e = found-held (some _) (latest-at t (in_time held) (rising-in_time held) r e)
