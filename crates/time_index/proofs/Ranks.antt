-- Ranks in a list that rises: how many items at its front a test holds of, and where an item more goes. Assumes nothing.
use Prim.Native.Nat.{ℕ, zero, suc, ◌≤◌, ◌<◌}
use mathlib.Core.Bool.{Bool, true, false, not, true≢false}
use mathlib.Core.List.{List, [], ◌∷◌, ◌++◌}
use mathlib.Core.Path.{◌≡◌, refl, sym, ap, ◌∙◌}
use native.Mathlib.Omega.{arith}
use borrow.Author.Tests.{not-true}
use lib.IntN.{ℤ, pos}
use lib.ListN.{length, take, drop, get_or}
use Rattle.protocol.specs.Bytes.{pick}
use Rattle.time_index.specs.Index.{Item, item, no_later, earlier, inserted, in_time}
use Rattle.time_index.specs.Slots.{time_at, ranks}
use Rattle.time_index.specs.Claim.{NoneLater, Rising}
use Rattle.time_index.proofs.Times.{no_later-self, else_earlier, no_later-on, later-on, earlier-back}

abbrev pub no_item : Item
no_item = item 0 (pos 0) []

-- the time at a rank
abbrev pub time_of : List Item → ℕ → ℤ
time_of l i = (get_or l i no_item).time

-- how many items at the front a test holds of
unfoldable pub lead : (ℤ → Bool) → List Item → ℕ
lead p [] = 0
lead p (x ∷ xs) = pick (p x.time) (suc (lead p xs)) 0

module _ (p : ℤ → Bool) where
  pub lead_in : (x : Item) (l : List Item) → p x.time ≡ true → lead p (x ∷ l) ≡ suc (lead p l)
  unfolding lead
  lead_in x l h = rw h

  pub lead_out : (x : Item) (l : List Item) → p x.time ≡ false → lead p (x ∷ l) ≡ 0
  unfolding lead
  lead_out x l h = rw h

  pub lead_most : (l : List Item) → lead p l ≤ length l
  unfolding lead
  lead_most [] = omega arith
  lead_most (x ∷ xs) = go (lead_most xs) (p x.time)
    where
      go : lead p xs ≤ length xs → (q : Bool) → pick q (suc (lead p xs)) 0 ≤ suc (length xs)
      go h true = omega arith
      go h false = omega arith

  pub lead-below : (l : List Item) (i : ℕ) → i < lead p l → p (time_of l i) ≡ true
  lead-below [] i h = absurd (none_below h)
    where
      none_below : i < lead p [] → ⊥
      none_below g = omega (arith, lead_most [])
  lead-below (x ∷ xs) i h = go i h (lead-below xs) (p x.time) refl
    where
      go : (i : ℕ) → i < lead p (x ∷ xs) → ((j : ℕ) → j < lead p xs → p (time_of xs j) ≡ true) → (q : Bool) → p x.time ≡ q → p (time_of (x ∷ xs) i) ≡ true
      go zero g rest true e = e
      go (suc i) g rest true e = rest i (omega (arith, lead_in x xs e))
      go i g rest false e = absurd (omega (arith, lead_out x xs e))

  pub lead_at : (l : List Item) → lead p l < length l → p (time_of l (lead p l)) ≡ false
  lead_at [] h = absurd (omega arith)
  lead_at (x ∷ xs) h = go (lead_at xs) (p x.time) refl
    where
      go : (lead p xs < length xs → p (time_of xs (lead p xs)) ≡ false) → (q : Bool) → p x.time ≡ q → p (time_of (x ∷ xs) (lead p (x ∷ xs))) ≡ false
      go rest true e = rw (lead_in x xs e) (rest (omega (arith, lead_in x xs e)))
      go rest false e = rw (lead_out x xs e) e

-- a test that holds of what stands before, wherever it holds
abbrev pub Down : (ℤ → Bool) → List Item → Type 0
Down p l = (i j : ℕ) → i ≤ j → j < length l → p (time_of l j) ≡ true → p (time_of l i) ≡ true

-- where it holds, that rank is among the first
pub lead_past : (p : ℤ → Bool) (l : List Item) → Down p l → (i : ℕ) → i < length l → p (time_of l i) ≡ true → i < lead p l
lead_past p l d i h e = let f : lead p l ≤ i → ⊥ = λ g. true≢false (sym (d (lead p l) i g h e) ∙ lead_at p l (omega arith)) in omega arith

-- where it does not hold, that rank is behind them
lead_stop : (p : ℤ → Bool) (l : List Item) (i : ℕ) → p (time_of l i) ≡ false → lead p l ≤ i
lead_stop p l i e = let f : i < lead p l → ⊥ = λ g. true≢false (sym (lead-below p l i g) ∙ e) in omega arith

-- the slots' times are those of a list: the ranks that a search from the back finds
module _ (p : ℤ → Bool) (s : List ℕ) (l : List Item) (times : (k : ℕ) → k < length l → time_at s k ≡ time_of l k) (d : Down p l) where
  ranks-from : (n : ℕ) → n ≤ length l → lead p l ≤ n → ranks p s n ≡ lead p l
  unfolding ranks
  ranks-from zero h g = omega arith
  ranks-from (suc n) h g = go (ranks-from n) (p (time_at s n)) refl
    where
      go : (n ≤ length l → lead p l ≤ n → ranks p s n ≡ lead p l) → (q : Bool) → p (time_at s n) ≡ q → pick q (suc n) (ranks p s n) ≡ lead p l
      go rest true e = omega (arith, lead_past p l d n (omega arith) (sym (ap p (times n (omega arith))) ∙ e))
      go rest false e = rest (omega arith) (lead_stop p l n (sym (ap p (times n (omega arith))) ∙ e))

  pub ranks-lead : ranks p s (length l) ≡ lead p l
  ranks-lead = ranks-from (length l) (omega arith) (lead_most p l)

-- ---- rising lists

none-later_at : (x : Item) (l : List Item) → NoneLater x l → (i : ℕ) → i < length l → no_later x.time (time_of l i) ≡ true
none-later_at x [] n i h = absurd (omega arith)
none-later_at x (y ∷ ys) n zero h = n.0
none-later_at x (y ∷ ys) n (suc i) h = none-later_at x ys n.1 i (omega arith)

pub rising-at : (l : List Item) → Rising l → (i j : ℕ) → i ≤ j → j < length l → no_later (time_of l i) (time_of l j) ≡ true
rising-at [] r i j g h = absurd (omega arith)
rising-at (x ∷ xs) r zero zero g h = no_later-self x.time
rising-at (x ∷ xs) r zero (suc j) g h = none-later_at x xs r.0 j (omega arith)
rising-at (x ∷ xs) r (suc i) zero g h = absurd (omega arith)
rising-at (x ∷ xs) r (suc i) (suc j) g h = rising-at xs r.1 i j (omega arith) (omega arith)

pub down_up_to : (t : ℤ) (l : List Item) → Rising l → Down (λ z. no_later z t) l
down_up_to t l r i j g h e = no_later-on (time_of l i) (time_of l j) t (rising-at l r i j g h) e

pub down_below : (t : ℤ) (l : List Item) → Rising l → Down (λ z. earlier z t) l
down_below t l r i j g h e = ap not (earlier-back (time_of l i) (time_of l j) t (rising-at l r i j g h) (not-true (no_later t (time_of l j)) e))

-- ---- an item more: behind all that are not later

unfoldable pub behind : Item → List Item → List Item
behind x [] = x ∷ []
behind x (y ∷ ys) = pick (no_later y.time x.time) (y ∷ behind x ys) (x ∷ y ∷ ys)

abbrev pub rank_for : Item → List Item → ℕ
rank_for x l = lead (λ z. no_later z x.time) l

pub behind-at : (x : Item) (l : List Item) → behind x l ≡ take (rank_for x l) l ++ x ∷ drop (rank_for x l) l
unfolding behind lead
behind-at x [] = refl
behind-at x (y ∷ ys) = go (behind-at x ys) (no_later y.time x.time)
  where
    go : behind x ys ≡ take (rank_for x ys) ys ++ x ∷ drop (rank_for x ys) ys → (q : Bool)
        → pick q (y ∷ behind x ys) (x ∷ y ∷ ys) ≡ take (pick q (suc (rank_for x ys)) 0) (y ∷ ys) ++ x ∷ drop (pick q (suc (rank_for x ys)) 0) (y ∷ ys)
    go rest true = ap (λ (l : List Item). y ∷ l) rest
    go rest false = refl

module _ (x y : Item) where
  behind-in : (z : Item) (l : List Item) → no_later z.time x.time ≡ true → behind x (z ∷ l) ≡ z ∷ behind x l
  unfolding behind
  behind-in z l h = rw h

  behind-out : (z : Item) (l : List Item) → no_later z.time x.time ≡ false → behind x (z ∷ l) ≡ x ∷ z ∷ l
  unfolding behind
  behind-out z l h = rw h

  inserted-in : (z : Item) (l : List Item) → no_later y.time z.time ≡ true → inserted y (z ∷ l) ≡ y ∷ z ∷ l
  unfolding inserted
  inserted-in z l h = rw h

  inserted-out : (z : Item) (l : List Item) → no_later y.time z.time ≡ false → inserted y (z ∷ l) ≡ z ∷ inserted y l
  unfolding inserted
  inserted-out z l h = rw h

  -- the first listed and the last listed may go in in either order
  pub either_first : (l : List Item) → inserted y (behind x l) ≡ behind x (inserted y l)
  unfolding inserted behind
  either_first [] = refl
  either_first (z ∷ zs) = go (either_first zs) (no_later z.time x.time) (no_later y.time z.time) refl refl
    where
      go : inserted y (behind x zs) ≡ behind x (inserted y zs) → (q r : Bool) → no_later z.time x.time ≡ q → no_later y.time z.time ≡ r
          → inserted y (behind x (z ∷ zs)) ≡ behind x (inserted y (z ∷ zs))
      go rest true true e f =
          ap (inserted y) (behind-in z zs e) ∙ inserted-in z (behind x zs) f
          ∙ sym (ap (behind x) (inserted-in z zs f) ∙ behind-in y (z ∷ zs) (no_later-on y.time z.time x.time f e) ∙ ap (λ (l : List Item). y ∷ l) (behind-in z zs e))
      go rest true false e f =
          ap (inserted y) (behind-in z zs e) ∙ inserted-out z (behind x zs) f ∙ ap (λ (l : List Item). z ∷ l) rest
          ∙ sym (ap (behind x) (inserted-out z zs f) ∙ behind-in z (inserted y zs) e)
      go rest false true e f = ap (inserted y) (behind-out z zs e) ∙ by (no_later y.time x.time) refl ∙ sym (ap (behind x) (inserted-in z zs f))
        where
          by : (q : Bool) → no_later y.time x.time ≡ q → inserted y (x ∷ z ∷ zs) ≡ behind x (y ∷ z ∷ zs)
          by true g = inserted-in x (z ∷ zs) g ∙ sym (behind-in y (z ∷ zs) g ∙ ap (λ (l : List Item). y ∷ l) (behind-out z zs e))
          by false g = inserted-out x (z ∷ zs) g ∙ ap (λ (l : List Item). x ∷ l) (inserted-in z zs f) ∙ sym (behind-out y (z ∷ zs) g)
      go rest false false e f =
          ap (inserted y) (behind-out z zs e)
          ∙ inserted-out x (z ∷ zs) (later-on x.time z.time y.time e (else_earlier y.time z.time f))
          ∙ ap (λ (l : List Item). x ∷ l) (inserted-out z zs f)
          ∙ sym (ap (behind x) (inserted-out z zs f) ∙ behind-out z (inserted y zs) e)

pub in_time-more : (held : List Item) (x : Item) → in_time (held ++ x ∷ []) ≡ behind x (in_time held)
unfolding in_time inserted behind
in_time-more [] x = refl
in_time-more (y ∷ ys) x = ap (inserted y) (in_time-more ys x) ∙ either_first x y (in_time ys)
