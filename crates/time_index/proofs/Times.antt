-- Times are in one order: each is no later than itself, of two one is no later than the other, and the order carries over. Assumes nothing.
use Prim.Native.Nat.{zero, suc}
use mathlib.Core.Bool.{Bool, true, false, and-eq-true_iff, true≢false}
use mathlib.Core.Path.{◌≡◌, refl, sym, ap, ◌∙◌}
use native.Mathlib.Omega.{arith}
use borrow.Author.Tests.{le-leb, leb-true, leb-false}
use lib.IntN.{ℤ, pos, negsuc, suc_ℤ}
use Rattle.time_index.specs.Index.{no_later, within}

pub no_later-self : (t : ℤ) → no_later t t ≡ true
no_later-self (pos n) = le-leb n n (omega arith)
no_later-self (negsuc n) = le-leb n n (omega arith)

pub next-later : (t : ℤ) → no_later t (suc_ℤ t) ≡ true
next-later (pos n) = le-leb n (suc n) (omega arith)
next-later (negsuc zero) = refl
next-later (negsuc (suc n)) = le-leb n (suc n) (omega arith)

-- of two, one is no later than the other
pub else_earlier : (s t : ℤ) → no_later s t ≡ false → no_later t s ≡ true
else_earlier (pos m) (pos n) h = le-leb n m (omega (arith, leb-false m n h))
else_earlier (pos m) (negsuc n) h = refl
else_earlier (negsuc m) (pos n) h = absurd (true≢false h)
else_earlier (negsuc m) (negsuc n) h = le-leb m n (omega (arith, leb-false n m h))

pub no_later-on : (r s t : ℤ) → no_later r s ≡ true → no_later s t ≡ true → no_later r t ≡ true
no_later-on (pos l) (pos m) (pos n) g h = le-leb l n (omega (arith, leb-true l m g, leb-true m n h))
no_later-on (pos l) (pos m) (negsuc n) g h = absurd (true≢false (sym h))
no_later-on (pos l) (negsuc m) t g h = absurd (true≢false (sym g))
no_later-on (negsuc l) (pos m) (pos n) g h = refl
no_later-on (negsuc l) (pos m) (negsuc n) g h = absurd (true≢false (sym h))
no_later-on (negsuc l) (negsuc m) (pos n) g h = refl
no_later-on (negsuc l) (negsuc m) (negsuc n) g h = le-leb n l (omega (arith, leb-true m l g, leb-true n m h))

-- two times each no later than the other are one
pub one_time : (s t : ℤ) → no_later s t ≡ true → no_later t s ≡ true → s ≡ t
one_time (pos m) (pos n) g h = let e : m ≡ n = omega (arith, leb-true m n g, leb-true n m h) in ap pos e
one_time (pos m) (negsuc n) g h = absurd (true≢false (sym g))
one_time (negsuc m) (pos n) g h = absurd (true≢false (sym h))
one_time (negsuc m) (negsuc n) g h = let e : m ≡ n = omega (arith, leb-true n m g, leb-true m n h) in ap negsuc e

-- what is later stays later
pub later-on : (r s t : ℤ) → no_later s r ≡ false → no_later s t ≡ true → no_later t r ≡ false
later-on r s t g h = go (no_later t r) refl
  where
    go : (q : Bool) → no_later t r ≡ q → no_later t r ≡ false
    go true e = absurd (true≢false (sym (no_later-on s t r h e) ∙ g))
    go false e = e

-- what is not later than a time that is earlier is earlier
pub earlier-back : (r s t : ℤ) → no_later r s ≡ true → no_later t s ≡ false → no_later t r ≡ false
earlier-back r s t g h = go (no_later t r) refl
  where
    go : (q : Bool) → no_later t r ≡ q → no_later t r ≡ false
    go true e = absurd (true≢false (sym (no_later-on t r s e g) ∙ h))
    go false e = e

-- ---- within

pub within_both : (a b t : ℤ) → within a b t ≡ true → (no_later a t ≡ true) × (no_later t b ≡ true)
within_both a b t h = (and-eq-true_iff (no_later a t) (no_later t b)).0 h

pub within-self : (t : ℤ) → within t t t ≡ true
within-self t = rw (no_later-self t)

-- within one time is that time
pub within-one : (t z : ℤ) → within t t z ≡ true → t ≡ z
within-one t z h = let b = within_both t t z h in one_time t z b.0 b.1
