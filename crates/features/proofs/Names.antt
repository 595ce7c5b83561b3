-- The names of `Table.antt` are the protocol's seven; the number of a piece by its tail. Assumes nothing.
use mathlib.Core.Bool.{Bool, true, false, true≢false}
use mathlib.Core.List.{List, [], ◌∷◌, ◌++◌}
use mathlib.Core.Path.{◌≡◌, refl, sym, ap, ap₂, ◌∙◌}
use mathlib.Mathlib.Data.Bool.Basic.{eq-false_of_not-eq-true}
use Prim.Native.Nat.{ℕ, zero, suc, ◌+◌, ◌-◌, ◌≤◌}
use native.Mathlib.Omega.{arith}
use borrow.Author.Tests.{le-leb, lt-leb}
use lib.Dec.{lit≤}
use lib.ListN.{length, get_or, take, length-take, take-append-drop}
use lib.Seq.{slice, length-slice, drop-drop}
use Rattle.protocol.specs.Bytes.{same}
use Rattle.protocol.proofs.Bytes.{same-eq}
use Rattle.features.specs.Meaning.{starts_with, Named}
use Rattle.features.proofs.Table.{beginning, tails, ends, tail_of, built}

-- what holds of each of the seven numbers
pub each : (P : ℕ → Type 0) → P 1 → P 2 → P 3 → P 4 → P 5 → P 6 → P 7 → (n : ℕ) → 1 ≤ n → n ≤ 7 → P n
each P a b c d e f g zero h k = absurd (omega arith)
each P a b c d e f g (suc zero) h k = a
each P a b c d e f g (suc (suc zero)) h k = b
each P a b c d e f g (suc (suc (suc zero))) h k = c
each P a b c d e f g (suc (suc (suc (suc zero)))) h k = d
each P a b c d e f g (suc (suc (suc (suc (suc zero))))) h k = e
each P a b c d e f g (suc (suc (suc (suc (suc (suc zero)))))) h k = f
each P a b c d e f g (suc (suc (suc (suc (suc (suc (suc zero))))))) h k = g
each P a b c d e f g (suc (suc (suc (suc (suc (suc (suc (suc n)))))))) h k = absurd (omega arith)

-- two lists with the same first answer, and the same others
pub also : {a b : Bool} {u v : List Bool} → a ≡ b → u ≡ v → a ∷ u ≡ b ∷ v
also e f = ap₂ (λ (x : Bool) (xs : List Bool). x ∷ xs) e f

-- the table's places stand in their order, within the tails
pub ends-rise : (n : ℕ) → 1 ≤ n → n ≤ 7 → (get_or ends (n - 1) 0 ≤ get_or ends n 0) × (get_or ends n 0 ≤ length tails)
ends-rise =
    each (λ n. (get_or ends (n - 1) 0 ≤ get_or ends n 0) × (get_or ends n 0 ≤ length tails))
    (lit≤ tt, lit≤ tt) (lit≤ tt, lit≤ tt) (lit≤ tt, lit≤ tt) (lit≤ tt, lit≤ tt) (lit≤ tt, lit≤ tt) (lit≤ tt, lit≤ tt) (lit≤ tt, lit≤ tt)

-- each is the name of its number, and of no other
named : (n : ℕ) → 1 ≤ n → n ≤ 7 → Named (built n) n
named = each (λ n. Named (built n) n) refl refl refl refl refl refl refl

-- a list with the beginning, or without it, whose rest is the tail of that number
pub hit_alone : (p : List ℕ) (n : ℕ) → 1 ≤ n → n ≤ 2 → same p (tail_of n) ≡ true → Named p n
hit_alone p n h k e = let l = lt-leb 3 n (omega arith) in rw (same-eq p (tail_of n) e) (simp l at (named n h (omega arith)))

pub hit_begun : (q : List ℕ) (n : ℕ) → 3 ≤ n → n ≤ 7 → same q (tail_of n) ≡ true → Named (beginning ++ q) n
hit_begun q n h k e = let l = le-leb 3 n h in rw (same-eq q (tail_of n) e) (simp l at (named n (omega arith) k))

-- ... whose rest is none of the tails
unbegun : (p t : List ℕ) → starts_with beginning p ≡ false → same p (beginning ++ t) ≡ false
unbegun p t e =
    eq-false_of_not-eq-true (λ h. true≢false (ap (starts_with beginning) (sym (same-eq p (beginning ++ t) h)) ∙ e))

pub miss_alone : (p : List ℕ) → starts_with beginning p ≡ false → ((n : ℕ) → 1 ≤ n → n ≤ 2 → same p (tail_of n) ≡ false) → Named p 0
miss_alone p e f =
    let other : (t : List ℕ) → same p (beginning ++ t) ≡ false = λ t. unbegun p t e in
    also (f 1 (lit≤ tt) (lit≤ tt))
    (also (f 2 (lit≤ tt) (lit≤ tt))
    (also (other []) (also (other (tail_of 4)) (also (other (tail_of 5)) (also (other (tail_of 6)) (also (other (tail_of 7)) refl))))))

pub miss_begun : (q : List ℕ) → ((n : ℕ) → 3 ≤ n → n ≤ 7 → same q (tail_of n) ≡ false) → Named (beginning ++ q) 0
miss_begun q f =
    also refl
    (also refl
    (also (f 3 (lit≤ tt) (lit≤ tt))
    (also (f 4 (lit≤ tt) (lit≤ tt))
    (also (f 5 (lit≤ tt) (lit≤ tt)) (also (f 6 (lit≤ tt) (lit≤ tt)) (also (f 7 (lit≤ tt) (lit≤ tt)) refl))))))

-- a part that begins so is the beginning and what follows it
pub beginning_cut : (s : List ℕ) (f e : ℕ) → e ≤ length s → starts_with beginning (slice f e s) ≡ true
    → (f + 11 ≤ e) × (slice f e s ≡ beginning ++ slice (f + 11) e s)
beginning_cut s f e inside h =
    let p = slice f e s in
    let front = same-eq (take 11 p) beginning h in
    let long = ap length front in
    (omega (arith, length-take 11 p, length-slice f e s inside), sym (take-append-drop 11 p) ∙ rw (front, drop-drop))
