-- The plain reader at one need, the drain of a long FAIL text, and what it means to fall short. Assumes nothing.
use Prim.Native.Nat.{ℕ, zero, suc, ◌+◌, ◌-◌, ◌≤◌, ◌<◌, min}
use mathlib.Core.Bool.{Bool, true, false}
use mathlib.Core.List.{List, ◌++◌}
use mathlib.Core.Path.{◌≡◌, refl, sym, ap, ◌∙◌}
use native.Mathlib.Omega.{arith}
use borrow.Author.Tests.{lt-ltb, le-ltb, ne_eqb, ltb-true, ltb-false}
use lib.Dec.{ltb}
use lib.ListN.{length, take, drop, length-append}
use lib.Seq.{take-append-le, drop-drop}
use Rattle.protocol.specs.Answers.{fail, too_large}
use Rattle.protocol.specs.Bytes.{pick}
use Rattle.protocol.specs.Reader.{Prog, answer, need, skip, Result, ended, short, plain, drain}
use Rattle.protocol_readers.specs.Short.{ShortAt}

-- ---- one need

module _ (c n : ℕ) (k : List ℕ → Prog) where
  pub plain-full : (u : List ℕ) → c < n → plain c (need n k) u ≡ ended too_large u
  unfolding plain
  plain-full u h = rw (lt-ltb c n h)

  pub plain-short : (u : List ℕ) → n ≤ c → length u < n → plain c (need n k) u ≡ short n u
  unfolding plain
  plain-short u h l = rw (le-ltb c n h, lt-ltb (length u) n l)

  pub plain-go : (u : List ℕ) → n ≤ c → n ≤ length u → plain c (need n k) u ≡ plain c (k (take n u)) u
  unfolding plain
  plain-go u h l = rw (le-ltb c n h, le-ltb (length u) n l)

  -- the same, of bytes held and any bytes to come
  pub plain-go_held : (h x : List ℕ) → n ≤ c → n ≤ length h → plain c (need n k) (h ++ x) ≡ plain c (k (take n h)) (h ++ x)
  plain-go_held h x le l =
      plain-go (h ++ x) le (omega (arith, length-append h x)) ∙ ap (λ (y : List ℕ). plain c (k y) (h ++ x)) (take-append-le n h x l)

-- a need depends only on what follows
pub need-cong : (c n : ℕ) (k l : List ℕ → Prog) (u : List ℕ) → plain c (k (take n u)) u ≡ plain c (l (take n u)) u
    → plain c (need n k) u ≡ plain c (need n l) u
unfolding plain
need-cong c n k l u e = ap (λ (r : Result). pick (ltb c n) (ended too_large u) (pick (ltb (length u) n) (short n u) r)) e

-- ---- the drain

pub drain-none : (c f left : ℕ) (t u : List ℕ) → left ≡ 0 → plain c (drain c f left t) u ≡ ended (fail t) u
unfolding plain drain
drain-none c zero left t u e = refl
drain-none c (suc f) left t u e = rw e

pub drain-some : (c f left : ℕ) (t : List ℕ) → (left ≡ 0 → ⊥)
    → drain c (suc f) left t ≡ need (min left c) (λ x. skip (min left c) (drain c f (left - min left c) t))
unfolding drain
drain-some c f left t h = rw (ne_eqb left 0 h)

-- the number that ends the recursion does not matter, if it is enough
pub drain-fuel : (c f g left : ℕ) (t u : List ℕ) → 1 ≤ c → left ≤ f → left ≤ g → plain c (drain c f left t) u ≡ plain c (drain c g left t) u
unfolding plain
drain-fuel c zero g left t u p h k = drain-none c zero left t u (omega arith) ∙ sym (drain-none c g left t u (omega arith))
drain-fuel c (suc f) zero left t u p h k = drain-none c (suc f) left t u (omega arith) ∙ sym (drain-none c zero left t u (omega arith))
drain-fuel c (suc f) (suc g) left t u p h k = step left (drain-fuel c f g (left - min left c) t (drop (min left c) u) p (omega arith) (omega arith))
  where
    step : (l : ℕ) → plain c (drain c f (l - min l c) t) (drop (min l c) u) ≡ plain c (drain c g (l - min l c) t) (drop (min l c) u)
        → plain c (drain c (suc f) l t) u ≡ plain c (drain c (suc g) l t) u
    step zero rest = drain-none c (suc f) 0 t u refl ∙ sym (drain-none c (suc g) 0 t u refl)
    step (suc l) rest =
        let n : ℕ = min (suc l) c in
        rw (drain-some c f (suc l) t (omega arith), drain-some c g (suc l) t (omega arith))
        (need-cong c n (λ x. skip n (drain c f (suc l - n) t)) (λ x. skip n (drain c g (suc l - n) t)) u rest)

-- ---- falling short

-- after j bytes were dropped
short-from : (c : ℕ) (p : Prog) (j : ℕ) (u : List ℕ) → ShortAt c u (plain c p (drop j u))
unfolding plain
short-from c (answer a) j u = tt
short-from c (need n k) j u = go (ltb c n) (ltb (length (drop j u)) n) refl refl (short-from c (k (take n (drop j u))) j u)
  where
    go : (b₁ b₂ : Bool) → ltb c n ≡ b₁ → ltb (length (drop j u)) n ≡ b₂ → ShortAt c u (plain c (k (take n (drop j u))) (drop j u))
        → ShortAt c u (pick b₁ (ended too_large (drop j u)) (pick b₂ (short n (drop j u)) (plain c (k (take n (drop j u))) (drop j u))))
    go true b₂ e₁ e₂ r = tt
    go false true e₁ e₂ r = record { fits = ltb-false c n e₁; fewer = ltb-true (length (drop j u)) n e₂; dropped = j; last = refl }
    go false false e₁ e₂ r = r
short-from c (skip n p) j u = rw (drop-drop n j u) (short-from c p (j + n) u)

pub short-at : (c : ℕ) (p : Prog) (u : List ℕ) → ShortAt c u (plain c p u)
short-at c p u = short-from c p 0 u
