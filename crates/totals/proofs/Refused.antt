-- A refusal is heard where one of the numbers 1 to 11 is told, and nowhere else.
-- Assumes nothing.
use Prim.Native.Nat.{ℕ, zero, suc, ◌+◌, ◌/◌, ◌%◌, ◌≤◌, ◌<◌}
use mathlib.Core.Bool.{Bool, true, false, true≢false, ◌&&◌, and-eq-true_iff}
use mathlib.Core.List.{List, [], ◌∷◌}
use mathlib.Core.Logic.{◌⊎◌, inl, inr}
use mathlib.Core.Path.{◌≡◌, refl, sym, ap, ◌∙◌}
use native.Mathlib.Omega.{arith}
use borrow.Author.Tests.{eqb-true, eqb-false, lt-ltb, ltb-true}
use lib.Dec.{eqb, leb, ltb}
use lib.ListN.{length, take, drop}
use Rattle.protocol.specs.Answers.{Answer, number, callers}
use Rattle.protocol.specs.Bytes.{pick, has}
use Rattle.protocol.specs.Refusal.{closed_hours}
use Rattle.protocol.proofs.Bodies.{pick-cases}
use Rattle.session.specs.Gate as G
use Rattle.session.specs.Host.{Show, told, read, write_rx, write_lent, write_bytes, close}
use Rattle.session.specs.Shown.{part_of}
use Rattle.session_layer.specs.Layer.{tells_refusal}
use Rattle.boundary.specs.Heard.{done_heard, answer_heard, heard}
use Rattle.boundary_misuse.proofs.Unchanged.{listed_below}
use Rattle.totals.specs.Crossing.{refuses}

-- ---- the callers' numbers

abbrev low : ℕ → Bool
low m = ltb 0 m && ltb m 12

-- n numbers, from k on
abbrev run : ℕ → ℕ → List ℕ
run k zero = []
run k (suc n) = k ∷ run (suc k) n

in_run : (m k n : ℕ) → k ≤ m → m < k + n → has m (run k n) ≡ true
in_run m k zero p q = absurd (omega arith)
in_run m k (suc n) p q = pick-cases (λ (b : Bool). b ≡ true) (eqb k m) (λ _. refl) (λ e. in_run m (suc k) n (omega (arith, eqb-false k m e)) (omega arith))

pub listed : (m : ℕ) → 0 < m → m < 12 → has m callers ≡ true
listed m p q = in_run m 1 11 (omega arith) (omega arith)

low-listed : (m : ℕ) → has m callers ≡ low m
low-listed m = go (has m callers) (low m) refl refl
  where
    go : (a b : Bool) → has m callers ≡ a → low m ≡ b → a ≡ b
    go true true e f = refl
    go false false e f = refl
    go true false e f =
        let (p, q) = listed_below 12 m callers (omega arith) e in
        absurd (true≢false (sym ((and-eq-true_iff (ltb 0 m) (ltb m 12)).1 (lt-ltb 0 m p, lt-ltb m 12 q)) ∙ f))
    go false true e f =
        let (p, q) = (and-eq-true_iff (ltb 0 m) (ltb m 12)).0 f in
        absurd (true≢false (sym (listed m (ltb-true 0 m p) (ltb-true m 12 q)) ∙ e))

-- ---- what is heard

part-number : (b : List ℕ) (i n k : ℕ) (f : List ℕ → Answer) → ((p : List ℕ) → number (f p) ≡ k) → (number (part_of b i n f) ≡ k) ⊎ (number (part_of b i n f) ≡ 0)
unfolding part_of
part-number b i n k f e = pick-cases (λ (a : Answer). (number a ≡ k) ⊎ (number a ≡ 0)) (leb (i + n) (length b)) (λ _. inl (e (take n (drop i b)))) (λ _. inr refl)

done-number : (kind : ℕ) (out rx : List ℕ) → number (done_heard kind out rx) ≡ 0
unfolding done_heard
done-number kind out rx =
    pick-cases S (eqb kind 0) (λ _. refl)
    (λ _. pick-cases S (eqb kind 1) (λ _. refl)
    (λ _. pick-cases S (eqb kind 2) (λ _. refl)
    (λ _. pick-cases S (eqb kind 3) (λ _. refl)
    (λ _. pick-cases S (eqb kind 4) (λ _. one (part-number rx _ _ 0 _ (λ p. refl)))
    (λ _. pick-cases S (eqb kind 5) (λ _. one (part-number rx _ _ 0 _ (λ p. refl)))
    (λ _. pick-cases S (eqb kind 6) (λ _. one (part-number rx _ _ 0 _ (λ p. refl))) (λ _. refl)))))))
  where
    S : Answer → Type 0
    S a = number a ≡ 0

    one : {n : ℕ} → (n ≡ 0) ⊎ (n ≡ 0) → n ≡ 0
    one (inl e) = e
    one (inr e) = e

-- the answer has the number that is told, or 0 where what is told is no refusal
abbrev Numbered : ℕ → ℕ → Type 0
Numbered m n = (n ≡ m) ⊎ ((n ≡ 0) × (low m ≡ false))

answer-number : (m : ℕ) (out rx msg : List ℕ) → Numbered m (number (answer_heard m out rx msg))
unfolding answer_heard
answer-number m out rx msg =
    pick-cases S (eqb m 0) (λ e. inl (done-number _ out rx ∙ is 0 e))
    (λ _. pick-cases S (eqb m 10) (λ e. inl (is 10 e))
    (λ _. pick-cases S (eqb m 12) (λ e. inl (is 12 e))
    (λ _. pick-cases S (eqb m 13) (λ e. inl (is 13 e))
    (λ _. pick-cases S (eqb m 14) (λ e. text e (part-number msg _ _ 14 _ (λ p. refl)))
    (λ _. pick-cases S (eqb m 15) (λ e. inl (is 15 e))
    (λ _. pick-cases S (eqb m 16) (λ e. inl (is 16 e))
    (λ _. pick-cases S (eqb m 17) (λ e. inl (is 17 e)) (λ _. inl refl))))))))
  where
    S : Answer → Type 0
    S a = Numbered m (number a)

    is : (i : ℕ) → eqb m i ≡ true → i ≡ m
    is i e = sym (eqb-true m i e)

    text : {n : ℕ} → eqb m 14 ≡ true → (n ≡ 14) ⊎ (n ≡ 0) → Numbered m n
    text e (inl f) = inl (f ∙ is 14 e)
    text e (inr f) = inr (f, ap low (sym (is 14 e)))

-- what holds of what is told, and of all that is asked, holds of what is heard
heard_all : (P : Show → Type 0) (n : ℕ) (out rx msg : List ℕ) → P (told (answer_heard (n / 256) out rx msg))
    → (eqb (n % 256) 0 ≡ false → ((at len : ℕ) → P (read at len)) × (((at len : ℕ) → P (write_rx at len)) × (((at len : ℕ) → P (write_lent at len)) × (((b : List ℕ) → P (write_bytes b)) × P close))))
    → P (heard n out rx msg)
unfolding heard
heard_all P n out rx msg t f =
    pick-cases P (eqb (n % 256) 0) (λ _. t)
    (λ e. pick-cases P (eqb (n % 256) 1) (λ _. (f e).0 _ _)
    (λ _. pick-cases P (eqb (n % 256) 2) (λ _. (f e).1.0 _ _)
    (λ _. pick-cases P (eqb (n % 256) 3) (λ _. (f e).1.1.0 _ _) (λ _. pick-cases P (eqb (n % 256) 4) (λ _. (f e).1.1.1.0 _) (λ _. (f e).1.1.1.1)))))

-- a number that is told, if it is one of these
module _ (n : ℕ) (out rx msg : List ℕ) (tells : refuses n ≡ true → n % 256 ≡ 0) where
  other : eqb (n % 256) 0 ≡ false → false ≡ refuses n
  other e = go (refuses n) refl
    where
      go : (b : Bool) → refuses n ≡ b → false ≡ b
      go false f = refl
      go true f = absurd (eqb-false (n % 256) 0 e (tells f))

  pub heard-refuses : G.refuses (heard n out rx msg) ≡ refuses n
  heard-refuses =
      heard_all (λ (sh : Show). G.refuses sh ≡ refuses n) n out rx msg (go (answer-number (n / 256) out rx msg))
      (λ e. let f = other e in ((λ _ _. f), ((λ _ _. f), ((λ _ _. f), ((λ _. f), f)))))
    where
      go : {i : ℕ} → Numbered (n / 256) i → has i callers ≡ low (n / 256)
      go (inl e) = ap (λ (k : ℕ). has k callers) e ∙ low-listed (n / 256)
      go (inr (e, f)) = ap (λ (k : ℕ). has k callers) e ∙ sym f

  -- .. and 25 is never told
  pub heard-refused : eqb closed_hours (n / 256) ≡ false → tells_refusal (heard n out rx msg) ≡ refuses n
  heard-refused few = heard_all (λ (sh : Show). G.refuses sh ≡ refuses n → tells_refusal sh ≡ refuses n) n out rx msg (go (answer-number (n / 256) out rx msg)) (λ e. ((λ _ _ f. f), ((λ _ _ f. f), ((λ _ _ f. f), ((λ _ f. f), λ f. f))))) heard-refuses
    where
      go : {i : ℕ} → Numbered (n / 256) i → has i callers ≡ low (n / 256) → has i (closed_hours ∷ callers) ≡ low (n / 256)
      go {i = i} (inl e) f = ap (λ (k : ℕ). pick (eqb closed_hours k) true (has i callers)) e ∙ ap (λ (b : Bool). pick b true (has i callers)) few ∙ f
      go {i = i} (inr (e, _)) f = ap (λ (k : ℕ). pick (eqb closed_hours k) true (has i callers)) e ∙ f

-- what is no refusal at all is none of the caller's
pub unrefused-show : (sh : Show) → tells_refusal sh ≡ false → G.refuses sh ≡ false
unrefused-show (told a) e = go (eqb closed_hours (number a)) e
  where
    go : (b : Bool) → pick b true (has (number a) callers) ≡ false → has (number a) callers ≡ false
    go true e = absurd (true≢false e)
    go false e = e
unrefused-show (read at len) e = e
unrefused-show (write_rx at len) e = e
unrefused-show (write_lent at len) e = e
unrefused-show (write_bytes b) e = e
unrefused-show close e = e
