-- A comma looked for from the end, one turn of a loop at a time. Assumes nothing.
use Prim.Native.Nat.{ℕ, suc, ◌-◌, ◌≤◌, ◌<◌}
use mathlib.Core.List.{List, ◌∷◌, ◌++◌}
use mathlib.Core.Option.{none, some}
use mathlib.Core.Path.{◌≡◌, sym, ap, ◌∙◌}
use native.Mathlib.Omega.{arith}
use borrow.Author.Tests.{ne_eqb}
use lib.ListN.{length, take, drop, get_or, take-append-drop}
use lib.Seq.{drop-cons, length-take-le}
use Rattle.protocol.specs.Requests.{last_comma}
use Rattle.protocol.proofs.Bodies.{comma-last}

-- the byte before j, where no comma stands from j on
module _ (s : List ℕ) (j : ℕ) (some_left : 0 < j) (h : j ≤ length s) (clear : last_comma (drop j s) ≡ none) where
  before : drop (j - 1) s ≡ get_or s (j - 1) 0 ∷ drop j s
  before =
      let e : suc (j - 1) ≡ j = omega arith in
      drop-cons s (j - 1) 0 (omega arith) ∙ ap (λ (k : ℕ). get_or s (j - 1) 0 ∷ drop k s) e

  pub comma-here : get_or s (j - 1) 0 ≡ 44 → last_comma s ≡ some (j - 1)
  comma-here b =
      let there : s ≡ take (j - 1) s ++ 44 ∷ drop j s = sym (take-append-drop (j - 1) s) ∙ ap (λ (t : List ℕ). take (j - 1) s ++ t) (before ∙ rw b) in
      ap last_comma there ∙ comma-last (take (j - 1) s) (drop j s) clear ∙ ap some (length-take-le (j - 1) s (omega arith))

  pub comma-before : (get_or s (j - 1) 0 ≡ 44 → ⊥) → last_comma (drop (j - 1) s) ≡ none
  comma-before f = ap last_comma before ∙ rw (clear, ne_eqb _ _ f)
