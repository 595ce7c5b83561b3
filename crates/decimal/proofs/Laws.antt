-- How many digits a number has, by powers of ten; a store in front of what is put; the digits put from the last to the first.
-- Assumes nothing.
use mathlib.Core.List.{List, [], ◌∷◌, ◌++◌}
use mathlib.Core.Path.{◌≡◌, sym, ap, ◌∙◌}
use Prim.Native.Nat.{ℕ, zero, suc, ◌+◌, ◌-◌, ◌*◌, ◌/◌, ◌%◌, ◌^◌, ◌<◌, ◌≤◌}
use native.Mathlib.Decide.{dec_lt}
use native.Mathlib.Nat.{zero-add, pow-suc, one-le-pow}
use native.Mathlib.Numerals.{add-one}
use native.Mathlib.Omega.{arith}
use lib.ListN.{length, set, drop, length-append, length-set}
use lib.Seq.{append_snoc, drop-cons, get_or-set_same, drop-set-lt}
use Rattle.protocol.specs.Bytes.{over}
use Rattle.protocol.specs.Decimal.{decimal}
use Rattle.protocol.proofs.Bytes.{over_none}
use Rattle.protocol.proofs.Decimal.{decimal_nonempty}
use Rattle.protocol.proofs.Digits.{digits-small, digits_step, digits-width, length-small, length-step}

pub over_last : (b m : List ℕ) (d at : ℕ) → at ≡ length m → at < length b → over (set b at d) 0 m ≡ over b 0 (m ++ d ∷ [])
unfolding over
over_last b m d at e h =
    rw (zero-add (length m), zero-add, length-append, add-one, ← e)
    (ap (λ (l : List ℕ). m ++ l) stored ∙ sym (append_snoc m d (drop (suc at) b)))
  where
    stored : drop at (set b at d) ≡ d ∷ drop (suc at) b
    stored = rw (drop-cons (set b at d) at 0 (simp length-set h), get_or-set_same b at d 0 h, drop-set-lt (suc at) b at d (omega arith))

at_least : (k n : ℕ) → 10 ^ k ≤ n → k < length (decimal n)
at_least zero n h = decimal_nonempty n
at_least (suc k) n h =
    let e = pow-suc 10 k in
    let p = one-le-pow k 10 (omega arith) in
    let r = at_least k (n / 10) (omega (arith, e)) in
    omega (arith, r, length-step 10 (omega arith) n (omega (arith, e, p)))

pub length-power : (k n : ℕ) → 10 ^ k ≤ n → n < 10 * 10 ^ k → length (decimal n) ≡ k + 1
length-power k n low high = omega (arith, at_least k n low, digits-width 10 (omega arith) k n (omega (arith, pow-suc 10 k)))

-- with the digits of m put over its front, `out` is what it is to become, where places are left; else it is that
abbrev pub Left : (at m : ℕ) (out goal : List ℕ) → Type 0
Left at m out goal = (0 < at → (at ≡ length (decimal m)) × (over out 0 (decimal m) ≡ goal)) × (at ≡ 0 → out ≡ goal)

pub left-next : (at m : ℕ) (out goal : List ℕ) → 0 < at → at ≤ length out → Left at m out goal
    → Left (at - 1) (m / 10) (set out (at - 1) (48 + m % 10)) goal
left-next at m out goal some_left fits h = go (dec_lt m 10)
  where
    go : Dec (m < 10) → Left (at - 1) (m / 10) (set out (at - 1) (48 + m % 10)) goal
    go (yes s) =
        let l = length-small 10 (omega arith) m s in
        let n = (h.0 some_left).0 in
        let d : m % 10 ≡ m = omega arith in (
          λ z. absurd (omega (arith, l, n)),
          λ z.
              sym (over_none (set out (at - 1) (48 + m % 10)) 0)
              ∙ over_last out [] (48 + m % 10) (at - 1) (omega arith) (omega arith)
              ∙ rw (d, ← digits-small 10 (omega arith) m s) (h.0 some_left).1,
        )
    go (no f) =
        let l = length-step 10 (omega arith) m (omega arith) in
        let n = (h.0 some_left).0 in
        let p = decimal_nonempty (m / 10) in (
          λ z. (
            omega (arith, l, n),
            over_last out (decimal (m / 10)) (48 + m % 10) (at - 1) (omega (arith, l, n)) (omega arith)
                ∙ rw (digits_step 10 (omega arith) m (omega arith)) at (h.0 some_left).1,
          ),
          λ z. absurd (omega (arith, l, n, p)),
        )
