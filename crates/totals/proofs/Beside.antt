-- The reads in a reply stand beside what is told: a host that does not look at them is told the same.
-- Assumes nothing.
use Prim.Native.Nat.{ℕ, ◌+◌, ◌*◌, ◌/◌, ◌%◌, ◌≤◌, ◌<◌, ◌^◌}
use mathlib.Core.Bool.{Bool, true, false}
use mathlib.Core.List.{List}
use mathlib.Core.Path.{◌≡◌, refl, sym, ap, ◌∙◌, subst}
use native.Mathlib.Omega.{arith}
use borrow.Author.Tests.{le-leb, leb-true, eq-eqb, eqb-true}
use lib.Dec.{eqb, leb}
use lib.ListN.{length, take, drop}
use Rattle.protocol.specs.Bytes.{pick, le, over, put, bytes_of, number_at}
use Rattle.protocol.specs.Records.{u64_at}
use Rattle.protocol.proofs.Bodies.{pick-cases}
use Rattle.protocol.proofs.Bytes.{over-before, over-there, put_in, put-length, length-bytes_of, le-bytes_of}
use Rattle.session.specs.Host.{told}
use Rattle.session.proofs.Buf.{number-in}
use Rattle.boundary.specs.Heard.{at, done_heard, answer_heard, heard}
use Rattle.boundary.specs.Told.{reply_bytes}
use Rattle.boundary_misuse.specs.Misuse.{Act, Event, acted}
use Rattle.boundary_parts.specs.Bounds.{Part, nothing, of_rx, of_msg, of_lent, of_out, named, told_part, Inside}
use Rattle.totals.specs.Crossing.{count_at, counted}
use Rattle.totals.proofs.Steps.{acted-all}

-- its first 14 numbers stay
front_same : (out b : List ℕ) → take count_at (put out count_at b) ≡ take count_at out
unfolding put
front_same out b = pick-cases (λ (l : List ℕ). take count_at l ≡ take count_at out) (leb (count_at + length b) (length out)) (λ e. over-before out count_at b (omega (arith, leb-true (count_at + length b) (length out) e))) (λ _. refl)

module _ (out out' : List ℕ) (e : take count_at out ≡ take count_at out') where
  same_at : (i : ℕ) → i < 14 → at out i ≡ at out' i
  same_at i h =
      sym (number-in count_at 8 (8 * i) out (le-leb (8 * i + 8) count_at (omega arith))) ∙ ap (number_at 8 (8 * i)) e ∙ number-in count_at 8 (8 * i) out' (le-leb (8 * i + 8) count_at (omega arith))

  same-told : (n : ℕ) (rx msg : List ℕ) → answer_heard n out rx msg ≡ answer_heard n out' rx msg
  unfolding answer_heard done_heard
  same-told n rx msg =
      rw (
        same_at 0 (omega arith),
        same_at 1 (omega arith),
        same_at 2 (omega arith),
        same_at 3 (omega arith),
        same_at 4 (omega arith),
        same_at 5 (omega arith),
        same_at 6 (omega arith),
        same_at 7 (omega arith),
        same_at 8 (omega arith),
        same_at 9 (omega arith),
        same_at 10 (omega arith),
        same_at 11 (omega arith),
        same_at 12 (omega arith),
        same_at 13 (omega arith),
      )

-- what is told or asked
pub heard-counted : (n k : ℕ) (out rx msg : List ℕ) → heard n (counted n k out) rx msg ≡ heard n out rx msg
unfolding heard
heard-counted n k out rx msg = go (eqb (n % 256) 0) refl
  where
    go : (b : Bool) → eqb (n % 256) 0 ≡ b → heard n (pick b (put out count_at (bytes_of 8 k)) out) rx msg ≡ heard n out rx msg
    go true e = rw e (ap told (same-told (put out count_at (bytes_of 8 k)) out (front_same out (bytes_of 8 k)) (n / 256) rx msg))
    go false e = refl

-- the reads are read back, where there is room for them
pub counted-bytes : (n k : ℕ) (out : List ℕ) → n % 256 ≡ 0 → count_at + 8 ≤ length out → u64_at count_at (counted n k out) ≡ le (bytes_of 8 k)
unfolding number_at
counted-bytes n k out e l =
    let f : count_at + length (bytes_of 8 k) ≤ length out = omega (arith, length-bytes_of 8 k) in
    rw (eq-eqb (n % 256) 0 e, put_in out count_at (bytes_of 8 k) f)
    (ap (λ (j : ℕ). le (take j (drop count_at (over out count_at (bytes_of 8 k))))) (sym (length-bytes_of 8 k)) ∙ ap le (over-there out count_at (bytes_of 8 k) f))

pub counted-at : (n k : ℕ) (out : List ℕ) → k < 2 ^ 64 → n % 256 ≡ 0 → count_at + 8 ≤ length out → u64_at count_at (counted n k out) ≡ k
counted-at n k out h e l = counted-bytes n k out e l ∙ le-bytes_of 8 k h

-- a step leaves the slice as long as it was
pub out-kept : (x : List ℕ) (e : Event) (a : Act) → length (acted x e a).out ≡ length e.out
out-kept x e a =
    acted-all x e (λ c. length c.out ≡ length e.out) refl (λ _ o. put-length e.out 0 (reply_bytes o.reply)) (λ t r. put-length e.out 0 (reply_bytes r)) a

-- a reply names the same part
named-front : (n : ℕ) (o out : List ℕ) → n % 256 ≡ 0 → take count_at o ≡ take count_at out → named n o ≡ named n out
unfolding named told_part
named-front n o out z e = rw (eq-eqb (n % 256) 0 z, same_at o out e 0 (omega arith), same_at o out e 1 (omega arith), same_at o out e 2 (omega arith))

inside-as : (rx msg lent o out : List ℕ) → length o ≡ length out → (p : Part) → Inside rx msg lent out p → Inside rx msg lent o p
inside-as rx msg lent o out l nothing f = tt
inside-as rx msg lent o out l (of_rx i m) f = f
inside-as rx msg lent o out l (of_msg i m) f = f
inside-as rx msg lent o out l (of_lent i m) f = f
inside-as rx msg lent o out l (of_out i m) f = omega (arith, f)

pub inside-counted : (rx msg lent out : List ℕ) (n k : ℕ) → Inside rx msg lent out (named n out) → Inside rx msg lent (counted n k out) (named n (counted n k out))
inside-counted rx msg lent out n k f = go (eqb (n % 256) 0) refl
  where
    o : List ℕ
    o = put out count_at (bytes_of 8 k)

    go : (b : Bool) → eqb (n % 256) 0 ≡ b → Inside rx msg lent (pick b o out) (named n (pick b o out))
    go true e =
        subst (Inside rx msg lent o) (sym (named-front n o out (eqb-true (n % 256) 0 e) (front_same out (bytes_of 8 k))))
        (inside-as rx msg lent o out (put-length out count_at (bytes_of 8 k)) (named n out) f)
    go false e = f
