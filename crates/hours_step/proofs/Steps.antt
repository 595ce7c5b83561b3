-- The cases of a step on a record with hours: turned away by its length, or by the hours, or a step of the session inside. Assumes nothing.
use Prim.Native.Nat.{ℕ, ◌<◌, ◌^◌}
use mathlib.Core.Bool.{Bool, true, false, true≢false, ◌&&◌, ◌||◌, not}
use mathlib.Core.List.{List, [], ◌∷◌, ◌++◌}
use mathlib.Core.Logic.{◌⊎◌, inl, inr}
use mathlib.Core.Path.{◌≡◌, refl, sym, ap, ap₂, ◌∙◌}
use native.Mathlib.Omega.{arith}
use borrow.Author.Tests.{eq-eqb, ne_eqb, eqb-true}
use lib.Dec.{eqb}
use lib.ListN.{length, take, drop}
use lib.Seq.{take-take, length-take-le}
use Rattle.protocol.specs.Bytes.{Bytes, pick, put}
use Rattle.protocol.proofs.Words.{bytes_take}
use Rattle.record.specs.Record.{size, loaded, words}
use Rattle.boundary.specs.Crossing.{Crossed, crossed, cross_start}
use Rattle.boundary.specs.Told.{reply_number, reply_bytes}
use Rattle.protocol.specs.Hours.{lets}
use Rattle.hours_taken.specs.Taken.{takes_push}
use Rattle.hours_taken.proofs.Laws.{taken-push}
use Rattle.hours_totals.specs.Crossing.{timed_size, hours_at, starts_push, beside, closed_now, on_timed}
use Rattle.totals.specs.Crossing.{record_size, refuses, counted, wrong_length, total_start}
use Rattle.totals_step.specs.Settled.{room_for}
use Rattle.totals_step.proofs.Steps.{short-start, room-takes}

-- 7 or 8
push_number : (n : ℕ) → starts_push n ≡ true → (n ≡ 7) ⊎ (n ≡ 8)
push_number n e = go (eqb n 7) (eqb n 8) refl refl e
  where
    go : (a b : Bool) → eqb n 7 ≡ a → eqb n 8 ≡ b → a || b ≡ true → (n ≡ 7) ⊎ (n ≡ 8)
    go true b p q f = inl (eqb-true n 7 p)
    go false true p q f = inr (eqb-true n 8 q)
    go false false p q f = absurd (true≢false (sym f))

module _ (rec rx msg out : List ℕ) where
  pub other_length : {o : List ℕ} {n : ℕ} (c : Crossed) → (length rec ≡ timed_size → ⊥) → (n ≡ wrong_length) × (o ≡ counted wrong_length 0 out)
      → crossed rec rx msg o n ≡ on_timed rec rx msg out c
  other_length c h (e, f) = rw (ne_eqb (length rec) timed_size h) (ap₂ (λ (l : List ℕ) (m : ℕ). crossed rec rx msg l m) f e)

  module _ (here : length rec ≡ timed_size) (c : Crossed) where
    -- a step of the session inside
    pub inside : {x rx' msg' out' : List ℕ} {k : ℕ} → crossed x rx' msg' out' k ≡ c
        → crossed (x ++ drop record_size rec) rx' msg' out' k ≡ on_timed rec rx msg out (beside rec c)
    inside e = rw (eq-eqb (length rec) timed_size here) (ap (beside rec) e)

    module _ (n t : ℕ) where
      abbrev pub test : Bool
      test = not (lets (hours_at rec) t) && (starts_push n && not (refuses c.number))

      abbrev turned : Crossed
      turned = pick test (closed_now rec rx msg out) (beside rec c)

      pub let_in : {x rx' msg' out' : List ℕ} {k : ℕ} → test ≡ false → crossed x rx' msg' out' k ≡ c
          → crossed (x ++ drop record_size rec) rx' msg' out' k ≡ on_timed rec rx msg out turned
      let_in f e = inside e ∙ rw f

      pub closed : {o : List ℕ} {m : ℕ} → test ≡ true → (m ≡ 6400) × (o ≡ counted 6400 0 (put out 0 (words (7 ∷ 0 ∷ 0 ∷ []))))
          → crossed rec rx msg o m ≡ on_timed rec rx msg out turned
      unfolding reply_bytes reply_number
      closed f (p, q) = ap₂ (λ (l : List ℕ) (j : ℕ). crossed rec rx msg l j) q p ∙ rw (eq-eqb (length rec) timed_size here, f)

-- what is tested ahead of a start is what its step would tell
module _ (rec rx msg lent out : List ℕ) (n a b : ℕ) (here : length rec ≡ timed_size) (known : Bytes rec) where
  abbrev pub step : Crossed
  step = total_start (take record_size rec) rx msg lent n a b out

  -- the session's own step
  abbrev own : Crossed
  own = cross_start (take size rec) rx msg lent n a b out

  same_number : step.number ≡ own.number
  unfolding total_start
  same_number =
      rw (eq-eqb (length (take record_size rec)) record_size (length-take-le record_size rec (omega (arith, here))), take-take size record_size rec (omega arith))

  module _ (bytes : Bytes rx) (few : length msg < 2 ^ 63) (short : length lent < 2 ^ 63) (p : a < 2 ^ 32) (q : b < 2 ^ 32) where
    abbrev takes : Bool
    takes = takes_push (loaded (take size rec)) (length rx) (length msg) lent n a b

    taken : starts_push n ≡ true → room_for (length out) takes ≡ not (refuses step.number)
    taken e =
        room-takes (take size rec) rx msg out own (λ h. short-start (take size rec) rx msg lent out h n a b) takes
        (λ o. taken-push (take size rec) rx msg lent out a b p q bytes few short (bytes_take size rec known) o n (push_number n e))
        ∙ ap (λ (k : ℕ). not (refuses k)) (sym same_number)

    pub tested : (g : Bool) → ((g && starts_push n) && room_for (length out) takes) ≡ (g && (starts_push n && not (refuses step.number)))
    tested g = go g (starts_push n) refl
      where
        go : (g s : Bool) → starts_push n ≡ s → ((g && s) && room_for (length out) takes) ≡ (g && (s && not (refuses step.number)))
        go false s e = refl
        go true false e = refl
        go true true e = taken e
