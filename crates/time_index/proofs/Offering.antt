-- What the replies that a host is told offer to the index: by their kind, and that it is what the answers heard in them do. Assumes nothing.
use Prim.Native.Nat.{ℕ, zero, suc, ◌+◌, ◌≤◌, ◌<◌, ◌%◌, ◌/◌}
use mathlib.Core.Bool.{Bool, true, false}
use mathlib.Core.List.{List}
use mathlib.Core.Path.{◌≡◌, refl, ap}
use native.Mathlib.Decide.{ℕ_discrete}
use native.Mathlib.Omega.{arith}
use borrow.Author.Tests.{le-leb, lt-leb, ne_eqb, eqb-true}
use lib.Dec.{eqb, leb, ltb}
use lib.IntN.{pos}
use lib.ListN.{length, take, drop}
use Rattle.protocol.specs.Answers as P
use Rattle.protocol.specs.Answers.{Answer}
use Rattle.protocol.specs.Bytes.{pick, signed}
use Rattle.boundary.specs.Heard.{at, done_heard, answer_heard, heard}
use Rattle.session.specs.Host as H
use Rattle.session.specs.Shown.{part_of}
use Rattle.time_index.specs.Index.{Offer, entry, nothing, unknown, offered, Known}
use Rattle.time_index.specs.Crossing.{offered_by}

-- ---- a call that went through, by its kind

module _ (reply rx : List ℕ) where
  abbrev pub kind_offers : ℕ → Offer
  kind_offers k = offered (done_heard k reply rx)

  pub kind-few : (k : ℕ) → k < 4 → kind_offers k ≡ nothing
  unfolding done_heard offered
  kind-few zero h = refl
  kind-few (suc zero) h = refl
  kind-few (suc (suc zero)) h = refl
  kind-few (suc (suc (suc zero))) h = refl
  kind-few (suc (suc (suc (suc k)))) h = absurd (omega arith)

  pub kind-many : (k : ℕ) → 6 < k → kind_offers k ≡ unknown
  unfolding done_heard offered
  kind-many k h =
      rw (
        ne_eqb k 0 (omega arith),
        ne_eqb k 1 (omega arith),
        ne_eqb k 2 (omega arith),
        ne_eqb k 3 (omega arith),
        ne_eqb k 4 (omega arith),
        ne_eqb k 5 (omega arith),
        ne_eqb k 6 (omega arith),
      )

  -- a part that does not lie in the receive buffer
  pub kind-out : (k : ℕ) → 4 ≤ k → length rx < at reply 1 + at reply 2 → kind_offers k ≡ unknown
  unfolding done_heard offered part_of
  kind-out k m h =
      rw (ne_eqb k 0 (omega arith), ne_eqb k 1 (omega arith), ne_eqb k 2 (omega arith), ne_eqb k 3 (omega arith), lt-leb _ _ h)
      (go (eqb k 4) (eqb k 5) (eqb k 6))
    where
      go : (p q r : Bool) → offered (pick p (P.refused 0) (pick q (P.refused 0) (pick r (P.refused 0) (P.refused 0)))) ≡ unknown
      go true q r = refl
      go false true r = refl
      go false false true = refl
      go false false false = refl

  -- ... and one that does
  module _ (h : at reply 1 + at reply 2 ≤ length rx) where
    abbrev name : List ℕ
    name = take (at reply 2) (drop (at reply 1) rx)

    pub entry_in_lem : kind_offers 4 ≡ pick (ltb (at reply 5) 0x1_0000_0000) (entry (pos (at reply 5)) name) unknown
    unfolding done_heard offered part_of
    entry_in_lem = rw (le-leb _ _ h)

    pub entry2-in : kind_offers 5 ≡ entry (signed (at reply 12)) name
    unfolding done_heard offered part_of
    entry2-in = rw (le-leb _ _ h)

    pub chunk_in : kind_offers 6 ≡ nothing
    unfolding done_heard offered part_of
    chunk_in = rw (le-leb _ _ h)

-- ---- what is heard

-- an answer that offers no entry
abbrev Silent : Answer → Type 0
Silent a = Known a → nothing ≡ offered a

silent_pick : (b : Bool) (x y : Answer) → Silent x → Silent y → Silent (pick b x y)
silent_pick true x y s t = s
silent_pick false x y s t = t

fail-silent : (b : List ℕ) (i n : ℕ) → Silent (part_of b i n P.fail)
unfolding part_of offered
fail-silent b i n = silent_pick (leb (i + n) (length b)) _ _ (λ h. refl) (λ h. absurd (h refl))

-- every answer but a call that went through
other_silent : (m : ℕ) (reply rx msg : List ℕ) → (m ≡ 0 → ⊥) → Silent (answer_heard m reply rx msg)
unfolding answer_heard offered
other_silent m reply rx msg f =
    rw (ne_eqb m 0 f)
    (silent_pick (eqb m 10) _ _ (λ h. refl)
    (silent_pick (eqb m 12) _ _ (λ h. refl)
    (silent_pick (eqb m 13) _ _ (λ h. refl)
    (silent_pick (eqb m 14) _ _ (fail-silent msg (at reply 1) (at reply 2))
    (silent_pick (eqb m 15) _ _ (λ h. refl)
    (silent_pick (eqb m 16) _ _ (λ h. refl) (silent_pick (eqb m 17) _ _ (λ h. refl) (λ h. rw (ne_eqb m 0 f)))))))))

module _ (told : ℕ) (reply rx msg : List ℕ) (a : Answer) where
  -- nothing else is told
  answer-heard : heard told reply rx msg ≡ H.told a → (told % 256 ≡ 0) × (answer_heard (told / 256) reply rx msg ≡ a)
  unfolding heard
  answer-heard e = go (eqb (told % 256) 0) (eqb (told % 256) 1) (eqb (told % 256) 2) (eqb (told % 256) 3) (eqb (told % 256) 4) refl e
    where
      go : (p q r s t : Bool) → eqb (told % 256) 0 ≡ p
          → pick p (H.told (answer_heard (told / 256) reply rx msg))
          (pick q (H.read (at reply 0) (at reply 1))
          (pick r (H.write_rx (at reply 0) (at reply 1))
          (pick s (H.write_lent (at reply 0) (at reply 1)) (pick t (H.write_bytes (take (at reply 0) (drop 8 reply))) H.close))))
          ≡ H.told a
          → (told % 256 ≡ 0) × (answer_heard (told / 256) reply rx msg ≡ a)
      go true q r s t z h = (eqb-true _ _ z, (cc))
      go false true r s t z h = ((cc), (cc))
      go false false true s t z h = ((cc), (cc))
      go false false false true t z h = ((cc), (cc))
      go false false false false true z h = ((cc), (cc))
      go false false false false false z h = ((cc), (cc))

  pub heard-offers : heard told reply rx msg ≡ H.told a → Known a → offered_by told reply rx ≡ offered a
  unfolding offered_by answer_heard
  heard-offers e known = go (answer-heard e) (ℕ_discrete told 0)
    where
      go : (told % 256 ≡ 0) × (answer_heard (told / 256) reply rx msg ≡ a) → Dec (told ≡ 0) → offered_by told reply rx ≡ offered a
      go (z, h) (yes n) = let q : told / 256 ≡ 0 = omega arith in rw n (ap offered (rw q at h))
      go (z, h) (no f) = rw (ne_eqb told 0 f, ← h) (other_silent (told / 256) reply rx msg (λ q. f (omega arith)) (rw h known))
