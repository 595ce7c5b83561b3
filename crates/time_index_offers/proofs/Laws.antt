-- What a reply offers, by the numbers that the code reads of it. Assumes nothing.
use Prim.Native.Nat.{ℕ, ◌+◌, ◌*◌, ◌≤◌, ◌<◌}
use mathlib.Core.List.{List}
use mathlib.Core.Path.{◌≡◌, sym, ◌∙◌}
use native.Mathlib.Omega.{arith}
use borrow.Author.Tests.{lt-ltb, le-ltb, le-leb, lt-leb, ne_eqb}
use lib.ListN.{length, take, drop}
use Rattle.protocol.specs.Bytes.{number_at, signed, whole}
use Rattle.protocol.specs.Records.{u64_at}
use Rattle.protocol.proofs.Bytes.{whole_in}
use Rattle.protocol.proofs.Records.{signed_low}
use Rattle.boundary.specs.Heard.{at}
use Rattle.boundary.specs.Told.{out_size}
use Rattle.time_index.specs.Index.{entry, nothing, unknown}
use Rattle.time_index.specs.Crossing.{offered_by}
use Rattle.time_index.proofs.Offering.{kind_offers, kind-few, kind-many, kind-out, entry_in_lem, entry2-in, chunk_in}
use Rattle.time_index_offers.specs.Offers.{offered_in}

-- the number at an offset of a slice, as it is read
abbrev pub read_at : List ℕ → ℕ → ℕ
read_at reply off = whole 8 0 (u64_at 0) reply off

module _ (told : ℕ) (reply rx : List ℕ) where
  pub offers-short : length reply < out_size → unknown ≡ offered_in told reply rx
  unfolding offered_in
  offers-short h = rw (lt-leb _ _ h)

  module _ (long : out_size ≤ length reply) where
    pub offers-other : (told ≡ 0 → ⊥) → nothing ≡ offered_in told reply rx
    unfolding offered_in offered_by
    offers-other f = rw (le-leb _ _ long, ne_eqb told 0 f)

    pub read_at_lem : (i : ℕ) → i < 14 → read_at reply (8 * i) ≡ at reply i
    unfolding number_at
    read_at_lem i h = whole_in 8 0 (u64_at 0) reply (8 * i) (omega arith)

    -- a call that went through, of a kind that is read
    module _ (went : told ≡ 0) {k : ℕ} (kind : k ≡ read_at reply 0) where
      pub by_kind : kind_offers reply rx k ≡ offered_in told reply rx
      unfolding offered_in offered_by
      by_kind = rw (le-leb _ _ long, went, kind, read_at_lem 0 (omega arith))

      pub offers-few : k < 4 → nothing ≡ offered_in told reply rx
      offers-few h = sym (kind-few reply rx k h) ∙ by_kind

      pub offers-many : 6 < k → unknown ≡ offered_in told reply rx
      offers-many h = sym (kind-many reply rx k h) ∙ by_kind

-- ... whose kind has a part: where it starts, how long it is
pub record Part (told : ℕ) (reply rx : List ℕ) (k i n : ℕ) : Type 0 where
  pub long : out_size ≤ length reply
  pub went : told ≡ 0
  pub kind : k ≡ read_at reply 0
  pub more : 4 ≤ k
  pub start : i ≡ read_at reply 8
  pub size : n ≡ read_at reply 16

module _ {told : ℕ} {reply rx : List ℕ} {k i n : ℕ} (p : Part told reply rx k i n) where
  word : (j : ℕ) → j < 14 → read_at reply (8 * j) ≡ at reply j
  word = read_at_lem told reply rx p.long

  starts : at reply 1 ≡ i
  starts = cc (word 1 (omega arith))

  sized : at reply 2 ≡ n
  sized = cc (word 2 (omega arith))

  kinds : kind_offers reply rx k ≡ offered_in told reply rx
  kinds = by_kind told reply rx p.long p.went p.kind

  pub offers-out : length rx < i + n → unknown ≡ offered_in told reply rx
  offers-out h = sym (kind-out reply rx k p.more (omega (arith, starts, sized))) ∙ kinds

  module _ (within : i + n ≤ length rx) where
    inside : at reply 1 + at reply 2 ≤ length rx
    inside = omega (arith, starts, sized)

    pub offers-chunk : k ≡ 6 → nothing ≡ offered_in told reply rx
    offers-chunk e = sym (chunk_in reply rx inside) ∙ rw e at kinds

    pub offers-entry2 : {t : ℕ} → k ≡ 5 → t ≡ read_at reply 96 → entry (signed t) (take n (drop i rx)) ≡ offered_in told reply rx
    offers-entry2 e r = rw (r, word 12 (omega arith), ← starts, ← sized) (sym (entry2-in reply rx inside) ∙ rw e at kinds)

    module _ {t : ℕ} (e : k ≡ 4) (r : t ≡ read_at reply 40) where
      times : at reply 5 ≡ t
      times = cc (word 5 (omega arith))

      pub offers-entry : t < 0x1_0000_0000 → entry (signed t) (take n (drop i rx)) ≡ offered_in told reply rx
      offers-entry h =
          rw (signed_low t (omega arith), ← times, ← starts, ← sized)
          (sym (entry_in_lem reply rx inside ∙ rw (lt-ltb (at reply 5) 0x1_0000_0000 (omega (arith, times)))) ∙ rw e at kinds)

      pub offers-late : 0x1_0000_0000 ≤ t → unknown ≡ offered_in told reply rx
      offers-late h = sym (entry_in_lem reply rx inside ∙ rw (le-ltb (at reply 5) 0x1_0000_0000 (omega (arith, times)))) ∙ rw e at kinds
