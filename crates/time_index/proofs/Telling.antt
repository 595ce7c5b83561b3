-- Slots and area that hold a list of items: what queries tell of them. Assumes nothing.
use Prim.Native.Nat.{ℕ, zero, suc, ◌+◌, ◌-◌, ◌≤◌, ◌<◌}
use mathlib.Core.Bool.{Bool}
use mathlib.Core.List.{List, [], ◌∷◌}
use mathlib.Core.Option.{Option, some}
use mathlib.Core.Path.{◌≡◌, refl, sym, ap, ◌∙◌}
use native.Mathlib.Omega.{arith}
use borrow.Author.Tests.{le-leb, lt-ltb}
use lib.IntN.{ℤ}
use lib.ListN.{length, take, drop, get_or}
use lib.Seq.{drop-cons}
use Rattle.protocol.specs.Bytes.{put}
use Rattle.boundary.specs.Told.{out_size}
use Rattle.boundary.proofs.Heard.{at_words}
use Rattle.record.specs.Fields.{unsigned}
use Rattle.record.specs.Record.{words}
use Rattle.record.proofs.Numbers.{signed_back, unsigned-wide}
use Rattle.time_index.specs.Index.{most_entries, most_names, Item, no_later, earlier, total, in_time, between, latest}
use Rattle.time_index.specs.Slots.{count_in, used_in, time_at, start_at, length_at, up_to, below}
use Rattle.time_index.specs.Crossing.{answering, latest_of, entry_words, entry_in, cross_index_between, cross_index_latest, cross_index_entry}
use Rattle.time_index.specs.Claim.{item_heard, items_from, items_heard, between_heard, latest_heard, one_or_none}
use Rattle.time_index.proofs.Kept.{Kept, fit_at, length-placed, length-in_time, count_kept, used_kept, is-kept, item-at, times-kept, up_to-kept, below-kept}
use Rattle.time_index.proofs.Placed.{Placed, Fits, no_place, time-bits, start_back, length_back, number-back}
use Rattle.time_index.proofs.Queries.{lead_to, lead_below, first-rank, between-part, latest-none, latest-some}
use Rattle.time_index.proofs.Ranks.{no_item, time_of, lead, lead_most}

module _ {before s area : List ℕ} {held : List Item} (k : Kept before s area held) (out : List ℕ) (size : out_size ≤ length out) where
  -- a query is answered
  asked : (a : List ℕ × ℕ) → answering s (length area) out a ≡ a
  asked a = rw (is-kept k, le-leb out_size (length out) size)

  module _ (r : ℕ) (h : r < length k.placed) where
    abbrev p : Placed
    p = get_or k.placed r no_place

    fit : Fits (total held) p
    fit = fit_at (total held) k.placed k.fits r h

    narrow : total held ≤ most_names
    narrow = omega (arith, k.room)

    starts : start_at s r ≡ p.start
    starts = start_back s (length area) (total held) k.placed k.rest k.shape narrow r h fit

    spans : length_at s r ≡ p.size
    spans = length_back s (length area) (total held) k.placed k.rest k.shape narrow r h fit

    abbrev told : List ℕ
    told = 1 ∷ p.start ∷ p.size ∷ p.number ∷ unsigned p.time ∷ []

    told-words : entry_words s r ≡ told
    told-words =
        rw (
          starts,
          spans,
          number-back s (length area) (total held) k.placed k.rest k.shape narrow r h fit,
          time-bits s (length area) (total held) k.placed k.rest k.shape narrow r h fit,
        )

    entry-told : cross_index_entry s (length area) r out ≡ (put out 0 (words told), 0)
    unfolding cross_index_entry
    entry-told =
        asked (entry_in s r out)
        ∙ rw (lt-ltb r (count_in s) (omega (arith, count_kept k)), le-leb (start_at s r + length_at s r) (used_in s) (omega (arith, starts, spans, used_kept k, fit.inside)))
        (ap (λ (l : List ℕ). (put out 0 (words l), 0)) told-words)

    item-told : item_heard area (cross_index_entry s (length area) r out) ≡ some (get_or (in_time held) r no_item)
    item-told =
        let u = unsigned-wide p.time fit.time in
        let w = at_words out size told (omega (arith, fit.inside, fit.number, narrow)) (omega arith) in
        ap (item_heard area) entry-told
        ∙ rw (w 0 refl, w 1 refl, w 2 refl, w 3 refl, w 4 refl, signed_back p.time fit.time)
        (ap some (sym (item-at k r h)))

  items-told : (n r : ℕ) → r + n ≤ length held → items_from s area out r n ≡ some (take n (drop r (in_time held)))
  items-told zero r h = refl
  items-told (suc n) r h =
      let g : r < length k.placed = omega (arith, length-placed k) in
      let i : r < length (in_time held) = omega (arith, length-in_time held) in
      rw (item-told r g, items-told n (suc r) (omega arith), drop-cons (in_time held) r no_item i)

  lead_few : (q : ℤ → Bool) → lead q (in_time held) ≤ length held
  lead_few q = omega (arith, lead_most q (in_time held), length-in_time held)

  held-few : length held ≤ most_entries
  held-few = omega (arith, k.few, length-placed k)

  -- a query's two numbers, and the items that they name
  query_told : (n r : ℕ) → r + n ≤ length held → items_heard s area out (put out 0 (words (n ∷ r ∷ [])), 0) ≡ some (take n (drop r (in_time held)))
  query_told n r h =
      let w = at_words out size (n ∷ r ∷ []) (omega (arith, held-few)) (omega arith) in
      rw (w 0 refl, w 1 refl) (items-told n r h)

  pub between_told : (a b : ℤ) → between_heard s area out a b ≡ some (between a b held)
  unfolding cross_index_between
  between_told a b =
      ap (items_heard s area out) (asked (put out 0 (words ((up_to s b - below s a) ∷ below s a ∷ [])), 0))
      ∙ rw (up_to-kept k b, below-kept k a)
      (query_told (lead_to b (in_time held) - lead_below a (in_time held)) (lead_below a (in_time held)) (omega (arith, lead_few (λ z. no_later z b), lead_few (λ z. earlier z a)))
      ∙ ap some (sym (between-part a b held)))

  pub latest_told : (t : ℤ) → latest_heard s area out t ≡ some (one_or_none (latest t held))
  unfolding cross_index_latest
  latest_told t =
      ap (items_heard s area out) (asked (put out 0 (words (latest_of s (up_to s t))), 0))
      ∙ rw (up_to-kept k t) (go (lead_to t (in_time held)) refl)
    where
      go : (n : ℕ) → lead_to t (in_time held) ≡ n → items_heard s area out (put out 0 (words (latest_of s n)), 0) ≡ some (one_or_none (latest t held))
      go zero e = query_told 0 0 (omega arith) ∙ sym (ap (λ (o : Option Item). some (one_or_none o)) (latest-none t held e))
      go (suc r) e =
          let h : r < length (in_time held) = omega (arith, lead_most (λ z. no_later z t) (in_time held)) in
          let f = lead_below (time_of (in_time held) r) (in_time held) in
          let g : f < length (in_time held) = omega (arith, first-rank (in_time held) r) in
          let b : below s (time_at s r) ≡ f = ap (below s) (times-kept k r h) ∙ below-kept k (time_of (in_time held) r) in
          let one : take 1 (drop f (in_time held)) ≡ get_or (in_time held) f no_item ∷ [] = ap (take 1) (drop-cons (in_time held) f no_item g) in
          ap (λ (n : ℕ). items_heard s area out (put out 0 (words (1 ∷ n ∷ [])), 0)) b
          ∙ query_told 1 f (omega (arith, length-in_time held))
          ∙ ap some one
          ∙ sym (ap (λ (o : Option Item). some (one_or_none o)) (latest-some t held r e))
