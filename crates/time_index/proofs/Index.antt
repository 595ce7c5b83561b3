-- The index beside every list of replies, from opening on: the claim. Assumes nothing.
use Prim.Native.Nat.{ℕ, ◌+◌, ◌*◌, ◌≤◌, ◌<◌, ◌^◌}
use mathlib.Core.Bool.{Bool, true, false, ◌&&◌, and-eq-true_iff, and-false}
use mathlib.Core.List.{List, [], ◌∷◌, ◌++◌}
use mathlib.Core.Path.{◌≡◌, refl, sym, ap, ap₂, subst, ◌∙◌}
use native.Mathlib.Omega.{arith}
use borrow.Author.Tests.{le-leb, eq-eqb, ne_eqb, ltb-true, leb-true}
use lib.Dec.{eqb, leb, ltb}
use lib.IntN.{ℤ}
use lib.ListN.{length, drop}
use Rattle.protocol.specs.Answers.{Answer}
use Rattle.protocol.specs.Bytes.{Bytes, pick, number_at, over, put}
use Rattle.protocol.proofs.Bytes.{over-length}
use Rattle.protocol.proofs.Words.{number-below}
use Rattle.boundary.specs.Heard.{at, done_heard}
use Rattle.boundary.specs.Told.{out_size}
use Rattle.boundary.proofs.Heard.{at_words}
use Rattle.boundary.proofs.Narrow.{signed-fits}
use Rattle.record.specs.Narrow.{I64}
use Rattle.record.specs.Record.{words, word_of}
use Rattle.session.specs.Shown.{part_of}
use Rattle.time_index.specs.Index.{most_entries, most_names, index_full, Item, Offer, entry, nothing, unknown, offered, total, room_in, has_room, taken, answered, held_after, answered_to}
use Rattle.time_index.specs.Slots.{slots_size, mark, headed, is_index, count_in, used_in, slot_at, start_at, length_at, slots_with}
use Rattle.time_index.specs.Crossing.{misplaced, Indexed, indexed, has_slot, offered_by, added, no_words, entry_words, entry_in, cross_index_open, cross_index_add, cross_index_between, cross_index_latest, cross_index_entry}
use Rattle.time_index.specs.Claim.{Tell, Hears, AllKnown, added_by, afterwards, numbers_of, Holding, IndexClaim}
use Rattle.time_index.proofs.Kept.{Kept, length-placed, length_kept, used_kept, is-kept, room-kept, kept-opened, kept_more}
use Rattle.time_index.proofs.Latest.{latest_means, latest_only}
use Rattle.time_index.proofs.Lists.{between_means, between_only}
use Rattle.time_index.proofs.Offering.{heard-offers}
use Rattle.time_index.proofs.Placed.{head-word}
use Rattle.time_index.proofs.Times.{next-later, no_later-on, one_time}
use Rattle.time_index.proofs.Telling.{between_told, latest_told}

-- ---- the time of an offer has 64 bits

abbrev Timed : Offer → Type 0
Timed (entry t name) = I64 t
Timed nothing = Unit {0}
Timed unknown = Unit {0}

timed-pick : (q : Bool) (a b : Answer) → Timed (offered a) → Timed (offered b) → Timed (offered (pick q a b))
timed-pick true a b h g = h
timed-pick false a b h g = g

timed-offer : (q : Bool) (o p : Offer) → (q ≡ true → Timed o) → Timed p → Timed (pick q o p)
timed-offer true o p h g = h refl
timed-offer false o p h g = g

module _ (reply rx : List ℕ) (bytes : Bytes reply) where
  wide : (i : ℕ) → at reply i < 2 ^ 64
  unfolding number_at
  wide i = number-below 8 reply (8 * i) bytes

  timed-told : (kind : ℕ) → Timed (offered (done_heard kind reply rx))
  unfolding done_heard part_of offered
  timed-told kind =
      timed-pick (eqb kind 0) _ _ tt
      (timed-pick (eqb kind 1) _ _ tt
      (timed-pick (eqb kind 2) _ _ tt
      (timed-pick (eqb kind 3) _ _ tt
      (timed-pick (eqb kind 4) _ _
      (timed-pick (leb (at reply 1 + at reply 2) (length rx)) _ _
      (timed-offer (ltb (at reply 5) 0x1_0000_0000) _ unknown (λ e. omega (arith, ltb-true (at reply 5) 0x1_0000_0000 e)) tt) tt)
      (timed-pick (eqb kind 5) _ _ (timed-pick (leb (at reply 1 + at reply 2) (length rx)) _ _ (signed-fits (at reply 12) (wide 12)) tt)
      (timed-pick (eqb kind 6) _ _ (timed-pick (leb (at reply 1 + at reply 2) (length rx)) _ _ tt tt) tt))))))

  timed-by : (told : ℕ) → Timed (offered_by told reply rx)
  unfolding offered_by
  timed-by told = timed-offer (eqb told 0) _ nothing (λ e. timed-told (at reply 0)) tt

-- ---- one reply

has-space : (n : ℕ) (held : List Item) (name : List ℕ) → has_room n held name ≡ true → (length held < most_entries) × (total held + length name ≤ room_in n)
unfolding has_room
has-space n held name e =
    let b = (and-eq-true_iff (ltb (length held) most_entries) (leb (total held + length name) (room_in n))).0 e in
    (ltb-true (length held) most_entries b.0, leb-true (total held + length name) (room_in n) b.1)

-- what an offer makes of slots and area
record Added (before s area : List ℕ) (held : List Item) (n : ℕ) (o : Offer) : Type 0 where
  pub kept : Kept before (added s area o).slots (added s area o).area (taken n held o)
  pub number : (added s area o).number ≡ answered n held o
  pub same : length (added s area o).area ≡ n

module _ {before s area : List ℕ} {held : List Item} (k : Kept before s area held) where
  -- the outcome of an entry, by whether there is room
  entry-added : (t : ℤ) (name : List ℕ) → I64 t → (q : Bool) → has_room (length area) held name ≡ q → Added before s area held (length area) (entry t name)
  unfolding added taken answered
  entry-added t name h true e =
      let r : has_slot s (length area) (length name) ≡ true = room-kept k name ∙ e in
      let both = has-space (length area) held name e in
      record {
        kept = rw (r, e) (kept_more k t name h (omega (arith, both.0, length-placed k)) both.1);
        number = rw (r, e);
        same = rw r (over-length area (used_in s) name (omega (arith, used_kept k, both.1)));
      }
  entry-added t name h false e =
      let r : has_slot s (length area) (length name) ≡ false = room-kept k name ∙ e in
      record { kept = rw (r, e) k; number = rw (r, e); same = rw r }

  offer-added : (o : Offer) → Timed o → Added before s area held (length area) o
  unfolding added taken answered
  offer-added (entry t name) h = entry-added t name h (has_room (length area) held name) refl
  offer-added nothing h = record { kept = k; number = refl; same = refl }
  offer-added unknown h = record { kept = k; number = refl; same = refl }

  -- a reply in which the host heard an answer
  reply-added : (t : Tell) → out_size ≤ length t.reply → added_by s area t ≡ added s area (offered_by t.told t.reply t.rx)
  unfolding cross_index_add
  reply-added t h = rw (is-kept k, le-leb out_size (length t.reply) h)

-- ---- every list of replies

record Ran (before s area : List ℕ) (held : List Item) (n : ℕ) (ts : List Tell) (heards : List Answer) : Type 0 where
  pub kept : Kept before (afterwards s area ts).0 (afterwards s area ts).1 (held_after n held heards)
  pub numbers : numbers_of s area ts ≡ answered_to n held heards

run : {before s area : List ℕ} {held : List Item} → Kept before s area held → (n : ℕ) → length area ≡ n
    → (ts : List Tell) (heards : List Answer) → Hears ts heards → AllKnown heards → Ran before s area held n ts heards
run k n e [] [] h g = record { kept = k; numbers = refl }
run k n e [] (a ∷ rest) h g = absurd h
run k n e (t ∷ ts) [] h g = absurd h
run {before} {s} {area} {held} k n e (t ∷ ts) (a ∷ rest) (long, (bytes, (heard-it, others))) (known, knowns) =
    go (run {s = (added s area (offered a)).slots} {area = (added s area (offered a)).area} {held = taken n held (offered a)} step.kept n step.same ts rest others knowns)
  where
    offer : offered_by t.told t.reply t.rx ≡ offered a
    offer = heard-offers t.told t.reply t.rx t.msg a heard-it known

    outcome : added_by s area t ≡ added s area (offered a)
    outcome = reply-added k t long ∙ ap (added s area) offer

    step : Added before s area held n (offered a)
    step = subst (λ (m : ℕ). Added before s area held m (offered a)) e (offer-added k (offered a) (subst Timed offer (timed-by t.reply t.rx bytes t.told)))

    go : Ran before (added s area (offered a)).slots (added s area (offered a)).area (taken n held (offered a)) n ts rest → Ran before s area held n (t ∷ ts) (a ∷ rest)
    go r =
        record {
          kept = subst (λ (c : Indexed). Kept before (afterwards c.slots c.area ts).0 (afterwards c.slots c.area ts).1 (held_after n held (a ∷ rest)))
              (sym outcome) r.kept;
          numbers = ap (λ (c : Indexed). c.number ∷ numbers_of c.slots c.area ts) outcome ∙ ap₂ ◌∷◌ step.number r.numbers;
        }

-- ---- what is refused

added-stays : (s area : List ℕ) (o : Offer) → ((added s area o).number ≡ 0 → ⊥) → added s area o ≡ indexed s area (added s area o).number
unfolding added
added-stays s area (entry t name) = by (has_slot s (length area) (length name))
  where
    by : (q : Bool) → ((pick q (indexed (slots_with s t (length name)) (over area (used_in s) name) 0) (indexed s area index_full)).number ≡ 0 → ⊥)
        → pick q (indexed (slots_with s t (length name)) (over area (used_in s) name) 0) (indexed s area index_full)
        ≡ indexed s area (pick q (indexed (slots_with s t (length name)) (over area (used_in s) name) 0) (indexed s area index_full)).number
    by true f = absurd (f refl)
    by false f = refl
added-stays s area nothing = λ f. absurd (f refl)
added-stays s area unknown = λ f. refl

stays : (s area : List ℕ) (told : ℕ) (reply rx : List ℕ) → ((cross_index_add s area told reply rx).number ≡ 0 → ⊥)
    → cross_index_add s area told reply rx ≡ indexed s area (cross_index_add s area told reply rx).number
unfolding cross_index_add
stays s area told reply rx = go (is_index s (length area) && leb out_size (length reply))
  where
    o : Offer
    o = offered_by told reply rx

    go : (q : Bool) → ((pick q (added s area o) (indexed s area misplaced)).number ≡ 0 → ⊥)
        → pick q (added s area o) (indexed s area misplaced) ≡ indexed s area (pick q (added s area o) (indexed s area misplaced)).number
    go true f = added-stays s area o f
    go false f = refl

other : (s : List ℕ) (n : ℕ) → (word_of s 1 ≡ n → ⊥) → is_index s n ≡ false
unfolding is_index
other s n f = rw (ne_eqb (word_of s 1) n f, and-false)

used_within : (s : List ℕ) (n : ℕ) → is_index s n ≡ true → used_in s ≤ room_in n
unfolding is_index
used_within s n e =
    leb-true (used_in s) (room_in n)
    ((and-eq-true_iff (eqb (length s) slots_size && eqb (word_of s 0) mark && eqb (word_of s 1) n && leb (count_in s) most_entries) (leb (used_in s) (room_in n))).0 e).1

others : (s area : List ℕ) (told : ℕ) (reply rx : List ℕ) → is_index s (length area) ≡ true → out_size ≤ length reply → (told ≡ 0 → ⊥)
    → cross_index_add s area told reply rx ≡ indexed s area 0
unfolding cross_index_add offered_by added
others s area told reply rx i h f = rw (i, le-leb out_size (length reply) h, ne_eqb told 0 f)

other_add : (s area : List ℕ) (told : ℕ) (reply rx : List ℕ) → (word_of s 1 ≡ length area → ⊥) → cross_index_add s area told reply rx ≡ indexed s area misplaced
unfolding cross_index_add
other_add s area told reply rx f = rw (other s (length area) f)

other_between : (s : List ℕ) (n : ℕ) (a b : ℤ) (out : List ℕ) → (word_of s 1 ≡ n → ⊥) → cross_index_between s n a b out ≡ (out, misplaced)
unfolding cross_index_between
other_between s n a b out f = rw (other s n f)

other_latest : (s : List ℕ) (n : ℕ) (t : ℤ) (out : List ℕ) → (word_of s 1 ≡ n → ⊥) → cross_index_latest s n t out ≡ (out, misplaced)
unfolding cross_index_latest
other_latest s n t out f = rw (other s n f)

other_entry : (s : List ℕ) (n r : ℕ) (out : List ℕ) → (word_of s 1 ≡ n → ⊥) → cross_index_entry s n r out ≡ (out, misplaced)
unfolding cross_index_entry
other_entry s n r out f = rw (other s n f)

opened : (s : List ℕ) (n : ℕ) → length s ≡ slots_size → (cross_index_open s n).1 ≡ 0
unfolding cross_index_open
opened s n e = rw (eq-eqb (length s) slots_size e)

first_length : (s : List ℕ) (n : ℕ) → length s ≡ slots_size → n < 2 ^ 63 → word_of (cross_index_open s n).0 1 ≡ n
unfolding cross_index_open over
first_length s n e h =
    rw (eq-eqb (length s) slots_size e) (head-word (headed n 0 0 ++ drop 32 s) n 0 [] (drop 32 s) refl (omega arith) (omega arith) (omega arith) 1 (omega arith))

-- ---- the part that an entry names

refused-not_0 : {A : Type 0} → misplaced ≡ 0 → A
refused-not_0 e = absurd (omega (arith, e))

module _ (s : List ℕ) (b : Bytes s) (n r : ℕ) (out : List ℕ) where
  abbrev Within : List ℕ × ℕ → Type 0
  Within (o, a) = a ≡ 0 → at o 1 + at o 2 ≤ n

  entry-within : used_in s ≤ n → used_in s ≤ most_names → out_size ≤ length out → start_at s r + length_at s r ≤ used_in s
      → Within (put out 0 (words (entry_words s r)), 0)
  unfolding number_at
  entry-within u m l h e =
      let w = at_words out l (entry_words s r) (omega (arith, number-below 8 s (slot_at r) b)) (omega arith) in
      rw (w 1 refl, w 2 refl) (omega arith)

  none_within : out_size ≤ length out → Within (put out 0 (words no_words), 0)
  none_within l e = let w = at_words out l no_words (omega arith) (omega arith) in rw (w 1 refl, w 2 refl) (omega arith)

  inside : Within (cross_index_entry s n r out)
  unfolding cross_index_entry
  inside = go (is_index s n && leb out_size (length out)) refl
    where
      by : used_in s ≤ n → used_in s ≤ most_names → out_size ≤ length out → (q : Bool) → leb (start_at s r + length_at s r) (used_in s) ≡ q
          → Within (pick q (put out 0 (words (entry_words s r)), 0) (out, misplaced))
      by u m l true f = entry-within u m l (leb-true (start_at s r + length_at s r) (used_in s) f)
      by u m l false f = refused-not_0

      at-rank : used_in s ≤ n → used_in s ≤ most_names → out_size ≤ length out → (q : Bool)
          → Within (pick q (pick (leb (start_at s r + length_at s r) (used_in s)) (put out 0 (words (entry_words s r)), 0) (out, misplaced)) (put out 0 (words no_words), 0))
      at-rank u m l true = by u m l (leb (start_at s r + length_at s r) (used_in s)) refl
      at-rank u m l false = none_within l

      go : (q : Bool) → is_index s n && leb out_size (length out) ≡ q → Within (pick q (entry_in s r out) (out, misplaced))
      go true e =
          let f = (and-eq-true_iff (is_index s n) (leb out_size (length out))).0 e in
          let u : used_in s ≤ room_in n = used_within s n f.0 in
          at-rank (omega arith) (omega arith) (leb-true out_size (length out) f.1) (ltb r (count_in s))
      go false e = refused-not_0

pub index_claim : IndexClaim
index_claim =
    record {
      opens = opened;
      answers = λ s area e w ts heards h g. (run (kept-opened s area e w) (length area) refl ts heards h g).numbers;
      holds = λ s area e w ts heards h g. holding (run (kept-opened s area e w) (length area) refl ts heards h g).kept;
      stays = stays;
      others = others;
      other_length = other_add;
      other_between = other_between;
      other_latest = other_latest;
      other_entry = other_entry;
      first_length = first_length;
      inside = inside;
      order_next = next-later;
      order_on = no_later-on;
      order_one = one_time;
      between_means = between_means;
      between_only = between_only;
      latest_means = latest_means;
      latest_only = latest_only;
    }
  where
    holding : {before s area : List ℕ} {held : List Item} → Kept before s area held → Holding before held s area
    holding k =
        record { between_told = λ a b out h. between_told k out h a b; latest_told = λ t out h. latest_told k out h t; area_names = k.stands; length_kept = length_kept k; few = omega (arith, k.few, length-placed k); room = omega (arith, k.room, k.same) }
