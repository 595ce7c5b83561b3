-- Laws of `specs/Keys.antt` and of the index's slots: times by their keys, ranks by either, numbers that the code reads, what `is_index` and
-- `has_slot` say, and bytes put in front of others. Assumes nothing.
use mathlib.Core.Bool.{Bool, true, false, ◌&&◌, not, and-false, and-eq-true_iff}
use mathlib.Core.List.{List, [], ◌∷◌, ◌++◌, append_assoc}
use mathlib.Core.Path.{◌≡◌, refl, sym, ap, ap₂, ◌∙◌}
use Prim.Native.Nat.{ℕ, zero, suc, ◌+◌, ◌-◌, ◌*◌, ◌/◌, ◌%◌, ◌≤◌, ◌<◌}
use native.Mathlib.Decide.{dec_le}
use native.Mathlib.Nat.{lt_of_not-le}
use native.Mathlib.Numerals.{add-one}
use native.Mathlib.Omega.{arith}
use borrow.Author.Tests.{lt-ltb, le-ltb, le-leb, lt-leb, eqb-true, leb-true}
use lib.Dec.{eqb, leb, ltb}
use lib.IntN.{ℤ}
use lib.ListN.{length, take, drop, get_or, set, length-append, length-drop, get_or-append}
use lib.Seq.{append_snoc, set_split, length-take-le, take-take, take-append-le, drop_at, drop-cons, get_or-take}
use Rattle.protocol.specs.Bytes.{Bytes, pick, number_at, signed, whole, over, put}
use Rattle.protocol.specs.Records.{u32_at, u64_at}
use Rattle.protocol.proofs.Bytes.{over-length, over_none, whole_in}
use Rattle.protocol.proofs.Records.{signed_low, signed_high}
use Rattle.protocol.proofs.Words.{number-below}
use Rattle.boundary.specs.Told.{out_size}
use Rattle.record.specs.Fields.{unsigned}
use Rattle.record.specs.Narrow.{U64, I64}
use Rattle.record.specs.Record.{words, word_of}
use Rattle.record.proofs.Numbers.{signed_back, unsigned-wide}
use Rattle.time_index.specs.Index.{most_entries, room_in, no_later, earlier, entry}
use Rattle.time_index.specs.Slots.{slots_size, slot_size, mark, is_index, count_in, used_in, slot_at, time_at, start_at, ranks, up_to, below, slot_among}
use Rattle.time_index.specs.Crossing.{misplaced, indexed, latest_of, entry_words, has_slot, offered_by, added, cross_index_add}
use Rattle.time_index_offers.specs.Offers.{Offered, offer, offered_in}
use Rattle.std.specs.Prelude.{Some, Ok}
use Rattle.time_index_offers.specs.declared.Entry.{Entry}
use Rattle.time_index_slots.specs.Keys.{keyed, key_to}

-- ---- keys

pub keyed-low : (x : ℕ) → x < 0x8000_0000_0000_0000 → keyed x ≡ x + 0x8000_0000_0000_0000
unfolding keyed
keyed-low x h = rw (lt-ltb _ _ h)

pub keyed-high : (x : ℕ) → 0x8000_0000_0000_0000 ≤ x → keyed x ≡ x - 0x8000_0000_0000_0000
unfolding keyed
keyed-high x h = rw (le-ltb _ _ h)

-- the bits of a signed number, again
pub unsigned_back : (x : ℕ) → U64 x → unsigned (signed x) ≡ x
unsigned_back x w = go (dec_le 0x8000_0000_0000_0000 x)
  where
    go : Dec (0x8000_0000_0000_0000 ≤ x) → unsigned (signed x) ≡ x
    go (yes h) = rw (signed_high x h) (omega arith)
    go (no f) = rw (signed_low x (lt_of_not-le f))

leb-same : (a b c d : ℕ) → (a ≤ b → c ≤ d) → (c ≤ d → a ≤ b) → leb a b ≡ leb c d
leb-same a b c d f g = go (dec_le a b)
  where
    go : Dec (a ≤ b) → leb a b ≡ leb c d
    go (yes h) = le-leb a b h ∙ sym (le-leb c d (f h))
    go (no n) = lt-leb a b (lt_of_not-le n) ∙ sym (lt-leb c d (lt_of_not-le (λ h. n (g h))))

-- keys compare as the times do
key_order : (x y : ℕ) → U64 x → U64 y → leb (keyed x) (keyed y) ≡ no_later (signed x) (signed y)
key_order x y w v = go (dec_le 0x8000_0000_0000_0000 x) (dec_le 0x8000_0000_0000_0000 y)
  where
    go : Dec (0x8000_0000_0000_0000 ≤ x) → Dec (0x8000_0000_0000_0000 ≤ y) → leb (keyed x) (keyed y) ≡ no_later (signed x) (signed y)
    go (yes h) (yes k) =
        rw (keyed-high x h, keyed-high y k, signed_high x h, signed_high y k)
        (leb-same (x - 0x8000_0000_0000_0000) (y - 0x8000_0000_0000_0000) (0xffff_ffff_ffff_ffff - y) (0xffff_ffff_ffff_ffff - x) (λ i. omega arith) (λ i. omega arith))
    go (yes h) (no k) =
        let l = lt_of_not-le k in
        rw (keyed-high x h, keyed-low y l, signed_high x h, signed_low y l) (le-leb (x - 0x8000_0000_0000_0000) (y + 0x8000_0000_0000_0000) (omega arith))
    go (no h) (yes k) =
        let l = lt_of_not-le h in
        rw (keyed-low x l, keyed-high y k, signed_low x l, signed_high y k) (lt-leb (x + 0x8000_0000_0000_0000) (y - 0x8000_0000_0000_0000) (omega arith))
    go (no h) (no k) =
        let l = lt_of_not-le h in
        let m = lt_of_not-le k in
        rw (keyed-low x l, keyed-low y m, signed_low x l, signed_low y m)
        (leb-same (x + 0x8000_0000_0000_0000) (y + 0x8000_0000_0000_0000) x y (λ i. omega arith) (λ i. omega arith))

-- at most the one below: not at least the other
leb-below : (a b : ℕ) → 0 < b → leb a (b - 1) ≡ not (leb b a)
leb-below a b h = go (dec_le b a)
  where
    go : Dec (b ≤ a) → leb a (b - 1) ≡ not (leb b a)
    go (yes k) = rw (le-leb b a k) (lt-leb a (b - 1) (omega arith))
    go (no n) = let l = lt_of_not-le n in rw (lt-leb b a l) (le-leb a (b - 1) (omega arith))

-- ---- ranks

ranks-same : (p q : ℤ → Bool) (s : List ℕ) (n : ℕ) → ((r : ℕ) → p (time_at s r) ≡ q (time_at s r)) → ranks p s n ≡ ranks q s n
unfolding ranks
ranks-same p q s zero e = refl
ranks-same p q s (suc n) e = rw (e n, ranks-same p q s n e)

ranks-none : (p : ℤ → Bool) (s : List ℕ) (n : ℕ) → ((r : ℕ) → p (time_at s r) ≡ false) → ranks p s n ≡ 0
unfolding ranks
ranks-none p s zero e = refl
ranks-none p s (suc n) e = rw (e n) (ranks-none p s n e)

module _ (s : List ℕ) (bytes : Bytes s) (x : ℕ) (wide : U64 x) (n : ℕ) where
  -- the ranks up to a time, by its key
  pub ranks-up : ranks (key_to (keyed x)) s n ≡ ranks (λ z. no_later z (signed x)) s n
  ranks-up =
      ranks-same _ _ s n
      (λ r.
      let w = number-below 8 s (slot_at r) bytes in
      rw (unsigned_back (number_at 8 (slot_at r) s) w) (key_order _ x w wide))

  -- ... and below it
  pub ranks-under : 0 < keyed x → ranks (key_to (keyed x - 1)) s n ≡ ranks (λ z. earlier z (signed x)) s n
  ranks-under h =
      ranks-same _ _ s n
      (λ r.
      let w = number-below 8 s (slot_at r) bytes in
      rw (unsigned_back (number_at 8 (slot_at r) s) w) (leb-below _ (keyed x) h ∙ ap not (key_order x _ wide w)))

  pub ranks-first : keyed x ≡ 0 → ranks (λ z. earlier z (signed x)) s n ≡ 0
  ranks-first e =
      ranks-none _ s n
      (λ r.
      ap not (sym (key_order x (number_at 8 (slot_at r) s) wide (number-below 8 s (slot_at r) bytes)) ∙ le-leb (keyed x) (keyed (number_at 8 (slot_at r) s)) (omega arith)))

-- a number of k bytes that the code reads, and the key of a time
pub number_read : {x : ℕ} (k : ℕ) (s : List ℕ) (off : ℕ) → off + k ≤ length s → x ≡ whole k 0 (number_at k 0) s off → x ≡ number_at k off s
unfolding number_at
number_read k s off h e = e ∙ whole_in k 0 (number_at k 0) s off h

pub key_read : {x : ℕ} (s : List ℕ) (r : ℕ) → Bytes s → slot_at r + 8 ≤ length s → x ≡ whole 8 0 (u64_at 0) s (slot_at r)
    → keyed (unsigned (time_at s r)) ≡ keyed x
key_read s r b h e = ap keyed (unsigned_back (number_at 8 (slot_at r) s) (number-below 8 s (slot_at r) b) ∙ sym (number_read 8 s (slot_at r) h e))

-- one rank less
pub ranks-last : (p : ℤ → Bool) (s : List ℕ) (n : ℕ) → 0 < n → ranks p s n ≡ pick (p (time_at s (n - 1))) n (ranks p s (n - 1))
unfolding ranks
ranks-last p s zero h = absurd (omega arith)
ranks-last p s (suc n) h = let e : suc n - 1 ≡ n = omega arith in rw e

pub ranks-zero : (p : ℤ → Bool) (s : List ℕ) (n : ℕ) → n ≤ 0 → ranks p s n ≡ 0
unfolding ranks
ranks-zero p s zero h = refl
ranks-zero p s (suc n) h = absurd (omega arith)

-- ranks by a signed number whose bits the code has
module _ (s : List ℕ) (z : ℤ) (wide : I64 z) where
  pub up_read : {r k x n : ℕ} → Bytes s → r ≡ ranks (key_to k) s n → k ≡ keyed x → x ≡ unsigned z → n ≡ count_in s → r ≡ up_to s z
  up_read {n = n} b e f g h =
      e
      ∙ ap₂ (λ (k m : ℕ). ranks (key_to k) s m) (f ∙ ap keyed g) h
      ∙ ranks-up s b (unsigned z) (unsigned-wide z wide) (count_in s)
      ∙ ap (up_to s) (signed_back z wide)

  pub below-read : {r x : ℕ} → r ≡ below s (signed x) → x ≡ unsigned z → r ≡ below s z
  below-read e g = e ∙ ap (below s) (ap signed g ∙ signed_back z wide)

-- the words of a latest that there is
pub latest-some : (s : List ℕ) (n : ℕ) → 0 < n → latest_of s n ≡ 1 ∷ below s (time_at s (n - 1)) ∷ []
latest-some s zero h = absurd (omega arith)
latest-some s (suc n) h = let e : suc n - 1 ≡ n = omega arith in rw e

-- the words of an entry, by the numbers that the code reads
pub entry-put : {l : List ℕ} {x y z : ℕ} (out s : List ℕ) (r : ℕ) → l ≡ put out 0 (words (1 ∷ x ∷ y / most_entries ∷ y % most_entries ∷ z ∷ []))
    → x ≡ start_at s r → y ≡ u32_at (slot_at r + 12) s → z ≡ u64_at (slot_at r) s → l ≡ put out 0 (words (entry_words s r))
entry-put out s r p e f g = p ∙ rw (e, f, g)

-- ---- what slots that hold an index are

pub record Index (s : List ℕ) (area : ℕ) : Type 0 where
  pub size : length s ≡ slots_size
  pub marked : word_of s 0 ≡ mark
  pub beside : word_of s 1 ≡ area
  pub count : count_in s ≤ most_entries
  pub names : used_in s ≤ room_in area

pub index_in : (s : List ℕ) (area : ℕ) → is_index s area ≡ true → Index s area
unfolding is_index
index_in s area e =
    let a = (and-eq-true_iff (eqb (length s) slots_size && eqb (word_of s 0) mark && eqb (word_of s 1) area && leb (count_in s) most_entries) (leb (used_in s) (room_in area))).0 e in
    let b = (and-eq-true_iff (eqb (length s) slots_size && eqb (word_of s 0) mark && eqb (word_of s 1) area) (leb (count_in s) most_entries)).0 a.0 in
    let c = (and-eq-true_iff (eqb (length s) slots_size && eqb (word_of s 0) mark) (eqb (word_of s 1) area)).0 b.0 in
    let d = (and-eq-true_iff (eqb (length s) slots_size) (eqb (word_of s 0) mark)).0 c.0 in
    record {
      size = eqb-true _ _ d.0;
      marked = eqb-true _ _ d.1;
      beside = eqb-true _ _ c.1;
      count = leb-true _ _ b.1;
      names = leb-true _ _ a.1;
    }

-- the counts that the code reads
module _ (s : List ℕ) (area : ℕ) (held : Index s area) where
  pub count-read : {n : ℕ} → n ≡ whole 8 0 (u64_at 0) s 16 → n ≡ count_in s
  count-read e = number_read 8 s 16 (omega arith) e

  pub used_read : {n : ℕ} → n ≡ whole 8 0 (u64_at 0) s 24 → n ≡ used_in s
  used_read e = number_read 8 s 24 (omega arith) e

-- slots that a query is answered of
pub answered-index : (s : List ℕ) (area room : ℕ) → is_index s area && leb out_size room ≡ true → Index s area
answered-index s area room e = index_in s area ((and-eq-true_iff (is_index s area) (leb out_size room)).0 e).0

-- the cases of `has_slot`
module _ (s : List ℕ) (area len : ℕ) where
  pub slot_none : most_entries ≤ count_in s → has_slot s area len ≡ false
  unfolding has_slot
  slot_none h = rw (le-ltb _ _ h)

  pub room-none : room_in area < used_in s + len → has_slot s area len ≡ false
  unfolding has_slot
  room-none h = rw (lt-leb _ _ h) (and-false (ltb (count_in s) most_entries))

  pub slot_some : count_in s < most_entries → used_in s + len ≤ room_in area → has_slot s area len ≡ true
  unfolding has_slot
  slot_some h k = rw (lt-ltb _ _ h, le-leb _ _ k)

-- ---- bytes put in front of bytes

-- what is put in front of what was put is put with it
pub over-back : (s : List ℕ) (p : ℕ) (a b : List ℕ) → p + length a + length b ≤ length s → over (over s (p + length a) b) p a ≡ over s p (a ++ b)
unfolding over
over-back s p a b fits =
    let k : ℕ = p + length a in
    let d : List ℕ = drop (k + length b) s in
    let l : length (take k s) ≡ k = length-take-le k s (omega arith) in
    let front : take p (take k s ++ (b ++ d)) ≡ take p s = take-append-le p (take k s) (b ++ d) (omega arith) ∙ take-take p k s (omega arith) in
    let e : p + length (a ++ b) ≡ k + length b = omega (arith, length-append a b) in
    rw (append_assoc (take k s) b d, front, drop_at (take k s) (b ++ d) k l, e)
    (sym (append_assoc (take p s ++ a) b d) ∙ ap (λ (x : List ℕ). x ++ d) (append_assoc (take p s) a b))

-- one byte
over-one : (s : List ℕ) (i x : ℕ) → i < length s → set s i x ≡ over s i (x ∷ [])
unfolding over
over-one s i x h = rw add-one (set_split s i x h ∙ sym (append_snoc (take i s) x (drop (suc i) s)))

-- a byte in front stays
byte_before : (s : List ℕ) (at : ℕ) (m : List ℕ) (i : ℕ) → i < at → at ≤ length s → get_or (over s at m) i 0 ≡ get_or s i 0
unfolding over
byte_before s at m i h k =
    let l = length-take-le at s k in
    rw (append_assoc (take at s) m (drop (at + length m) s))
    (get_or-append (take at s) (m ++ drop (at + length m) s) 0 i (omega arith) ∙ get_or-take at s i 0 h)

-- the bytes from a place on to another, one slot further
abbrev pub moved : List ℕ → (at to : ℕ) → List ℕ
moved s at to = over s (at + slot_size) (take (to - at) (drop at s))

pub moved_none : (s : List ℕ) (at : ℕ) → moved s at at ≡ s
moved_none s at = let e : at - at ≡ 0 = omega arith in rw e (over_none s (at + slot_size))

-- one byte more
pub moved-next : (s : List ℕ) (at to : ℕ) → 0 < at → at ≤ to → to + slot_size ≤ length s
    → set (moved s at to) (at - 1 + slot_size) (get_or (moved s at to) (at - 1) 0) ≡ moved s (at - 1) to
moved-next s zero to h k f = absurd (omega arith)
moved-next s (suc j) to h k f =
    let m : List ℕ = take (to - suc j) (drop (suc j) s) in
    let x : ℕ = get_or s j 0 in
    let one : suc j - 1 ≡ j = omega arith in
    let more : to - j ≡ suc (to - suc j) = omega arith in
    let next : suc j + slot_size ≡ j + slot_size + 1 = omega arith in
    let l = length-take-le (to - suc j) (drop (suc j) s) (omega (arith, length-drop (suc j) s)) in
    let n = over-length s (j + slot_size + 1) m (omega arith) in
    rw (one, more, drop-cons s j 0 (omega arith), next, byte_before s (j + slot_size + 1) m j (omega arith) (omega arith))
    (over-one (over s (j + slot_size + 1) m) (j + slot_size) x (omega arith) ∙ over-back s (j + slot_size) (x ∷ []) m (omega arith))

-- the bytes of a slot in front of those that it moved
pub among : {l m : List ℕ} (s : List ℕ) (n r : ℕ) (slot : List ℕ) → length slot ≡ slot_size → r ≤ n → slot_at n + slot_size ≤ length s
    → l ≡ moved s (slot_at r) (slot_at n) → m ≡ over l (slot_at r) slot → m ≡ slot_among s n r slot
unfolding slot_among
among s n r slot size h k e f =
    let b : List ℕ = take (slot_size * (n - r)) (drop (slot_at r) s) in
    let part : slot_at n - slot_at r ≡ slot_size * (n - r) = omega arith in
    let l = length-take-le (slot_size * (n - r)) (drop (slot_at r) s) (omega (arith, length-drop (slot_at r) s)) in
    let there : moved s (slot_at r) (slot_at n) ≡ over s (slot_at r + length slot) b = rw (part, size) in
    f ∙ ap (λ (x : List ℕ). over x (slot_at r) slot) (e ∙ there) ∙ over-back s (slot_at r) slot b (omega arith)

-- ---- adding, by what a reply offers

module _ (s area : List ℕ) (told : ℕ) (reply rx : List ℕ) where
  pub add_refused : is_index s (length area) && leb out_size (length reply) ≡ false → indexed s area misplaced ≡ cross_index_add s area told reply rx
  unfolding cross_index_add
  add_refused h = rw h

  module _ (h : is_index s (length area) && leb out_size (length reply) ≡ true) (o : Offered) (e : offer rx o ≡ offered_in told reply rx) where
    long : leb out_size (length reply) ≡ true
    long = ((and-eq-true_iff (is_index s (length area)) (leb out_size (length reply))).0 h).1

    pub still-index : is_index s (length area) ≡ true
    still-index = ((and-eq-true_iff (is_index s (length area)) (leb out_size (length reply))).0 h).0

    pub add_offered : (p : Offered) → o ≡ p → added s area (offer rx p) ≡ cross_index_add s area told reply rx
    unfolding cross_index_add offered_in
    add_offered p f =
        let g : offered_in told reply rx ≡ offered_by told reply rx = rw long in
        ap (added s area) (ap (offer rx) (sym f) ∙ e ∙ g) ∙ rw h

    -- an entry, its name lent as a part
    pub add_part : (x : Entry) → o ≡ Ok (Some x)
        → added s area (entry (signed x.time) (take (x.at + x.len - x.at) (drop x.at rx))) ≡ cross_index_add s area told reply rx
    add_part x f =
        let e : x.at + x.len - x.at ≡ x.len = omega arith in
        ap (λ (n : ℕ). added s area (entry (signed x.time) (take n (drop x.at rx)))) e ∙ add_offered (Ok (Some x)) f
