-- What is promised of the functions of a record beside the card, of a session with totals: opening, refusals on any record, what opening wrote, the reads that a reply
-- tells, and the parts that it names.
-- Assumes nothing.
use Prim.Native.Nat.{ℕ, ◌+◌, ◌-◌, ◌/◌, ◌%◌, ◌≤◌, ◌<◌}
use mathlib.Core.Bool.{Bool, true, false, ◌&&◌, ◌||◌, not, and-eq-true_iff}
use mathlib.Core.List.{List, [], ◌∷◌, ◌++◌}
use mathlib.Core.Logic.{inl, inr}
use mathlib.Core.Path.{◌≡◌, refl, sym, ap, ◌∙◌}
use native.Mathlib.Omega.{arith}
use borrow.Author.Tests.{eq-eqb, ne_eqb, eqb-true, ltb-true}
use lib.Dec.{eqb, leb, ltb}
use lib.ListN.{length, take, drop, take-append-drop, length-append, length-drop}
use lib.Seq.{length-take-le}
use Rattle.protocol.specs.Answers.{refused, callers}
use Rattle.protocol.specs.Bytes.{Bytes, pick, put}
use Rattle.protocol.specs.Records.{u64_at}
use Rattle.protocol.specs.Refusal.{or_else, refuse, closed_hours}
use Rattle.protocol.proofs.Bodies.{pick-cases}
use Rattle.protocol.proofs.Bytes.{put-length}
use Rattle.protocol.proofs.Words.{bytes_take}
use Rattle.id_table.specs.Settings.{lent_in}
use Rattle.id_table.specs.Lent.{Lent}
use Rattle.id_table.specs.Lent as L
use Rattle.record.specs.Record.{word_of, size}
use Rattle.record.proofs.Words.{length-words}
use Rattle.session.specs.Calls.{open_refusal}
use Rattle.boundary.specs.Crossing.{Crossed, crossed, cross_open, cross_start, cross_read, cross_wrote, cross_fault}
use Rattle.boundary.specs.Told.{reply_number, reply_bytes, out_size}
use Rattle.boundary_misuse.specs.Claim.{heard_of, Unchanged, Opens}
use Rattle.boundary_misuse.specs.Misuse.{Act, start, report, has_read, wrote, fault, Event, Wide, acted_by, acted, table_refused, open_refused}
use Rattle.boundary_misuse.specs.Settled.{settled as written, SettledClaim}
use Rattle.boundary_misuse.proofs.Misuse.{call-numbers, lent-some, opens}
use Rattle.boundary_misuse.proofs.Settled.{settled-stays}
use Rattle.boundary_misuse.proofs.Unchanged.{Kept, event-kept, listed_below}
use Rattle.boundary_parts.specs.Bounds.{told_part, named, InBounds, PartsInside}
use Rattle.boundary_parts.proofs.Bounds.{parts-inside}
use Rattle.totals.specs.Card.{total_by, count_in}
use Rattle.totals.specs.System.{total_functions}
use Rattle.totals.specs.Claim.{IsRefusedBy, MisuseClaim, CountTold}
use Rattle.totals.specs.Crossing.{record_size, limit, overflowed, received_of, written_of, asked_of, reads_of, count_at, counted, overflow_reply, refuses, piece_asked, totalling, with_totals, overflowing, totalled, wrong_length, on_record, open_totals, total_open, total_start, total_read, total_wrote, total_fault}
use Rattle.totals.proofs.Beside.{counted-bytes, counted-at, out-kept, inside-counted}
use Rattle.totals.proofs.Behind.{in_front_lem, whole-counts}
use Rattle.totals.proofs.Card.{refuses-low}
use Rattle.totals.proofs.Refused.{listed}
use Rattle.totals.proofs.Sizes.{acted-sized}

-- ---- opening

module _ (rec settings banner : List ℕ) (c m : ℕ) where
  abbrev inside : List ℕ
  inside = pick (eqb (length rec) record_size) (take size rec) []

  inside-size : eqb (length inside) size ≡ eqb (length rec) record_size
  inside-size = go (eqb (length rec) record_size) refl
    where
      go : (b : Bool) → eqb (length rec) record_size ≡ b → eqb (length (pick b (take size rec) [])) size ≡ b
      go true e = let f = eqb-true (length rec) record_size e in eq-eqb _ size (length-take-le size rec (omega arith))
      go false e = refl

  open_answers : Opens (open_refused record_size rec settings c m) rec (total_open rec settings banner c m)
  unfolding total_open cross_open open_refusal
  open_answers = rw inside-size (go (ltb c 8) (ltb m c) (eqb (length rec) record_size) (lent_in settings) refl)
    where
      go : (a b d : Bool) (t : Lent) → lent_in settings ≡ t
          → Opens (or_else (refuse a (refused 1)) (or_else (refuse b (refused 2)) (or_else (refuse (not d) (refused 3)) (table_refused t)))) rec
          (open_totals rec (opens inside banner c m a b d t))
      go true b d t e = (refl, refl)
      go false true d t e = (refl, refl)
      go false false false t e = (refl, refl)
      go false false true (L.Ids t) e = refl
      go false false true (L.Refused n) e = rw (ne_eqb n 0 (lent-some settings n e)) (refl, refl)

-- ---- a step on any record

-- c is the step of the session inside
data Comes (rec : List ℕ) (e : Event) (c : Crossed) : Crossed → Type 0 where
  elsewhere : Comes rec e c (crossed rec e.rx e.msg (counted wrong_length 0 e.out) wrong_length)
  passing : Comes rec e c (overflowing rec e.rx e.msg e.out)
  settling : length rec ≡ record_size → (r n k : ℕ) → Comes rec e c (with_totals rec r n k c)

abbrev inner : List ℕ → Event → Act → Crossed
inner rec e x = acted (take size rec) e x

module _ (rec : List ℕ) (e : Event) where
  on-length : (c y : Crossed) → (length rec ≡ record_size → Comes rec e c y) → Comes rec e c (on_record rec e.rx e.msg e.out y)
  on-length c y f = pick-cases (Comes rec e c) (eqb (length rec) record_size) (λ i. f (eqb-true (length rec) record_size i)) (λ _. elsewhere)

  adding : (r n k : ℕ) (c : Crossed) → Comes rec e c (on_record rec e.rx e.msg e.out (totalled rec e.rx e.msg e.out r n k c))
  adding r n k c =
      on-length c (totalled rec e.rx e.msg e.out r n k c)
      (λ i. pick-cases (Comes rec e c) (not (refuses c.number) && (leb limit r || (leb limit n || leb limit k))) (λ _. passing) (λ _. settling i r n k))

  adding-none : (k : ℕ) (c : Crossed) → Comes rec e c (on_record rec e.rx e.msg e.out (with_totals rec (received_of rec) (written_of rec) k c))
  adding-none k c = on-length c (with_totals rec (received_of rec) (written_of rec) k c) (λ i. settling i (received_of rec) (written_of rec) k)

  comes : (x : Act) → Comes rec e (inner rec e x) (acted_by total_functions rec e x)
  unfolding total_start total_read total_wrote total_fault
  comes (start n a b i) = adding-none 0 (inner rec e (start n a b i))
  comes (report (has_read k)) = adding (received_of rec + k) (written_of rec) (reads_of rec + 1) (inner rec e (report (has_read k)))
  comes (report wrote) = adding (received_of rec) (written_of rec + asked_of rec) (reads_of rec) (inner rec e (report wrote))
  comes (report (fault kind code)) = adding-none (reads_of rec) (inner rec e (report (fault kind code)))

  -- a record keeps its length, and a refusal is told
  module _ (c : Crossed) (s : length (take size rec) ≡ size → length c.rec ≡ size) (t : length rec ≡ record_size → refuses c.number ≡ true → c.number % 256 ≡ 0) where
    keeps-length : (y : Crossed) → Comes rec e c y → length y.rec ≡ length rec
    keeps-length y elsewhere = refl
    keeps-length y passing = refl
    keeps-length y (settling i r n k) =
        let l : length c.rec ≡ size = s (length-take-le size rec (omega (arith, i))) in
        pick-cases (λ (z : List ℕ). length z ≡ length rec) (refuses c.number)
        (λ _. length-append c.rec (drop size rec) ∙ omega (arith, l, i, length-drop size rec))
        (λ _. length-append c.rec _ ∙ omega (arith, l, i, length-words (r ∷ (limit + r + word_of c.rec 2 - word_of c.rec 3) ∷ n ∷ piece_asked (heard_of c) (asked_of rec) ∷ k ∷ [])))

    tells-refusal : (y : Crossed) → Comes rec e c y → refuses y.number ≡ true → y.number % 256 ≡ 0
    unfolding reply_number
    tells-refusal y elsewhere z = refl
    tells-refusal y passing z = refl
    tells-refusal y (settling i r n k) z = t i z

pub total-length : (rec : List ℕ) (e : Event) → length (total_by rec e).rec ≡ length rec
total-length rec e =
    keeps-length rec e (inner rec e e.act) (λ s. (acted-sized (take size rec) s e e.act).size_same) (λ i. (acted-sized (take size rec) (length-take-le size rec (omega (arith, i))) e e.act).tells)
    (total_by rec e) (comes rec e e.act)

pub total-tells : (rec : List ℕ) (e : Event) → refuses (total_by rec e).number ≡ true → (total_by rec e).number % 256 ≡ 0
total-tells rec e =
    tells-refusal rec e (inner rec e e.act) (λ s. (acted-sized (take size rec) s e e.act).size_same) (λ i. (acted-sized (take size rec) (length-take-le size rec (omega (arith, i))) e e.act).tells)
    (total_by rec e) (comes rec e e.act)

-- ---- a refusal leaves it

module _ (rec : List ℕ) (bytes : Bytes rec) (e : Event) (w : Wide e) where
  abbrev x : List ℕ
  x = take size rec

  refused-same : (c y : Crossed) → Comes rec e c y → Kept x (bytes_take size rec bytes) e w c → IsRefusedBy y → Unchanged rec e y
  refused-same c y elsewhere k h = (refl, refl, refl)
  refused-same c y passing k h = (refl, refl, refl)
  refused-same c y (settling i r n k') (inl (m, a, b, j, (u, v, z))) h =
      rw (refuses-low c.number m j a b) (ap (λ (l : List ℕ). l ++ drop size rec) u ∙ take-append-drop size rec, v, z)
  refused-same c y (settling i r n k') (inr f) (inl (m, h, j)) =
      let b = listed_below 12 m callers (omega arith) h in absurd (omega (arith, b.1, (f m j b.0).0))
  refused-same c y (settling i r n k') (inr f) (inr (inl j)) = absurd (omega (arith, (f overflowed j (omega arith)).1))
  refused-same c y (settling i r n k') (inr f) (inr (inr j)) = absurd (omega (arith, (f closed_hours j (omega arith)).1))

  unchanged : IsRefusedBy (total_by rec e) → Unchanged rec e (total_by rec e)
  unchanged = refused-same (inner rec e e.act) (total_by rec e) (comes rec e e.act) (event-kept x (bytes_take size rec bytes) e w e.act w.act)

  -- ---- what opening wrote

  kept-front : (y own : List ℕ) → length y ≡ size → written (y ++ own) ≡ written y
  kept-front y own l =
      let f : (i : ℕ) → i < 32 → word_of (y ++ own) i ≡ word_of y i = in_front_lem y own l in
      rw (
        f 0 (omega arith),
        f 1 (omega arith),
        f 5 (omega arith),
        f 24 (omega arith),
        f 25 (omega arith),
        f 26 (omega arith),
        f 27 (omega arith),
        f 28 (omega arith),
        f 29 (omega arith),
        f 30 (omega arith),
        f 31 (omega arith),
      )

  settled_same : (c y : Crossed) → Comes rec e c y → (length x ≡ size → length c.rec ≡ size) → written c.rec ≡ written x → written y.rec ≡ written rec
  settled_same c y elsewhere l k = refl
  settled_same c y passing l k = refl
  settled_same c y (settling i r n k') l k =
      let s : length x ≡ size = length-take-le size rec (omega arith) in
      pick-cases (λ (z : List ℕ). written z ≡ written rec) (refuses c.number) (λ _. back (drop size rec)) (λ _. back _)
    where
      back : (own : List ℕ) → written (c.rec ++ own) ≡ written rec
      back own =
          let s : length x ≡ size = length-take-le size rec (omega arith) in
          kept-front c.rec own (l s) ∙ k ∙ sym (kept-front x (drop size rec) s) ∙ ap written (take-append-drop size rec)

  stays : written (total_by rec e).rec ≡ written rec
  stays =
      settled_same (inner rec e e.act) (total_by rec e) (comes rec e e.act) (λ s. (acted-sized x s e e.act).size_same) (settled-stays x (bytes_take size rec bytes) e w)

pub settled-stays_totals : SettledClaim total_by
settled-stays_totals rec bytes e w = stays rec bytes e w

-- ---- the reads that a reply tells

module _ (rec : List ℕ) (e : Event) (room : out_size ≤ length e.out) where
  told-count : (c y : Crossed) → Comes rec e c y → (length (take size rec) ≡ size → length c.rec ≡ size) → length c.out ≡ length e.out → y.number % 256 ≡ 0 → (IsRefusedBy y → ⊥)
      → count_in y ≡ reads_of y.rec
  unfolding reply_number
  told-count c y elsewhere s o z f = absurd (f (inl (3, refl, refl)))
  told-count c y passing s o z f = absurd (f (inr (inl refl)))
  told-count c y (settling i r n k) s o z f = go (refuses c.number) refl
    where
      a : ℕ
      a = piece_asked (heard_of c) (asked_of rec)

      go : (b : Bool) → refuses c.number ≡ b
          → u64_at count_at (counted c.number (pick b 0 k) c.out) ≡ reads_of (pick b (c.rec ++ drop size rec) (totalling c.rec r n a k))
      go true g =
          let (p, q) = (and-eq-true_iff (ltb 0 (c.number / 256)) (ltb (c.number / 256) 12)).0 g in
          absurd (f (inl (c.number / 256, listed (c.number / 256) (ltb-true 0 (c.number / 256) p) (ltb-true (c.number / 256) 12 q), omega arith)))
      go false g =
          counted-bytes c.number k c.out z (omega arith)
          ∙ sym (whole-counts c.rec (s (length-take-le size rec (omega arith))) r (limit + r + word_of c.rec 2 - word_of c.rec 3) n a k)

  none_told : (bytes : Bytes rec) (w : Wide e) (c y : Crossed) → Comes rec e c y → Kept (take size rec) (bytes_take size rec bytes) e w c → length c.out ≡ length e.out → IsRefusedBy y → count_in y ≡ 0
  unfolding reply_number
  none_told bytes w c y elsewhere k o h = counted-at wrong_length 0 e.out (omega arith) refl (omega arith)
  none_told bytes w c y passing k o h = counted-at (reply_number overflow_reply) 0 (put e.out 0 (reply_bytes overflow_reply)) (omega arith) refl (omega (arith, put-length e.out 0 (reply_bytes overflow_reply)))
  none_told bytes w c y (settling i r n k) (inl (m, a, b, j, u)) o h =
      rw (refuses-low c.number m j a b) (counted-at c.number 0 c.out (omega arith) (omega arith) (omega arith))
  none_told bytes w c y (settling i r n k) (inr f) o (inl (m, h, j)) = let b = listed_below 12 m callers (omega arith) h in absurd (omega (arith, b.1, (f m j b.0).0))
  none_told bytes w c y (settling i r n k) (inr f) o (inr (inl j)) = absurd (omega (arith, (f overflowed j (omega arith)).1))
  none_told bytes w c y (settling i r n k) (inr f) o (inr (inr j)) = absurd (omega (arith, (f closed_hours j (omega arith)).1))

pub count-told : CountTold total_functions
count-told =
    record {
      answered = λ rec e room z f.
          told-count rec e room (inner rec e e.act) (total_by rec e) (comes rec e e.act) (λ s. (acted-sized (take size rec) s e e.act).size_same) (out-kept (take size rec) e e.act) z f;
      refused = λ rec bytes e w room h.
          none_told rec e room bytes w (inner rec e e.act) (total_by rec e) (comes rec e e.act) (event-kept (take size rec) (bytes_take size rec bytes) e w e.act w.act) (out-kept (take size rec) e e.act) h;
    }

-- ---- the parts that a reply names

module _ (rec rx msg lent out : List ℕ) where
  on-card : (y : Crossed) → InBounds lent y → InBounds lent (on_record rec rx msg out y)
  unfolding named told_part
  on-card y f = pick-cases (InBounds lent) (eqb (length rec) record_size) (λ _. f) (λ _. tt)

  -- the reads stand behind the parts
  counted-in : (r n k : ℕ) (c : Crossed) → InBounds lent c → InBounds lent (with_totals rec r n k c)
  counted-in r n k c f = inside-counted c.rx c.msg lent c.out c.number (pick (refuses c.number) 0 k) f

  total-in : (r n k : ℕ) (c : Crossed) → InBounds lent c → InBounds lent (on_record rec rx msg out (totalled rec rx msg out r n k c))
  unfolding named told_part reply_number
  total-in r n k c f =
      on-card (totalled rec rx msg out r n k c)
      (pick-cases (InBounds lent) (not (refuses c.number) && (leb limit r || (leb limit n || leb limit k))) (λ _. tt) (λ _. counted-in r n k c f))

pub parts-inside_totals : PartsInside total_functions
unfolding total_start total_read total_wrote total_fault
parts-inside_totals =
    record {
      start = λ rec rx msg lent call a b t out x y z w p q s. on-card rec rx msg lent out
          (with_totals rec (received_of rec) (written_of rec) 0 (cross_start (take size rec) rx msg lent call a b out))
          (counted-in rec rx msg lent out (received_of rec) (written_of rec) 0 (cross_start (take size rec) rx msg lent call a b out) (parts-inside.start (take size rec) rx msg lent call a b t out (bytes_take size rec x) y z w p q s));
      read = λ rec rx msg lent count out x y z w. total-in rec rx msg lent out (received_of rec + count) (written_of rec) (reads_of rec + 1)
          (cross_read (take size rec) rx msg lent count out) (parts-inside.read (take size rec) rx msg lent count out (bytes_take size rec x) y z w);
      wrote = λ rec rx msg lent out x y z w. total-in rec rx msg lent out (received_of rec) (written_of rec + asked_of rec) (reads_of rec)
          (cross_wrote (take size rec) rx msg lent out) (parts-inside.wrote (take size rec) rx msg lent out (bytes_take size rec x) y z w);
      fault = λ rec rx msg lent kind code out x y z w h. on-card rec rx msg lent out
          (with_totals rec (received_of rec) (written_of rec) (reads_of rec) (cross_fault (take size rec) rx msg lent kind code out))
          (counted-in rec rx msg lent out (received_of rec) (written_of rec) (reads_of rec) (cross_fault (take size rec) rx msg lent kind code out) (parts-inside.fault (take size rec) rx msg lent kind code out (bytes_take size rec x) y z w h));
    }

-- ---- the claim

pub misuse : MisuseClaim total_functions total_open (open_refused record_size)
misuse = record { calls = call-numbers; opens = open_answers; unchanged = unchanged }
