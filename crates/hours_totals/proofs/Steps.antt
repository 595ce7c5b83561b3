-- A step on any record with hours is that of the session with totals, the hours behind it, or turned away; what is refused of any record, and what its reply tells.
-- Assumes nothing.
use Prim.Native.Nat.{ℕ, ◌+◌, ◌*◌, ◌%◌, ◌≤◌, ◌<◌}
use mathlib.Core.Bool.{◌&&◌, not}
use mathlib.Core.List.{List, ◌++◌}
use mathlib.Core.Logic.{inl, inr}
use mathlib.Core.Path.{◌≡◌, refl, sym, ap, ◌∙◌}
use native.Mathlib.Omega.{arith}
use borrow.Author.Tests.{eqb-true, le-leb}
use lib.Dec.{eqb}
use lib.ListN.{length, take, drop, take-append-drop}
use lib.Seq.{take_at, drop_at, length-take-le}
use Rattle.protocol.specs.Bytes.{Bytes, put, number_at}
use Rattle.protocol.specs.Hours.{lets}
use Rattle.protocol.proofs.Bodies.{pick-cases}
use Rattle.protocol.proofs.Bytes.{put-length}
use Rattle.protocol.proofs.Words.{bytes_take}
use Rattle.record.specs.Record.{word_of}
use Rattle.session.proofs.Buf.{number-in}
use Rattle.boundary.specs.Crossing.{Crossed, crossed}
use Rattle.boundary.specs.Told.{reply_number, reply_bytes, out_size}
use Rattle.boundary_misuse.specs.Claim.{Unchanged}
use Rattle.boundary_misuse.specs.Misuse.{Act, start, report, has_read, wrote, fault, Event, Wide, acted_by, done_by}
use Rattle.boundary_misuse.specs.Settled.{settled, SettledClaim}
use Rattle.boundary_parts.specs.Bounds.{told_part, named, InBounds, PartsInside}
use Rattle.totals.specs.Card.{total_by, count_in}
use Rattle.totals.specs.Claim.{IsRefusedBy, CountTold}
use Rattle.totals.specs.Crossing.{record_size, reads_of, counted, refuses, wrong_length, total_start}
use Rattle.totals.specs.System.{total_functions}
use Rattle.totals.proofs.Beside.{counted-at}
use Rattle.totals.proofs.Claim as T
use Rattle.hours_totals.specs.Claim.{HoursKept}
use Rattle.hours_totals.specs.Crossing.{timed_size, hours_at, beside, closed_reply, closed_now, starts_push, on_timed, timed_start, timed_read, timed_wrote, timed_fault}
use Rattle.hours_totals.specs.System.{timed_functions}

-- ---- what a step comes to; c is that of the session with totals

pub data Comes (rec : List ℕ) (e : Event) (c : Crossed) : Crossed → Type 0 where
  elsewhere : Comes rec e c (crossed rec e.rx e.msg (counted wrong_length 0 e.out) wrong_length)
  shut : Comes rec e c (closed_now rec e.rx e.msg e.out)
  goes : length rec ≡ timed_size → Comes rec e c (beside rec c)

module _ (rec : List ℕ) (e : Event) where
  abbrev pub front : List ℕ
  front = take record_size rec

  pub front_length : length rec ≡ timed_size → length front ≡ record_size
  front_length i = length-take-le record_size rec (omega (arith, i))

  on-length : (c y : Crossed) → (length rec ≡ timed_size → Comes rec e c y) → Comes rec e c (on_timed rec e.rx e.msg e.out y)
  on-length c y f = pick-cases (Comes rec e c) (eqb (length rec) timed_size) (λ i. f (eqb-true (length rec) timed_size i)) (λ _. elsewhere)

  comes : (x : Act) → Comes rec e (acted_by total_functions front e x) (acted_by timed_functions rec e x)
  unfolding timed_start timed_read timed_wrote timed_fault
  comes (start n a b t) =
      let c = total_start front e.rx e.msg e.lent n a b e.out in
      on-length c _ (λ i. pick-cases (Comes rec e c) (not (lets (hours_at rec) t) && (starts_push n && not (refuses c.number))) (λ _. shut) (λ _. goes i))
  comes (report (has_read k)) = on-length _ _ goes
  comes (report wrote) = on-length _ _ goes
  comes (report (fault kind code)) = on-length _ _ goes

  abbrev inner : Crossed
  inner = total_by front e

  pub done : Comes rec e inner (done_by timed_functions rec e)
  done = comes e.act

  -- the numbers of a session with totals, before a step and behind it
  pub front-word : (i : ℕ) → i < 37 → word_of front i ≡ word_of rec i
  front-word i h = number-in record_size 8 (8 * i) rec (le-leb (8 * i + 8) record_size (omega arith))

  module _ (i : length rec ≡ timed_size) where
    pub inner-length : length inner.rec ≡ record_size
    inner-length = T.total-length front e ∙ front_length i

    pub front-after : take record_size (beside rec inner).rec ≡ inner.rec
    front-after = take_at inner.rec (drop record_size rec) record_size inner-length

    pub behind-after : drop record_size (beside rec inner).rec ≡ drop record_size rec
    behind-after = drop_at inner.rec (drop record_size rec) record_size inner-length

    pub word_after : (j : ℕ) → j < 37 → word_of (beside rec inner).rec j ≡ word_of inner.rec j
    word_after j h =
        sym (number-in record_size 8 (8 * j) (beside rec inner).rec (le-leb (8 * j + 8) record_size (omega arith))) ∙ ap (number_at 8 (8 * j)) front-after

  -- ---- the hours stay

  hours-same : (y : Crossed) → Comes rec e inner y → drop record_size y.rec ≡ drop record_size rec
  hours-same y elsewhere = refl
  hours-same y shut = refl
  hours-same y (goes i) = behind-after i

  -- ---- a refusal leaves any record unchanged

  whole_again : {c : List ℕ} → c ≡ front → c ++ drop record_size rec ≡ rec
  whole_again f = ap (λ (l : List ℕ). l ++ drop record_size rec) f ∙ take-append-drop record_size rec

  pub refused-same : Bytes rec → Wide e → (y : Crossed) → Comes rec e inner y → IsRefusedBy y → Unchanged rec e y
  refused-same b w y elsewhere h = (refl, refl, refl)
  refused-same b w y shut h = (refl, refl, refl)
  refused-same b w y (goes i) h = let (p, q, r) = (T.misuse).unchanged front (bytes_take record_size rec b) e w h in (whole_again p, q, r)

  -- ---- the reads that a reply tells

  module _ (room : out_size ≤ length e.out) where
    told-count : (y : Crossed) → Comes rec e inner y → y.number % 256 ≡ 0 → (IsRefusedBy y → ⊥) → count_in y ≡ reads_of y.rec
    unfolding reply_number
    told-count y elsewhere z f = absurd (f (inl (3, refl, refl)))
    told-count y shut z f = absurd (f (inr (inr refl)))
    told-count y (goes i) z f = (T.count-told).answered front e room z f ∙ sym (word_after i 36 (omega arith))

    none_told : Bytes rec → Wide e → (y : Crossed) → Comes rec e inner y → IsRefusedBy y → count_in y ≡ 0
    unfolding reply_number
    none_told b w y elsewhere h = counted-at wrong_length 0 e.out (omega arith) refl (omega arith)
    none_told b w y shut h = counted-at (reply_number closed_reply) 0 (put e.out 0 (reply_bytes closed_reply)) (omega arith) refl (omega (arith, put-length e.out 0 (reply_bytes closed_reply)))
    none_told b w y (goes i) h = (T.count-told).refused front (bytes_take record_size rec b) e w room h

  -- ---- what opening wrote

  settled_same : Bytes rec → Wide e → (y : Crossed) → Comes rec e inner y → settled y.rec ≡ settled rec
  settled_same b w y elsewhere = refl
  settled_same b w y shut = refl
  settled_same b w y (goes i) =
      at_places (beside rec inner).rec inner.rec (λ j h. word_after i j (omega arith))
      ∙ T.settled-stays_totals front (bytes_take record_size rec b) e w
      ∙ at_places front rec (λ j h. front-word j (omega arith))
    where
      at_places : (x z : List ℕ) → ((j : ℕ) → j < 32 → word_of x j ≡ word_of z j) → settled x ≡ settled z
      at_places x z f =
          rw (f 0 (omega arith), f 1 (omega arith), f 5 (omega arith), f 24 (omega arith), f 25 (omega arith), f 26 (omega arith), f 27 (omega arith), f 28 (omega arith), f 29 (omega arith), f 30 (omega arith), f 31 (omega arith))

  -- ---- the parts that a reply names

  parts_in : (y : Crossed) → Comes rec e inner y → InBounds e.lent inner → InBounds e.lent y
  unfolding named told_part reply_number
  parts_in y elsewhere h = tt
  parts_in y shut h = tt
  parts_in y (goes i) h = h

-- ---- of every record

pub hours-kept : HoursKept
hours-kept rec e = hours-same rec e _ (done rec e)

pub settled-stays : SettledClaim (done_by timed_functions)
settled-stays rec b e w = settled_same rec e b w _ (done rec e)

pub count-told : CountTold timed_functions
count-told =
    record {
      answered = λ rec e room z f. told-count rec e room _ (done rec e) z f;
      refused = λ rec b e w room h. none_told rec e room b w _ (done rec e) h;
    }

abbrev event : Act → (rx msg lent out : List ℕ) → Event
event x rx msg lent out = record { act = x; lent = lent; rx = rx; msg = msg; out = out }

pub parts-inside : PartsInside timed_functions
parts-inside =
    record {
      start = λ rec rx msg lent n a b t out x y z w p q r.
          let e = event (start n a b t) rx msg lent out in
          parts_in rec e _ (done rec e) ((T.parts-inside_totals).start (take record_size rec) rx msg lent n a b t out (bytes_take record_size rec x) y z w p q r);
      read = λ rec rx msg lent k out x y z w.
          let e = event (report (has_read k)) rx msg lent out in
          parts_in rec e _ (done rec e) ((T.parts-inside_totals).read (take record_size rec) rx msg lent k out (bytes_take record_size rec x) y z w);
      wrote = λ rec rx msg lent out x y z w.
          let e = event (report wrote) rx msg lent out in
          parts_in rec e _ (done rec e) ((T.parts-inside_totals).wrote (take record_size rec) rx msg lent out (bytes_take record_size rec x) y z w);
      fault = λ rec rx msg lent kind code out x y z w h.
          let e = event (report (fault kind code)) rx msg lent out in
          parts_in rec e _ (done rec e) ((T.parts-inside_totals).fault (take record_size rec) rx msg lent kind code out (bytes_take record_size rec x) y z w h);
    }
