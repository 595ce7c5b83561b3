-- `totals_step::total_read` meets its contract.
use Rattle.std.proofs.Common.{◌≡◌, ℕ, ◌+◌, ◌<◌, ◌≤◌, Bool, false, not, ◌&&◌, ◌||◌, leb, List, ◌^◌, length, take, drop, sym, ap, ◌∙◌, ap₂, arith, length-append, length-drop, length-take-le}
use Rattle.protocol.specs.Bytes.{Bytes}
use Rattle.protocol.proofs.Words.{bytes_take, number-below}
use Rattle.record.specs.Record.{size, loaded}
use Rattle.record.proofs.Words.{word_in}
use Rattle.boundary.specs.Crossing.{Crossed, crossed, turned_away, cross_read}
use Rattle.boundary.specs.Told.{out_size}
use Rattle.boundary_parts.specs.Bounds.{InBounds}
use Rattle.boundary_parts.proofs.Bounds.{parts-inside}
use Rattle.totals.specs.Crossing.{record_size, received_of, written_of, reads_of, limit, refuses, counted, total_read}
use Rattle.totals_taken.specs.Taken.{takes_read}
use Rattle.totals_taken.proofs.Laws.{taken-read}
use Rattle.totals_step.specs.Settled.{room_for}
use Rattle.totals_step.proofs.Behind.{settles-read}
use Rattle.totals_step.proofs.Steps.{short-read, room-taken, room-takes, stands, other_length, totalled-refused, totalled-taken, stays-below, told, or_below, either}
use Rattle.totals_step.proofs.total_read.Goals.{Else-rec-ne-CARD, Else-refuses}
use Rattle.totals_step.proofs.total_read.Goals as goal

-- the step of the session, and whether the numbers would pass the largest total
module _ (rec rx msg lent out : List ℕ) (count : ℕ) where
  abbrev step : Crossed
  step = cross_read (take size rec) rx msg lent count out

  abbrev takes : Bool
  takes = room_for (length out) (takes_read (loaded (take size rec)) (length rx) (length msg) (length lent) count)

  abbrev past : Bool
  past = leb limit (received_of rec + count) || leb limit (reads_of rec + 1)

  short : length out < out_size → turned_away (take size rec) rx msg out ≡ step
  short h = short-read (take size rec) rx msg lent out h count

  over : {before reads : ℕ} {t : Bool} → before ≡ received_of rec → reads ≡ reads_of rec → t ≡ ((leb limit (before + count) || leb limit (reads + 1)) && takes)
      → past && takes ≡ t
  over p q e = sym (e ∙ ap₂ (λ (i j : ℕ). (leb limit (i + count) || leb limit (j + 1)) && takes) p q)

  module _ (known : Bytes rec) (window : Bytes rx) (few : length msg < 2 ^ 63) (lends : length lent < 2 ^ 63) where
    taken : takes ≡ not (refuses step.number)
    taken =
        room-takes (take size rec) rx msg out step short _
        (λ h. taken-read (take size rec) rx msg lent out count (bytes_take size rec known) window few lends h)

    inside : InBounds lent step
    inside = parts-inside.read (take size rec) rx msg lent count out (bytes_take size rec known) window few lends

    -- what was taken leaves the bytes received and the reads below the limit, and had room for its reply
    module _ (here : length rec ≡ record_size) {x rx' msg' out' : List ℕ} {k : ℕ} (e : crossed x rx' msg' out' k ≡ step) (untold : refuses k ≡ false) where
      below : past && takes ≡ false → (received_of rec + count < limit) × (reads_of rec + 1 < limit)
      below f =
          or_below (received_of rec + count) (reads_of rec + 1)
          (stays-below rec rx msg out (received_of rec + count) (written_of rec) (reads_of rec + 1) here step e past taken f untold)

      room : out_size ≤ length out
      room = room-taken (take size rec) rx msg out step short e untold

-- the bytes that are lent, and two lengths
record Lent (rec rx msg lent : List ℕ) : Type 0 where
  known : Bytes rec
  window : Bytes rx
  few : length msg < 2 ^ 63
  lends : length lent < 2 ^ 63

lent-at : (c : Else-rec-ne-CARD) → Lent c.args.rec.now c.args.rx.now c.args.msg.now c.args.lent.now
lent-at c = record { known = λ i. (c.slice_known-1.given i).fits; window = λ i. (c.type_inv.rx i).fits; few = omega arith; lends = omega arith }

pub returns-then-rec-ne-CARD : goal.returns-then-rec-ne-CARD
unfolding total_read
returns-then-rec-ne-CARD c = other_length _ _ _ _ _ c.if-rec-ne-CARD.true c.refused.ensures

pub returns-then-over_read : goal.returns-then-over_read
unfolding total_read
returns-then-over_read c =
    let a = c.args in
    let rec = a.rec.now in
    let r = c.refused-then-over_read.ensures in
    let l = lent-at (goal.at.returns-then-over_read c).Else-rec-ne-CARD in
    let before = c.u64_at-before.ensures ∙ word_in rec 32 (omega arith) in
    let reads = c.u64_at-reads.ensures ∙ word_in rec 36 (omega arith) in
    told rec a.rx.now a.msg.now a.out.now (received_of rec + a.count) (written_of rec) (reads_of rec + 1) c.if-rec-ne-CARD.false
    (step rec a.rx.now a.msg.now a.lent.now a.out.now a.count) (past rec a.rx.now a.msg.now a.lent.now a.out.now a.count)
    (taken rec a.rx.now a.msg.now a.lent.now a.out.now a.count l.known l.window l.few l.lends)
    (over rec a.rx.now a.msg.now a.lent.now a.out.now a.count before reads c.over_read.ensures ∙ c.if-over_read.true)
    (λ h. either (received_of rec + a.count) (written_of rec) (reads_of rec + 1) h)
    (r.0, r.1 ∙ ap (counted 5376 0) c.put_u64s.ensures)

pub slice_bounds-session_read-end-2 : goal.slice_bounds-session_read-end-2
slice_bounds-session_read-end-2 c = sym (length-take-le size c.args.rec.now (omega arith))

pub returns-then-refuses : goal.returns-then-refuses
unfolding total_read
returns-then-refuses c =
    let a = c.args in
    let rec = a.rec.now in
    totalled-refused rec a.rx.now a.msg.now a.out.now (received_of rec + a.count) (written_of rec) (reads_of rec + 1) c.if-rec-ne-CARD.false
    (step rec a.rx.now a.msg.now a.lent.now a.out.now a.count) c.session_read-n.ensures (sym c.refuses.ensures ∙ c.if-refuses.true) c.refused-then-refuses.ensures

-- what was taken leaves the bytes received and the reads below the limit
stays : (c : Else-refuses) → (received_of c.args.rec.now + c.args.count < limit) × (reads_of c.args.rec.now + 1 < limit)
stays c =
    let a = c.args in
    let rec = a.rec.now in
    let before = c.u64_at-before.ensures ∙ word_in rec 32 (omega arith) in
    let reads = c.u64_at-reads.ensures ∙ word_in rec 36 (omega arith) in
    below rec a.rx.now a.msg.now a.lent.now a.out.now a.count (λ i. (c.slice_known-1.given i).fits) (λ i. (c.slice_known-2-1.given i).fits) (omega arith) (omega arith)
    c.if-rec-ne-CARD.false c.session_read-n.ensures (sym c.refuses.ensures ∙ c.if-refuses.false)
    (over rec a.rx.now a.msg.now a.lent.now a.out.now a.count before reads c.over_read.ensures ∙ c.if-over_read.false)

pub overflow_add-received : goal.overflow_add-received
overflow_add-received c =
    let e = c.u64_at-before.ensures ∙ word_in c.args.rec.now 32 (omega arith) in
    let b = stays (goal.at.overflow_add-received c).Else-refuses in
    record { fits = omega (arith, e, b.0) }

pub overflow_add-more : goal.overflow_add-more
overflow_add-more c =
    let e = c.u64_at-reads.ensures ∙ word_in c.args.rec.now 36 (omega arith) in
    let b = stays (goal.at.overflow_add-more c).Else-refuses in
    record { fits = omega (arith, e, b.1) }

pub finish-requires : goal.finish-requires
finish-requires c =
    let a = c.args in
    let rec = a.rec.now in
    let l = lent-at (goal.at.finish-requires c).Else-rec-ne-CARD in
    let untold = sym c.refuses.ensures ∙ c.if-refuses.false in
    let h = room rec a.rx.now a.msg.now a.lent.now a.out.now a.count l.known l.window l.few l.lends c.if-rec-ne-CARD.false c.session_read-n.ensures untold in
    let x = c.session_read-n.new.rec in
    let sized = c.session_read-n.auto.rec ∙ length-take-le size rec (omega (arith, c.if-rec-ne-CARD.false)) in (
      omega (arith, c.put_u64.auto.out, length-append x (drop size rec), length-drop size rec, sized, c.if-rec-ne-CARD.false),
      omega (arith, h),
      stands a.lent.now (step rec a.rx.now a.msg.now a.lent.now a.out.now a.count) c.session_read-n.ensures
          (inside rec a.rx.now a.msg.now a.lent.now a.out.now a.count l.known l.window l.few l.lends),
    )

pub returns : goal.returns
unfolding total_read
returns c =
    let a = c.args in
    let rec = a.rec.now in
    let l = lent-at (goal.at.returns c).Else-rec-ne-CARD in
    let here = c.if-rec-ne-CARD.false in
    let b = stays (goal.at.returns c).Else-refuses in
    let before = c.u64_at-before.ensures ∙ word_in rec 32 (omega arith) in
    let more = ap (λ (i : ℕ). i + 1) (c.u64_at-reads.ensures ∙ word_in rec 36 (omega arith)) in
    let sized = c.session_read-n.auto.rec ∙ length-take-le size rec (omega (arith, here)) in
    let f = c.finish.ensures in
    totalled-taken rec a.rx.now a.msg.now a.out.now (received_of rec + a.count) (written_of rec) (reads_of rec + 1) here
    (step rec a.rx.now a.msg.now a.lent.now a.out.now a.count) c.session_read-n.ensures
    (sym c.refuses.ensures ∙ c.if-refuses.false) b.0 (number-below 8 rec 272 l.known) b.1
    (settles-read rec here l.known c.session_read-n.new.rec sized (reads_of rec + 1) _ _ _ _
    (ap (λ (m : ℕ). m + a.count) before) b.0 c.put_u64.ensures more f.0)
    more f.1
