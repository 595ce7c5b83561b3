-- `totals_step::total_wrote` meets its contract.
use Rattle.std.proofs.Common.{◌≡◌, ℕ, ◌+◌, ◌<◌, ◌≤◌, Bool, false, not, ◌&&◌, leb, List, ◌^◌, length, take, drop, sym, ap, ◌∙◌, ap₂, arith, length-append, length-drop, length-take-le, leb-false}
use mathlib.Core.Bool.{or-true}
use Rattle.protocol.specs.Bytes.{Bytes}
use Rattle.protocol.proofs.Words.{bytes_take, number-below}
use Rattle.record.specs.Record.{size, loaded}
use Rattle.record.proofs.Words.{word_in}
use Rattle.boundary.specs.Crossing.{Crossed, crossed, turned_away, cross_wrote}
use Rattle.boundary.specs.Told.{out_size}
use Rattle.boundary_parts.specs.Bounds.{InBounds}
use Rattle.boundary_parts.proofs.Bounds.{parts-inside}
use Rattle.totals.specs.Crossing.{record_size, received_of, written_of, asked_of, reads_of, limit, refuses, counted, total_wrote}
use Rattle.totals_taken.specs.Taken.{takes_wrote}
use Rattle.totals_taken.proofs.Laws.{taken-wrote}
use Rattle.totals_step.specs.Settled.{room_for}
use Rattle.totals_step.proofs.Behind.{reads-beside, settles-wrote}
use Rattle.totals_step.proofs.Steps.{short-wrote, room-taken, room-takes, stands, other_length, totalled-refused, totalled-taken, stays-below, told}
use Rattle.totals_step.proofs.total_wrote.Goals.{Else-rec-ne-CARD, Else-refuses}
use Rattle.totals_step.proofs.total_wrote.Goals as goal

-- the step of the session, and whether the bytes written would pass the largest total
module _ (rec rx msg lent out : List ℕ) where
  abbrev step : Crossed
  step = cross_wrote (take size rec) rx msg lent out

  abbrev takes : Bool
  takes = room_for (length out) (takes_wrote (loaded (take size rec)) (length rx) (length msg) (length lent))

  short : length out < out_size → turned_away (take size rec) rx msg out ≡ step
  short h = short-wrote (take size rec) rx msg lent out h

  over : (before asked : ℕ) {t : Bool} → before + asked ≡ written_of rec + asked_of rec → t ≡ (leb limit (before + asked) && takes)
      → leb limit (written_of rec + asked_of rec) && takes ≡ t
  over before asked p e = sym (e ∙ ap (λ (m : ℕ). leb limit m && takes) p)

  module _ (known : Bytes rec) (window : Bytes rx) (few : length msg < 2 ^ 63) (lends : length lent < 2 ^ 63) where
    taken : takes ≡ not (refuses step.number)
    taken =
        room-takes (take size rec) rx msg out step short _
        (λ h. taken-wrote (take size rec) rx msg lent out (bytes_take size rec known) window few lends h)

    inside : InBounds lent step
    inside = parts-inside.wrote (take size rec) rx msg lent out (bytes_take size rec known) window few lends

    -- what was taken leaves the bytes written below the limit, and had room for its reply
    module _ (here : length rec ≡ record_size) {x rx' msg' out' : List ℕ} {k : ℕ} (e : crossed x rx' msg' out' k ≡ step) (untold : refuses k ≡ false) where
      below : leb limit (written_of rec + asked_of rec) && takes ≡ false → written_of rec + asked_of rec < limit
      below f =
          leb-false limit (written_of rec + asked_of rec)
          (stays-below rec rx msg out (received_of rec) (written_of rec + asked_of rec) (reads_of rec) here step e (leb limit (written_of rec + asked_of rec)) taken f untold)

      room : out_size ≤ length out
      room = room-taken (take size rec) rx msg out step short e untold

-- the bytes that are lent, and two lengths
record Lent (rec rx msg lent : List ℕ) : Type 0 where
  known : Bytes rec
  window : Bytes rx
  few : length msg < 2 ^ 63
  lends : length lent < 2 ^ 63

lent-at : (c : Else-rec-ne-CARD) → Lent c.args.rec.now c.args.rx.now c.args.msg.now c.args.lent.now
lent-at c = record { known = λ i. (c.slice_known-1.given i).fits; window = λ i. (c.type_inv.rx i).fits; few = omega arith; lends = omega arith }

pub returns-then-rec-ne-CARD : goal.returns-then-rec-ne-CARD
unfolding total_wrote
returns-then-rec-ne-CARD c = other_length _ _ _ _ _ c.if-rec-ne-CARD.true c.refused.ensures

pub returns-then-over_wrote : goal.returns-then-over_wrote
unfolding total_wrote
returns-then-over_wrote c =
    let a = c.args in
    let rec = a.rec.now in
    let r = c.refused-then-over_wrote.ensures in
    let l = lent-at (goal.at.returns-then-over_wrote c).Else-rec-ne-CARD in
    let sum = ap₂ (λ (i j : ℕ). i + j) (c.u64_at-before.ensures ∙ word_in rec 34 (omega arith)) (c.u64_at-asked.ensures ∙ word_in rec 35 (omega arith)) in
    told rec a.rx.now a.msg.now a.out.now (received_of rec) (written_of rec + asked_of rec) (reads_of rec) c.if-rec-ne-CARD.false
    (step rec a.rx.now a.msg.now a.lent.now a.out.now) (leb limit (written_of rec + asked_of rec))
    (taken rec a.rx.now a.msg.now a.lent.now a.out.now l.known l.window l.few l.lends)
    (over rec a.rx.now a.msg.now a.lent.now a.out.now c.u64_at-before.result c.u64_at-asked.result sum c.over_wrote.ensures ∙ c.if-over_wrote.true)
    (λ h. rw h (or-true (leb limit (received_of rec))))
    (r.0, r.1 ∙ ap (counted 5376 0) c.put_u64s.ensures)

pub slice_bounds-session_wrote-end-2 : goal.slice_bounds-session_wrote-end-2
slice_bounds-session_wrote-end-2 c = sym (length-take-le size c.args.rec.now (omega arith))

pub returns-then-refuses : goal.returns-then-refuses
unfolding total_wrote
returns-then-refuses c =
    let a = c.args in
    let rec = a.rec.now in
    totalled-refused rec a.rx.now a.msg.now a.out.now (received_of rec) (written_of rec + asked_of rec) (reads_of rec) c.if-rec-ne-CARD.false
    (step rec a.rx.now a.msg.now a.lent.now a.out.now) c.session_wrote-n.ensures (sym c.refuses.ensures ∙ c.if-refuses.true) c.refused-then-refuses.ensures

-- what was taken leaves the bytes written below the limit
stays : (c : Else-refuses) → written_of c.args.rec.now + asked_of c.args.rec.now < limit
stays c =
    let a = c.args in
    let rec = a.rec.now in
    let sum = ap₂ (λ (i j : ℕ). i + j) (c.u64_at-before.ensures ∙ word_in rec 34 (omega arith)) (c.u64_at-asked.ensures ∙ word_in rec 35 (omega arith)) in
    below rec a.rx.now a.msg.now a.lent.now a.out.now (λ i. (c.slice_known-1.given i).fits) (λ i. (c.slice_known-2-1.given i).fits) (omega arith) (omega arith)
    c.if-rec-ne-CARD.false c.session_wrote-n.ensures (sym c.refuses.ensures ∙ c.if-refuses.false)
    (over rec a.rx.now a.msg.now a.lent.now a.out.now c.u64_at-before.result c.u64_at-asked.result sum c.over_wrote.ensures ∙ c.if-over_wrote.false)

pub overflow_add-written : goal.overflow_add-written
overflow_add-written c =
    let rec = c.args.rec.now in
    let sum = ap₂ (λ (i j : ℕ). i + j) (c.u64_at-before.ensures ∙ word_in rec 34 (omega arith)) (c.u64_at-asked.ensures ∙ word_in rec 35 (omega arith)) in
    record { fits = omega (arith, sum, stays (goal.at.overflow_add-written c).Else-refuses) }

pub finish-requires : goal.finish-requires
finish-requires c =
    let a = c.args in
    let rec = a.rec.now in
    let l = lent-at (goal.at.finish-requires c).Else-rec-ne-CARD in
    let untold = sym c.refuses.ensures ∙ c.if-refuses.false in
    let h = room rec a.rx.now a.msg.now a.lent.now a.out.now l.known l.window l.few l.lends c.if-rec-ne-CARD.false c.session_wrote-n.ensures untold in
    let x = c.session_wrote-n.new.rec in
    let sized = c.session_wrote-n.auto.rec ∙ length-take-le size rec (omega (arith, c.if-rec-ne-CARD.false)) in (
      omega (arith, c.put_u64.auto.out, length-append x (drop size rec), length-drop size rec, sized, c.if-rec-ne-CARD.false),
      omega (arith, h),
      stands a.lent.now (step rec a.rx.now a.msg.now a.lent.now a.out.now) c.session_wrote-n.ensures
          (inside rec a.rx.now a.msg.now a.lent.now a.out.now l.known l.window l.few l.lends),
    )

pub returns : goal.returns
unfolding total_wrote
returns c =
    let a = c.args in
    let rec = a.rec.now in
    let l = lent-at (goal.at.returns c).Else-rec-ne-CARD in
    let here = c.if-rec-ne-CARD.false in
    let sum = ap₂ (λ (i j : ℕ). i + j) (c.u64_at-before.ensures ∙ word_in rec 34 (omega arith)) (c.u64_at-asked.ensures ∙ word_in rec 35 (omega arith)) in
    let f = c.finish.ensures in
    let x = c.session_wrote-n.new.rec in
    let sized = c.session_wrote-n.auto.rec ∙ length-take-le size rec (omega (arith, here)) in
    let reads : c.u64_at-reads.result ≡ reads_of rec =
    c.u64_at-reads.ensures ∙ word_in c.put_u64.new.out 36 (omega (arith, c.put_u64.auto.out, length-append x (drop size rec), length-drop size rec, sized, here))
    ∙ reads-beside rec here l.known x sized sum c.put_u64.ensures in
    totalled-taken rec a.rx.now a.msg.now a.out.now (received_of rec) (written_of rec + asked_of rec) (reads_of rec) here
    (step rec a.rx.now a.msg.now a.lent.now a.out.now) c.session_wrote-n.ensures
    (sym c.refuses.ensures ∙ c.if-refuses.false) (number-below 8 rec 256 l.known) (stays (goal.at.returns c).Else-refuses) (number-below 8 rec 288 l.known)
    (settles-wrote rec here l.known x sized (reads_of rec) _ _ _ _ sum c.put_u64.ensures reads f.0)
    reads f.1
