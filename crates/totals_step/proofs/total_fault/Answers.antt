-- `totals_step::total_fault` meets its contract: no total is added to.
use Rattle.std.proofs.Common.{◌≡◌, ℕ, ◌<◌, ◌≤◌, false, List, ◌^◌, ◌++◌, length, take, drop, sym, ◌∙◌, arith, length-append, length-drop, length-take-le}
use Rattle.protocol.specs.Bytes.{Bytes}
use Rattle.protocol.proofs.Words.{bytes_take}
use Rattle.record.specs.Record.{size}
use Rattle.record.proofs.Words.{word_in}
use Rattle.boundary.specs.Crossing.{Crossed, crossed, turned_away, cross_fault}
use Rattle.boundary.specs.Told.{out_size}
use Rattle.boundary_parts.specs.Bounds.{InBounds}
use Rattle.boundary_parts.proofs.Bounds.{parts-inside}
use Rattle.totals.specs.Crossing.{received_of, written_of, reads_of, refuses, total_fault}
use Rattle.totals_step.proofs.Behind.{reads_kept, settles-same}
use Rattle.totals_step.proofs.Steps.{short-fault, room-taken, stands, other_length, settled-refused, settled-taken}
use Rattle.totals_step.proofs.total_fault.Goals.{Else-rec-ne-CARD}
use Rattle.totals_step.proofs.total_fault.Goals as goal

-- the step of the session
module _ (rec rx msg lent out : List ℕ) (kind code : ℕ) where
  abbrev step : Crossed
  step = cross_fault (take size rec) rx msg lent kind code out

  short : length out < out_size → turned_away (take size rec) rx msg out ≡ step
  short h = short-fault (take size rec) rx msg lent out h kind code

  inside : Bytes rec → Bytes rx → length msg < 2 ^ 63 → length lent < 2 ^ 63 → code < 2 ^ 32 → InBounds lent step
  inside known window few lends h = parts-inside.fault (take size rec) rx msg lent kind code out (bytes_take size rec known) window few lends h

  -- what was taken had room for its reply
  room : {x rx' msg' out' : List ℕ} {k : ℕ} → crossed x rx' msg' out' k ≡ step → refuses k ≡ false → out_size ≤ length out
  room e untold = room-taken (take size rec) rx msg out step short e untold

-- the bytes that are lent, and two lengths
record Lent (rec rx msg lent : List ℕ) : Type 0 where
  known : Bytes rec
  window : Bytes rx
  few : length msg < 2 ^ 63
  lends : length lent < 2 ^ 63

lent-at : (c : Else-rec-ne-CARD) → Lent c.args.rec.now c.args.rx.now c.args.msg.now c.args.lent.now
lent-at c = record { known = λ i. (c.slice_known-1.given i).fits; window = λ i. (c.type_inv.rx i).fits; few = omega arith; lends = omega arith }

pub returns-then-rec-ne-CARD : goal.returns-then-rec-ne-CARD
unfolding total_fault
returns-then-rec-ne-CARD c = other_length _ _ _ _ _ c.if-rec-ne-CARD.true c.refused.ensures

pub slice_bounds-session_fault-end-2 : goal.slice_bounds-session_fault-end-2
slice_bounds-session_fault-end-2 c = sym (length-take-le size c.args.rec.now (omega arith))

pub returns-then-refuses : goal.returns-then-refuses
unfolding total_fault
returns-then-refuses c =
    let a = c.args in
    let rec = a.rec.now in
    settled-refused rec a.rx.now a.msg.now a.out.now (received_of rec) (written_of rec) (reads_of rec) c.if-rec-ne-CARD.false
    (step rec a.rx.now a.msg.now a.lent.now a.out.now a.kind a.code) c.session_fault-n.ensures (sym c.refuses.ensures ∙ c.if-refuses.true) c.refused-then-refuses.ensures

pub finish-requires : goal.finish-requires
finish-requires c =
    let a = c.args in
    let rec = a.rec.now in
    let l = lent-at (goal.at.finish-requires c).Else-rec-ne-CARD in
    let h = room rec a.rx.now a.msg.now a.lent.now a.out.now a.kind a.code c.session_fault-n.ensures (sym c.refuses.ensures ∙ c.if-refuses.false) in (
      omega arith,
      omega (arith, h),
      stands a.lent.now (step rec a.rx.now a.msg.now a.lent.now a.out.now a.kind a.code) c.session_fault-n.ensures
          (inside rec a.rx.now a.msg.now a.lent.now a.out.now a.kind a.code l.known l.window l.few l.lends (omega arith)),
    )

pub returns : goal.returns
unfolding total_fault
returns c =
    let a = c.args in
    let rec = a.rec.now in
    let l = lent-at (goal.at.returns c).Else-rec-ne-CARD in
    let here = c.if-rec-ne-CARD.false in
    let f = c.finish.ensures in
    let x = c.session_fault-n.new.rec in
    let sized : length x ≡ size = c.session_fault-n.auto.rec ∙ length-take-le size rec (omega (arith, here)) in
    let reads : c.u64_at-reads.result ≡ reads_of rec =
    c.u64_at-reads.ensures ∙ word_in (x ++ drop size rec) 36 (omega (arith, length-append x (drop size rec), length-drop size rec, here))
    ∙ reads_kept rec here l.known x sized in
    settled-taken rec a.rx.now a.msg.now a.out.now (received_of rec) (written_of rec) (reads_of rec) here
    (step rec a.rx.now a.msg.now a.lent.now a.out.now a.kind a.code) c.session_fault-n.ensures (sym c.refuses.ensures ∙ c.if-refuses.false)
    (settles-same rec here l.known x sized (reads_of rec) _ _ _ _ reads f.0)
    reads f.1
