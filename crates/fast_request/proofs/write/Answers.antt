-- `fast_request::write` meets its contract.
use mathlib.Core.Path.{refl, ◌∙◌}
use Prim.Native.Nat.{◌+◌, ◌-◌}
use native.Mathlib.Omega.{arith}
use borrow.Author.Tests.{le-leb, lt-leb}
use lib.ListN.{length}
use Rattle.boundary.specs.Told.{reply_bytes}
use Rattle.fast_replies.proofs.Taken.{written_out, written_in}
use Rattle.fast_record.specs.Standing.{number_in, plain_step}
use Rattle.fast_request.specs.Starting.{held_count_in, ask_fits, asked_in}
use Rattle.session.specs.declared.Reply.TheVariants as R
use Rattle.fast_request.proofs.write.Goals as goal

pub returns-then-room-n : goal.returns-then-room-n
returns-then-room-n c =
    let a = c.args in
    let rec = a.rec.now in
    written_out (ask_fits rec a.rx.now a.lent.now) rec _ _ _ _ _ a.out.now a.rx.now _
    (lt-leb (8 + length a.lent.now) (length a.rx.now - held_count_in rec) (omega arith))

pub returns : goal.returns
unfolding reply_bytes
returns c =
    let a = c.args in
    let rec = a.rec.now in
    let rx = a.rx.now in
    let n = length a.lent.now in
    let h = c.number-head.ensures in
    let t = c.number-tail.ensures in
    written_in (ask_fits rec rx a.lent.now) rec 0 (held_count_in rec) n (plain_step a.call 0) (R.WriteRx (held_count_in rec) (8 + n)) a.out.now rx
    (asked_in rec rx (number_in rec 2) (number_in rec 3) a.call a.lent.now) _ _ _ _ _ _
    (le-leb (8 + n) (length rx - held_count_in rec) (omega arith)) c.requires.0 refl (omega arith) refl
    c.store_step.ensures
    (c.put_request.ensures ∙ rw (h, t))
    (c.put_u64s.ensures ∙ rw (h, t))
