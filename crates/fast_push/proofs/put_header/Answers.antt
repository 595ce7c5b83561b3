-- `fast_push::put_header` meets its contract.
use mathlib.Core.Path.{refl, sym, ap, ◌∙◌}
use native.Mathlib.Omega.{arith}
use borrow.Author.Tests.{eq-eqb, lt-ltb}
use lib.ListN.{length}
use Rattle.boundary.specs.Told.{reply_bytes}
use Rattle.fast_replies.proofs.Taken.{done-out, done-in}
use Rattle.request_piece.specs.Pieces.{header_of}
use Rattle.fast_record.specs.Standing.{number_in}
use Rattle.fast_push.specs.Pushing.{next_in, next_part, push_step, has_room, data_id, header_goes}
use Rattle.fast_push.proofs.Pushes.{at_most, read_at_lem}
use Rattle.request.specs.declared.Request.TheVariants as Q
use Rattle.session.specs.declared.Reply.TheVariants as R
use Rattle.fast_push.proofs.put_header.Goals as goal

pub returns-then-number-ne0 : goal.returns-then-number-ne0
returns-then-number-ne0 c =
    let a = c.args in
    let rec = a.rec.now in
    done-out (header_goes rec a.rx.now a.lent.now) rec _ _ _ _ _ a.out.now (grind arith)

pub returns-then-n-eq0 : goal.returns-then-n-eq0
returns-then-n-eq0 c =
    let a = c.args in
    let rec = a.rec.now in
    let n = ap length (read_at_lem a.lent.now c.carried-part.ensures c.next-from.ensures) in
    done-out (header_goes rec a.rx.now a.lent.now) rec _ _ _ _ _ a.out.now (grind (arith, n))

pub has_room-requires : goal.has_room-requires
has_room-requires c =
    let a = c.args in
    (c.requires.1, rw (read_at_lem a.lent.now c.carried-part.ensures c.next-from.ensures) (at_most _ a.lent.now))

pub returns : goal.returns
unfolding reply_bytes
returns c =
    let a = c.args in
    let rec = a.rec.now in
    let n = ap length (read_at_lem a.lent.now c.carried-part.ensures c.next-from.ensures) in
    done-in (header_goes rec a.rx.now a.lent.now) rec (number_in rec 2) (number_in rec 3) (number_in rec 4) (push_step (next_in rec a.lent.now) 1)
    (R.WriteBytes (header_of (data_id rec) Q.Data (length (next_part rec a.lent.now)))) a.out.now _ _ _ _ _
    (rw (
      eq-eqb (number_in rec 2) 0 (omega arith),
      lt-ltb 0 (length (next_part rec a.lent.now)) (omega (arith, n, c.if-n-eq0.false)),
      ap (λ k. has_room rec (length a.rx.now) k) (sym n) ∙ sym c.has_room.ensures ∙ c.if-has_room.false,
    ))
    c.requires.0 refl refl refl (c.store_push.ensures ∙ rw c.next-from.ensures) (c.put_header_piece.ensures ∙ rw (c.id_in-id.ensures, n))
