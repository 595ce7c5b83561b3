-- `fast_push::put_whole` meets its contract.
use mathlib.Core.List.{List}
use mathlib.Core.Path.{refl, sym, ap, ◌∙◌}
use Prim.Native.Nat.{ℕ, ◌+◌}
use native.Mathlib.Omega.{arith}
use borrow.Author.Tests.{eq-eqb, lt-ltb}
use lib.ListN.{length}
use Rattle.std.specs.Prelude.{Option}
use Rattle.decimal.proofs.Fitted.{some-some}
use Rattle.protocol.specs.Bytes.{put}
use Rattle.boundary.specs.Told.{reply_bytes}
use Rattle.fast_replies.proofs.Taken.{written_out, written_in}
use Rattle.fast_record.specs.Standing.{number_in}
use Rattle.fast_push.specs.Pushing.{next_in, next_part, push_step, has_room, whole_goes, next_bytes}
use Rattle.fast_push.proofs.Pushes.{at_most, read_at_lem, composed-whole}
use Rattle.session.specs.declared.Reply.TheVariants as R
use Rattle.fast_push.proofs.put_whole.Goals as goal

pub returns-then-number-ne0 : goal.returns-then-number-ne0
returns-then-number-ne0 c =
    let a = c.args in
    let rec = a.rec.now in
    written_out (whole_goes rec a.rx.now a.lent.now) rec _ _ _ _ _ a.out.now a.rx.now _ (grind arith)

pub returns-then-n-eq0 : goal.returns-then-n-eq0
returns-then-n-eq0 c =
    let a = c.args in
    let rec = a.rec.now in
    let n = ap length (read_at_lem a.lent.now c.carried-part.ensures c.next-from.ensures) in
    written_out (whole_goes rec a.rx.now a.lent.now) rec _ _ _ _ _ a.out.now a.rx.now _ (grind (arith, n))

pub has_room-requires : goal.has_room-requires
has_room-requires c =
    let a = c.args in
    (c.requires.1, rw (read_at_lem a.lent.now c.carried-part.ensures c.next-from.ensures) (at_most _ a.lent.now))

pub unwrap-len-requires : goal.unwrap-len-requires
unwrap-len-requires c =
    let a = c.args in
    let rec = a.rec.now in
    let rx = a.rx.now in
    let lent = a.lent.now in
    let p = read_at_lem lent c.carried-part.ensures c.next-from.ensures in
    let t = c.number-tail.ensures in
    let f = ap (λ k. has_room rec (length rx) k) (sym (ap length p)) ∙ sym c.has_room.ensures ∙ c.if-not-has_room.false in
    let w = composed-whole rec rx lent c.compose_at.ensures c.id_in-id.ensures t p c.requires.1 f in
    rw (ap (λ (q : List ℕ × Option ℕ). q.1) w)

pub returns : goal.returns
unfolding reply_bytes
returns c =
    let a = c.args in
    let rec = a.rec.now in
    let rx = a.rx.now in
    let lent = a.lent.now in
    let part = next_part rec lent in
    let p = read_at_lem lent c.carried-part.ensures c.next-from.ensures in
    let n = ap length p in
    let t = c.number-tail.ensures in
    let f = ap (λ k. has_room rec (length rx) k) (sym n) ∙ sym c.has_room.ensures ∙ c.if-not-has_room.false in
    let w = composed-whole rec rx lent c.compose_at.ensures c.id_in-id.ensures t p c.requires.1 f in
    let l = some-some (sym c.unwrap-len.ensures ∙ ap (λ (q : List ℕ × Option ℕ). q.1) w) in
    written_in (whole_goes rec rx lent) rec (number_in rec 2) (number_in rec 3) (number_in rec 4) (push_step (next_in rec lent) 0)
    (R.WriteRx (number_in rec 3) (8 + length part)) a.out.now rx (put rx (number_in rec 3) (next_bytes rec lent)) _ _ _ _ _ _
    (rw (
      eq-eqb (number_in rec 2) 0 (omega arith),
      lt-ltb 0 (length part) (omega (arith, n, c.if-n-eq0.false)),
      f,
    ))
    c.requires.0 refl refl refl (c.store_push.ensures ∙ rw c.next-from.ensures) (ap (λ (q : List ℕ × Option ℕ). q.0) w)
    (c.put_u64s.ensures ∙ rw (t, l))
