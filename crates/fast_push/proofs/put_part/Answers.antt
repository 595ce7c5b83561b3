-- `fast_push::put_part` meets its contract.
use mathlib.Core.Path.{refl, ap, ◌∙◌}
use native.Mathlib.Omega.{arith}
use borrow.Author.Tests.{lt-ltb, le-ltb}
use lib.Dec.{ltb}
use lib.ListN.{length}
use Rattle.boundary.specs.Told.{reply_bytes}
use Rattle.fast_replies.proofs.Taken.{done-out, done-in}
use Rattle.fast_record.specs.Standing.{number_in}
use Rattle.fast_push.specs.Pushing.{part_in, push_step}
use Rattle.fast_push.proofs.Pushes.{read_at_lem}
use Rattle.session.specs.declared.Reply.TheVariants as R
use Rattle.fast_push.proofs.put_part.Goals as goal

pub returns-then-n-eq0 : goal.returns-then-n-eq0
returns-then-n-eq0 c =
    let a = c.args in
    let n = ap length (read_at_lem a.lent.now c.carried-part.ensures c.number-from.ensures) in
    done-out (ltb 0 (length (part_in a.rec.now a.lent.now))) a.rec.now _ _ _ _ _ a.out.now (le-ltb 0 (length (part_in a.rec.now a.lent.now)) (omega (arith, n, c.if-n-eq0.true)))

pub returns : goal.returns
unfolding reply_bytes
returns c =
    let a = c.args in
    let rec = a.rec.now in
    let f = c.number-from.ensures in
    let n = ap length (read_at_lem a.lent.now c.carried-part.ensures f) in
    done-in (ltb 0 (length (part_in rec a.lent.now))) rec (number_in rec 2) (number_in rec 3) (number_in rec 4) (push_step (number_in rec 10) 2)
    (R.WriteLent (number_in rec 10) (length (part_in rec a.lent.now))) a.out.now _ _ _ _ _ (lt-ltb 0 (length (part_in rec a.lent.now)) (omega (arith, n, c.if-n-eq0.false))) c.requires refl refl refl
    (c.store_push.ensures ∙ rw f) (c.put_u64s.ensures ∙ rw (f, n))
