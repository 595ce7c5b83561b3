-- `fast_sent::ask_header` meets its contract.
use mathlib.Core.Path.{◌∙◌}
use Prim.Native.Nat.{◌+◌, ◌-◌}
use native.Mathlib.Omega.{arith}
use borrow.Author.Tests.{lt-ltb}
use lib.ListN.{length}
use Rattle.boundary.specs.Told.{reply_bytes}
use Rattle.fast_replies.proofs.Taken.{done-out, done-in}
use Rattle.fast_record.specs.Standing.{number_in, plain_step}
use Rattle.fast_sent.specs.Asking.{header_short}
use Rattle.session.specs.declared.Reply.TheVariants as R
use Rattle.fast_sent.proofs.ask_header.Goals as goal

pub returns-then-held-ge8 : goal.returns-then-held-ge8
returns-then-held-ge8 c =
    let a = c.args in
    let rec = a.rec.now in
    done-out (header_short rec a.rx.now) rec _ _ _ _ _ a.out.now (grind arith)

pub returns : goal.returns
unfolding reply_bytes
returns c =
    let a = c.args in
    let rec = a.rec.now in
    let h = c.number-head.ensures in
    let t = c.number-tail.ensures in
    done-in (header_short rec a.rx.now) rec (number_in rec 2) (number_in rec 3) (number_in rec 4) (plain_step a.state (number_in rec 2 + 8))
    (R.Read (number_in rec 3) (length a.rx.now - number_in rec 3)) a.out.now _ _ _ _ _
    (rw (lt-ltb (number_in rec 3 - number_in rec 2) 8 (omega arith), lt-ltb (number_in rec 3) (length a.rx.now) (omega arith))) c.requires.0 h t c.number-lent.ensures
    (c.store_step.ensures ∙ rw h) (c.put_u64s.ensures ∙ rw t)
