-- `fast_pull::await_header` meets its contract.
use mathlib.Core.Path.{refl}
use native.Mathlib.Omega.{arith}
use borrow.Author.Tests.{eq-eqb}
use Rattle.boundary.specs.Told.{reply_bytes}
use Rattle.fast_replies.proofs.Taken.{done-out, done-in}
use Rattle.fast_record.specs.Standing.{number_in, plain_step}
use Rattle.fast_pull.specs.Chunks.{nothing_held}
use Rattle.session.specs.declared.Reply.TheVariants as R
use Rattle.fast_pull.proofs.await_header.Goals as goal

pub returns-then-number : goal.returns-then-number
returns-then-number c = let a = c.args in done-out (nothing_held a.rec.now) a.rec.now _ _ _ _ _ a.out.now (grind arith)

pub returns : goal.returns
unfolding reply_bytes
returns c =
    let a = c.args in
    let rec = a.rec.now in
    done-in (nothing_held rec) rec 0 0 a.lent (plain_step 17 8) (R.Read 0 a.rx) a.out.now _ _ _ _ _
    (eq-eqb (number_in rec 2) (number_in rec 3) (omega arith)) c.requires refl refl refl c.store_step.ensures c.put_u64s.ensures
