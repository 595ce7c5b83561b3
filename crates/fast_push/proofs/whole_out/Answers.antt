-- `fast_push::whole_out` meets its contract.
use mathlib.Core.Path.{sym, ◌∙◌}
use lib.ListN.{length}
use Rattle.fast_replies.proofs.Taken.{not-tried}
use Rattle.fast_push.specs.Pushing.{whole_now}
use Rattle.fast_push.proofs.Pushes.{accepted-of, stands-inside, whole-tried}
use Rattle.fast_push.proofs.whole_out.Goals as goal

pub put_whole-requires : goal.put_whole-requires
put_whole-requires c =
    let s = c.args in
    let h = (accepted-of s.rec.now (length s.rx.now) (length s.msg.now) (length s.lent.now) 0 (length s.out.now) (sym c.accepted.ensures ∙ c.if-accepted.true)).stands in
    (h.sized, stands-inside s.rec.now _ _ h)

pub returns-then-accepted : goal.returns-then-accepted
returns-then-accepted c =
    let s = c.args in
    whole-tried s.rec.now s.rx.now s.msg.now s.lent.now s.out.now (sym c.accepted.ensures ∙ c.if-accepted.true) _ _ _ _ c.put_whole.ensures

pub returns-else-accepted : goal.returns-else-accepted
returns-else-accepted c =
    let s = c.args in
    rw c.if-accepted.false
    (not-tried (whole_now s.rec.now s.rx.now s.msg.now s.lent.now s.out.now) _ _ (rw (sym c.accepted.ensures ∙ c.if-accepted.false)))
