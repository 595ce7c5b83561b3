-- `fast_push::part_out` meets its contract.
use mathlib.Core.Path.{sym, ◌∙◌}
use lib.ListN.{length}
use Rattle.fast_replies.proofs.Taken.{not-tried}
use Rattle.fast_push.specs.Pushing.{part_now}
use Rattle.fast_push.proofs.Pushes.{accepted-of, part-tried}
use Rattle.fast_push.proofs.part_out.Goals as goal

pub put_part-requires : goal.put_part-requires
put_part-requires c =
    let s = c.args in
    (accepted-of s.rec.now (length s.rx.now) (length s.msg.now) (length s.lent.now) 1 (length s.out.now) (sym c.accepted.ensures ∙ c.if-accepted.true)).stands.sized

pub returns-then-accepted : goal.returns-then-accepted
returns-then-accepted c =
    let s = c.args in
    part-tried s.rec.now s.rx.now s.msg.now s.lent.now s.out.now (sym c.accepted.ensures ∙ c.if-accepted.true) _ _ _ c.put_part.ensures

pub returns-else-accepted : goal.returns-else-accepted
returns-else-accepted c =
    let s = c.args in
    rw c.if-accepted.false
    (not-tried (part_now s.rec.now s.rx.now s.msg.now s.lent.now s.out.now) _ _ (rw (sym c.accepted.ensures ∙ c.if-accepted.false)))
