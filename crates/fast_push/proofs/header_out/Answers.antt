-- `fast_push::header_out` meets its contract.
use mathlib.Core.Path.{sym, ◌∙◌}
use lib.ListN.{length}
use Rattle.fast_replies.proofs.Taken.{not-tried}
use Rattle.fast_push.specs.Pushing.{header_now}
use Rattle.fast_push.proofs.Pushes.{accepted-of, stands-inside, header-tried}
use Rattle.fast_push.proofs.header_out.Goals as goal

pub put_header-requires : goal.put_header-requires
put_header-requires c =
    let s = c.args in
    let h = (accepted-of s.rec.now (length s.rx.now) (length s.msg.now) (length s.lent.now) 2 (length s.out.now) (sym c.accepted.ensures ∙ c.if-accepted.true)).stands in
    (h.sized, stands-inside s.rec.now _ _ h)

pub returns-then-accepted : goal.returns-then-accepted
returns-then-accepted c =
    let s = c.args in
    header-tried s.rec.now s.rx.now s.msg.now s.lent.now s.out.now (sym c.accepted.ensures ∙ c.if-accepted.true) _ _ _ c.put_header.ensures

pub returns-else-accepted : goal.returns-else-accepted
returns-else-accepted c =
    let s = c.args in
    rw c.if-accepted.false
    (not-tried (header_now s.rec.now s.rx.now s.msg.now s.lent.now s.out.now) _ _ (rw (sym c.accepted.ensures ∙ c.if-accepted.false)))
