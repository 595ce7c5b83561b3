-- `fast_record::stands` meets its contract: each test is one of the facts of a record that stands.
use mathlib.Core.Path.{sym, ◌∙◌}
use native.Mathlib.Omega.{arith}
use Rattle.fast_record.proofs.Laws.{stands-out, stands-last}
use Rattle.fast_record.proofs.stands.Goals as goal

pub returns-then-msg-message : goal.returns-then-msg-message
returns-then-msg-message c =
    let a = c.args in
    c.step_in.ensures
    ∙ stands-last a.rec.now a.rx a.msg
    (omega arith)
    (omega arith)
    (omega arith)
    (omega arith)
    (omega arith)
    (omega arith)
    (omega arith)
    (omega arith)
    (omega arith)
    (omega arith)

pub returns : goal.returns
returns c = let a = c.args in sym (stands-out a.rec.now a.rx a.msg (λ s. grind (arith, s.state, s.features, s.flag, s.order, s.inside, s.least, s.aside, s.rx, s.msg, s.ended)))
