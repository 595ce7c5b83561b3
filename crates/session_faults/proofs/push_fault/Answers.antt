-- `session_faults::push_fault` meets its contract.
use Rattle.session_phases.proofs.Turns.{case}
use Rattle.session.proofs.Misfit.{guarded-in}
use Rattle.session.specs.Reports.{push_fault}
use Rattle.session.specs.State.{st}
use mathlib.Core.Path.{◌∙◌}
use Rattle.session_faults.proofs.push_fault.Goals as goal

pub returns-in-Closed : goal.returns-in-Closed
returns-in-Closed c =
    let a = c.args in
    case (push_fault (st a.s a.rx.now a.msg.now)) c.in-Closed.is (c.read_on.ensures ∙ guarded-in _ _ c.requires)
