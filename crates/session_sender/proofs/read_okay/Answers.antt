-- `session_sender::read_okay` meets its contract: a session that fits its buffers fits them after compaction.
use Rattle.session.proofs.Buf.{good-tidied}
use Rattle.session.proofs.Misfit.{guarded-in}
use Rattle.session.specs.Calls.{guarded}
use Rattle.session.specs.State.{St, st}
use Rattle.session.specs.Steps.{read_on}
use Rattle.session.specs.declared.Phase.TheVariants.{Header}
use mathlib.Core.Bool.{false}
use mathlib.Core.Path.{ap, ◌∙◌}
use Rattle.session.specs.declared.Want.TheVariants as W
use Rattle.session_sender.proofs.read_okay.Goals as goal

pub returns : goal.returns
returns c =
    let a = c.args in
    c.read_on.ensures
    ∙ ap (λ (z : St). guarded z (read_on z (Header W.Okay) false)) (c.tidy-front.ensures a.msg.now)
    ∙ guarded-in _ _ (good-tidied (st a.s a.rx.now a.msg.now) c.requires)
