-- `session_reports::read_to` meets its contract: with more bytes held, the session still fits its buffers.
use Rattle.session.proofs.Buf.{good-at}
use Rattle.session.proofs.Misfit.{guarded-in}
use Rattle.session.specs.Calls.{guarded}
use Rattle.session.specs.State.{st}
use Rattle.session.specs.Steps.{read_on}
use Rattle.session.specs.declared.Pending.TheVariants.{Idle}
use Rattle.session.specs.declared.Session.{Session}
use mathlib.Core.Path.{refl, ap, ◌∙◌}
use Rattle.session_reports.proofs.read_to.Goals as goal

pub returns : goal.returns
returns c =
    let a = c.args in
    c.read_on.ensures
    ∙ ap (λ (z : Session). guarded (st z a.rx.now a.msg.now) (read_on (st z a.rx.now a.msg.now) a.phase a.lost)) c.at.ensures
    ∙ guarded-in _ _ (good-at (st a.s a.rx.now a.msg.now) a.buf a.rx.now a.msg.now Idle c.requires.0 c.requires.1 c.requires.2 refl refl)
