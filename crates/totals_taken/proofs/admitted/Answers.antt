-- `totals_taken::admitted` meets its contract.
use mathlib.Core.Path.{◌∙◌}
use Rattle.session.proofs.Refused.{lets-in}
use Rattle.totals_taken.proofs.admitted.Goals as goal

pub returns : goal.returns
returns c = rw (← c.check_report.ensures) (c.is_ok.ensures.value ∙ lets-in c.check_report.result)
