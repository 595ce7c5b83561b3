-- `panel_crossing::wide` meets its contract.
use mathlib.Core.Path.{◌∙◌}
use Rattle.record.proofs.Words.{word_in}
use Rattle.panel_crossing.proofs.wide.Goals as goal

pub returns : goal.returns
returns c = c.u64_at.ensures ∙ word_in _ _ c.requires
