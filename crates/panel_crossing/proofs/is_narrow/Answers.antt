-- `panel_crossing::is_narrow` meets its contract.
use mathlib.Core.Path.{◌∙◌}
use Rattle.record.proofs.Words.{word_in}
use Rattle.panel_crossing.proofs.is_narrow.Goals as goal

pub returns : goal.returns
returns c =
    rw (c.u64_at.ensures ∙ word_in c.args.numbers.now c.args.i c.requires)
