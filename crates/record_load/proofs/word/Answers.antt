-- `record_load::word` meets its contract.
use mathlib.Core.Path.{◌∙◌}
use native.Mathlib.Omega.{arith}
use Rattle.record.proofs.Words.{word_in}
use Rattle.record_load.proofs.word.Goals as goal

pub returns : goal.returns
returns c = let a = c.args in c.u64_at.ensures ∙ word_in a.rec.now a.i (omega arith)
