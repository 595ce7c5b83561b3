-- `fast_record::number` meets its contract.
use mathlib.Core.Path.{◌∙◌}
use native.Mathlib.Omega.{arith}
use borrow.Author.Tests.{ne_eqb}
use lib.ListN.{length}
use Rattle.record.specs.Record.{size}
use Rattle.fast_record.specs.Standing.{number_in}
use Rattle.fast_record.proofs.Laws.{number_read}
use Rattle.fast_record.proofs.number.Goals as goal

pub returns-then-rec-eq-SIZE : goal.returns-then-rec-eq-SIZE
returns-then-rec-eq-SIZE c = let a = c.args in c.u64_at.ensures ∙ number_read a.rec.now a.i (omega arith)

pub returns : goal.returns
unfolding number_in
returns c = simp (ne_eqb (length c.args.rec.now) size c.if-rec-eq-SIZE.false)
