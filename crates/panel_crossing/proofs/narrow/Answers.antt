-- `panel_crossing::narrow` meets its contract.
use mathlib.Core.Path.{◌≡◌, ◌∙◌}
use native.Mathlib.Omega.{arith}
use borrow.Author.Tests.{ltb-true}
use Rattle.boundary.specs.Heard.{at}
use Rattle.record.proofs.Words.{word_in}
use Rattle.panel_crossing.proofs.narrow.Goals.{After-u64_at}
use Rattle.panel_crossing.proofs.narrow.Goals as goal

number : (c : After-u64_at) → c.u64_at.result ≡ at c.args.numbers.now c.args.i
number c = c.u64_at.ensures ∙ word_in _ _ c.requires.0

pub overflow_cast-result : goal.overflow_cast-result
overflow_cast-result c =
    omega (arith, number c, ltb-true (at c.args.numbers.now c.args.i) 0x1_0000_0000 c.requires.1)

pub returns : goal.returns
returns c = number c
