-- `exports::yuglasno_index_between` meets its contract.
use mathlib.Core.Path.{ap₂, ◌∙◌}
use lib.IntN.{ℤ}
use mir.Facts.{to_z-of_z}
use Rattle.time_index.specs.Crossing.{cross_index_between}
use Rattle.exports.proofs.yuglasno_index_between.Goals as goal

pub returns : goal.returns
returns c =
    c.index_between.ensures
    ∙ ap₂ (λ (from to : ℤ). cross_index_between c.args.slots.now c.args.area from to c.args.out.now) (to_z-of_z c.ranges.from) (to_z-of_z c.ranges.to)
