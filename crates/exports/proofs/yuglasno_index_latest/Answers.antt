-- `exports::yuglasno_index_latest` meets its contract.
use mathlib.Core.Path.{ap, ◌∙◌}
use lib.IntN.{ℤ}
use mir.Facts.{to_z-of_z}
use Rattle.time_index.specs.Crossing.{cross_index_latest}
use Rattle.exports.proofs.yuglasno_index_latest.Goals as goal

pub returns : goal.returns
returns c =
    c.index_latest.ensures
    ∙ ap (λ (t : ℤ). cross_index_latest c.args.slots.now c.args.area t c.args.out.now) (to_z-of_z c.ranges.time)
