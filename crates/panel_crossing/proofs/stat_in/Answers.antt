-- `panel_crossing::stat_in` meets its contract: each number is there, and fits where its field has 32 bits.
use native.Mathlib.Omega.{arith}
use Rattle.panel_side.proofs.Narrow.{Narrow, narrow}
use Rattle.panel_crossing.proofs.stat_in.Goals.{Start}
use Rattle.panel_crossing.proofs.stat_in.Goals as goal

known : (c : Start) → Narrow c.args.numbers.now
known c = narrow c.args.numbers.now c.requires

pub narrow-requires : goal.narrow-requires
narrow-requires c = let k = known (goal.at.narrow-requires c).Start in (omega arith, k.mode)

pub narrow-requires-2 : goal.narrow-requires-2
narrow-requires-2 c = let k = known (goal.at.narrow-requires-2 c).Start in (omega arith, k.size)

pub narrow-requires-3 : goal.narrow-requires-3
narrow-requires-3 c = let k = known (goal.at.narrow-requires-3 c).Start in (omega arith, k.mtime)

pub returns : goal.returns
returns c =
    rw (
      c.narrow.ensures,
      c.narrow-2.ensures,
      c.narrow-3.ensures,
    )
