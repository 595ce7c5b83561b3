-- `panel_crossing::stat_v2_in` meets its contract: each number is there, and fits where its field has 32 bits.
use mathlib.Core.Path.{◌∙◌}
use native.Mathlib.Omega.{arith}
use borrow.Author.Rules.{sfits_of}
use mir.Facts.{to_z-of_z}
use mir.Syntax.{w64}
use Rattle.panel_side.proofs.Narrow.{Narrow2, narrow2}
use Rattle.panel_crossing.proofs.stat_v2_in.Goals.{Start}
use Rattle.panel_crossing.proofs.stat_v2_in.Goals as goal

known : (c : Start) → Narrow2 c.args.numbers.now
known c = narrow2 c.args.numbers.now c.requires

pub narrow-requires : goal.narrow-requires
narrow-requires c = let k = known (goal.at.narrow-requires c).Start in (omega arith, k.error)

pub wide-requires : goal.wide-requires
wide-requires c = let k = known (goal.at.wide-requires c).Start in omega arith

pub wide-requires-2 : goal.wide-requires-2
wide-requires-2 c = let k = known (goal.at.wide-requires-2 c).Start in omega arith

pub narrow-requires-2 : goal.narrow-requires-2
narrow-requires-2 c = let k = known (goal.at.narrow-requires-2 c).Start in (omega arith, k.mode)

pub narrow-requires-3 : goal.narrow-requires-3
narrow-requires-3 c = let k = known (goal.at.narrow-requires-3 c).Start in (omega arith, k.nlink)

pub narrow-requires-4 : goal.narrow-requires-4
narrow-requires-4 c = let k = known (goal.at.narrow-requires-4 c).Start in (omega arith, k.uid)

pub narrow-requires-5 : goal.narrow-requires-5
narrow-requires-5 c = let k = known (goal.at.narrow-requires-5 c).Start in (omega arith, k.gid)

pub wide-requires-3 : goal.wide-requires-3
wide-requires-3 c = let k = known (goal.at.wide-requires-3 c).Start in omega arith

pub time-requires : goal.time-requires
time-requires c = let k = known (goal.at.time-requires c).Start in omega arith

pub time-requires-2 : goal.time-requires-2
time-requires-2 c = let k = known (goal.at.time-requires-2 c).Start in omega arith

pub time-requires-3 : goal.time-requires-3
time-requires-3 c = let k = known (goal.at.time-requires-3 c).Start in omega arith

pub returns : goal.returns
returns c =
    rw (
      c.narrow.ensures,
      c.wide.ensures,
      c.wide-2.ensures,
      c.narrow-2.ensures,
      c.narrow-3.ensures,
      c.narrow-4.ensures,
      c.narrow-5.ensures,
      c.wide-3.ensures,
      to_z-of_z {w = w64} (sfits_of c.time.type_inv) ∙ c.time.ensures,
      to_z-of_z {w = w64} (sfits_of c.time-2.type_inv) ∙ c.time-2.ensures,
      to_z-of_z {w = w64} (sfits_of c.time-3.type_inv) ∙ c.time-3.ensures,
    )
