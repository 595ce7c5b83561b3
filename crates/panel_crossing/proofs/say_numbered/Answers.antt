-- `panel_crossing::say_numbered` meets its contract: a kind that is none.
use mathlib.Core.Path.{sym, ap, ◌∙◌}
use Rattle.std.specs.Prelude.{Option}
use Rattle.ids.specs.Ids.{dialect_of}
use Rattle.panel_side.specs.Crossing.{saying, if_given}
use Rattle.panel_writer.specs.declared.Reply.{Reply}
use Rattle.panel_crossing.specs.Given.{given}
use Rattle.panel_crossing.proofs.say_numbered.Goals as goal

pub returns-in-None : goal.returns-in-None
returns-in-None c =
    let a = c.args in
    ap (if_given a.out.now a.told.now (saying (dialect_of a.ids) a.out.now a.told.now)) (ap (λ (x : Option Reply). given x a.lent.now) (sym c.in-None.is) ∙ c.reply_numbered.ensures a.lent.now)
