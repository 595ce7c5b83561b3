-- `panel_crossing::say_reply` meets its contract.
use Rattle.panel_writer.specs.Meaning.{meant}
use Rattle.panel_crossing.proofs.Laws.{said-nothing, said_all}
use Rattle.panel_crossing.proofs.say_reply.Goals as goal

pub returns-in_default : goal.returns-in_default
returns-in_default c =
    let a = c.args in
    said-nothing a.ids (meant a.reply a.lent.now) a.out.now a.told.now c.speak.ensures c.in_default.is

pub returns : goal.returns
returns c =
    let a = c.args in
    said_all a.ids (meant a.reply a.lent.now) a.out.now a.told.now c.speak.ensures c.in-Some.is c.put_u64.ensures
