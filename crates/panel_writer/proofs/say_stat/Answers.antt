-- `panel_writer::say_stat` meets its contract.
use mathlib.Core.Bool.{true}
use mathlib.Core.List.{◌++◌}
use mathlib.Core.Path.{refl, sym, ◌∙◌}
use native.Mathlib.Omega.{arith}
use borrow.Author.Tests.{lt-leb}
use Rattle.protocol.specs.Messages.{word}
use Rattle.panel_writer.proofs.Laws.{taken_out, taken_in}
use Rattle.panel_writer.proofs.say_stat.Goals as goal

pub returns-then-out-SIZE : goal.returns-then-out-SIZE
returns-then-out-SIZE g c =
    let a = c.args in
    taken_out true (word a.id ++ g.S.Fields.fields a.s) a.out.now (lt-leb _ _ (omega (arith, c.SIZE.ensures, g.met.S.Fields.sized a.id a.s, c.if-out-SIZE.true)))

pub returns : goal.returns
returns g c =
    let a = c.args in
    let e = g.met.S.Fields.sized a.id a.s in
    taken_in true (word a.id ++ g.S.Fields.fields a.s) a.out.now refl (omega (arith, e)) c.put_stat.ensures (c.SIZE-2.ensures ∙ sym e)
