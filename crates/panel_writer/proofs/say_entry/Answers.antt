-- `panel_writer::say_entry` meets its contract.
use mathlib.Core.List.{◌++◌}
use mathlib.Core.Path.{sym, ◌∙◌}
use Prim.Native.Nat.{◌+◌}
use native.Mathlib.Omega.{arith}
use Rattle.protocol.specs.Messages.{word}
use Rattle.panel_writer.proofs.Laws.{room, no_room, counted-said}
use Rattle.panel_writer.proofs.say_entry.Goals as goal

pub overflow_add-fixed : goal.overflow_add-fixed
overflow_add-fixed g c = omega (arith, c.SIZE-fixed.ensures, g.met.S.Fields.small)

pub returns-then-not-has_room : goal.returns-then-not-has_room
returns-then-not-has_room g c =
    let a = c.args in
    no_room (c.SIZE-fixed.result + 4) a.name.now a.out.now c.has_room.ensures (word a.id ++ g.S.Fields.fields a.s) (omega (arith, c.SIZE-fixed.ensures, g.met.S.Fields.sized a.id a.s)) c.if-not-has_room.true

pub put_stat-requires : goal.put_stat-requires
put_stat-requires g c =
    let a = c.args in
    omega (arith, c.SIZE-fixed.ensures, (room (c.SIZE-fixed.result + 4) a.name.now a.out.now c.has_room.ensures c.if-not-has_room.false).1)

pub put_counted-requires : goal.put_counted-requires
put_counted-requires g c =
    let a = c.args in
    let r = room (c.SIZE-fixed.result + 4) a.name.now a.out.now c.has_room.ensures c.if-not-has_room.false in
    (r.0, omega (arith, c.SIZE.ensures, c.SIZE-fixed.ensures))

pub returns : goal.returns
returns g c =
    let a = c.args in
    let e = g.met.S.Fields.sized a.id a.s in
    counted-said (c.SIZE-fixed.result + 4) a.name.now a.out.now c.has_room.ensures (word a.id ++ g.S.Fields.fields a.s) (omega (arith, c.SIZE-fixed.ensures, e)) c.SIZE.result (e ∙ sym c.SIZE.ensures)
    c.if-not-has_room.false c.put_stat.ensures c.put_counted.ensures
