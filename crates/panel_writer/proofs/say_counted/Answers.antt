-- `panel_writer::say_counted` meets its contract.
use mathlib.Core.Path.{refl}
use native.Mathlib.Omega.{arith}
use Rattle.protocol.specs.Messages.{word}
use Rattle.panel_writer.proofs.Laws.{room, no_room, counted-said}
use Rattle.panel_writer.proofs.say_counted.Goals as goal

pub returns-then-not-has_room : goal.returns-then-not-has_room
returns-then-not-has_room c =
    let a = c.args in
    no_room 8 a.x.now a.out.now c.has_room.ensures (word a.id) refl c.if-not-has_room.true

pub put_counted-requires : goal.put_counted-requires
put_counted-requires c =
    let a = c.args in
    let r = room 8 a.x.now a.out.now c.has_room.ensures c.if-not-has_room.false in
    (r.0, omega arith)

pub returns : goal.returns
returns c =
    let a = c.args in
    counted-said 8 a.x.now a.out.now c.has_room.ensures (word a.id) refl 4 refl c.if-not-has_room.false c.put_u32.ensures c.put_counted.ensures
