-- `record_load::phase` meets its contract: in each arm the phase is the one in the place of its key.
use native.Mathlib.Omega.{arith}
use Rattle.record.specs.Record.{word_of}
use Rattle.record_load.proofs.Arms.{arm, past}
use Rattle.record_load.proofs.phase.Goals as goal

pub returns-in-13 : goal.returns-in-13
returns-in-13 c = arm (word_of c.args.rec.now) c.requires.0 c.in-13.is

pub returns-in-14 : goal.returns-in-14
returns-in-14 c = arm (word_of c.args.rec.now) c.requires.0 c.in-14.is

pub returns-in-15 : goal.returns-in-15
returns-in-15 c = arm (word_of c.args.rec.now) c.requires.0 c.in-15.is

pub returns-in-16 : goal.returns-in-16
returns-in-16 c = arm (word_of c.args.rec.now) c.requires.0 c.in-16.is

pub returns-in-17 : goal.returns-in-17
returns-in-17 c = arm (word_of c.args.rec.now) c.requires.0 c.in-17.is

pub returns-in-18 : goal.returns-in-18
returns-in-18 c = arm (word_of c.args.rec.now) c.requires.0 c.in-18.is

pub returns-in-19 : goal.returns-in-19
returns-in-19 c = arm (word_of c.args.rec.now) c.requires.0 c.in-19.is

pub returns-in-20 : goal.returns-in-20
returns-in-20 c = arm (word_of c.args.rec.now) c.requires.0 c.in-20.is

pub returns-in-21 : goal.returns-in-21
returns-in-21 c = arm (word_of c.args.rec.now) c.requires.0 c.in-21.is

pub returns-in-22 : goal.returns-in-22
returns-in-22 c = arm (word_of c.args.rec.now) c.requires.0 c.in-22.is

pub returns-in-23 : goal.returns-in-23
returns-in-23 c = arm (word_of c.args.rec.now) c.requires.0 c.in-23.is

pub returns-in-24 : goal.returns-in-24
returns-in-24 c = arm (word_of c.args.rec.now) c.requires.0 c.in-24.is

pub returns-in-25 : goal.returns-in-25
returns-in-25 c = arm (word_of c.args.rec.now) c.requires.0 c.in-25.is

pub returns-in-26 : goal.returns-in-26
returns-in-26 c = rw c.dent_v1.ensures (arm (word_of c.args.rec.now) c.requires.0 c.in-26.is)

pub returns-in-27 : goal.returns-in-27
returns-in-27 c = rw c.dent_v2.ensures (arm (word_of c.args.rec.now) c.requires.0 c.in-27.is)

pub returns-in-28 : goal.returns-in-28
returns-in-28 c = rw c.half.ensures (arm (word_of c.args.rec.now) c.requires.0 c.in-28.is)

pub returns-in-29 : goal.returns-in-29
returns-in-29 c = rw c.half-in-29.ensures (arm (word_of c.args.rec.now) c.requires.0 c.in-29.is)

-- none of 13 to 29
pub returns-in_default : goal.returns-in_default
returns-in_default c =
    let s = c.args.state in
    let h = (past s (Unit {0}) 13 17 c.in_default.in_default-own.rest).1 (omega arith) in
    rw (c.place.ensures, c.place-in_default.ensures) (arm (word_of c.args.rec.now) {k = 30} c.requires.0 (omega arith))
