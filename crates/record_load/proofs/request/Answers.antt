-- `record_load::request` meets its contract: in each arm the request is the one in the place of its key.
use native.Mathlib.Omega.{arith}
use Rattle.record.specs.Record.{word_of}
use Rattle.record_load.proofs.Arms.{arm, past}
use Rattle.record_load.proofs.request.Goals as goal

pub returns-in-1 : goal.returns-in-1
returns-in-1 c = arm (word_of c.args.rec.now) c.requires.0 c.in-1.is

pub returns-in-2 : goal.returns-in-2
returns-in-2 c = arm (word_of c.args.rec.now) c.requires.0 c.in-2.is

pub returns-in-3 : goal.returns-in-3
returns-in-3 c = arm (word_of c.args.rec.now) c.requires.0 c.in-3.is

pub returns-in-4 : goal.returns-in-4
returns-in-4 c = arm (word_of c.args.rec.now) c.requires.0 c.in-4.is

pub returns-in-5 : goal.returns-in-5
returns-in-5 c = arm (word_of c.args.rec.now) c.requires.0 c.in-5.is

pub returns-in-6 : goal.returns-in-6
returns-in-6 c = rw c.half.ensures (arm (word_of c.args.rec.now) c.requires.0 c.in-6.is)

pub returns-in-7 : goal.returns-in-7
returns-in-7 c = rw c.half-in-7.ensures (arm (word_of c.args.rec.now) c.requires.0 c.in-7.is)

pub returns-in-8 : goal.returns-in-8
returns-in-8 c = rw (c.half-in-8.ensures, c.half-in-8-2.ensures) (arm (word_of c.args.rec.now) c.requires.0 c.in-8.is)

pub returns-in-9 : goal.returns-in-9
returns-in-9 c = arm (word_of c.args.rec.now) c.requires.0 c.in-9.is

pub returns-in-10 : goal.returns-in-10
returns-in-10 c = rw c.half-in-10.ensures (arm (word_of c.args.rec.now) c.requires.0 c.in-10.is)

-- none of 1 to 10
pub returns-in_default : goal.returns-in_default
returns-in_default c =
    let s = c.args.state in
    let h = (past s (Unit {0}) 1 10 c.in_default.in_default-own.rest).1 (omega arith) in
    arm (word_of c.args.rec.now) {k = 11} c.requires.0 (omega arith)
