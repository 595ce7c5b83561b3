-- `record_load::pending` meets its contract.
use Rattle.record.specs.Record.{word_of}
use Rattle.record_load.proofs.Arms.{arm}
use Rattle.record_load.proofs.pending.Goals as goal

pub returns-then-state-eq-IDLE : goal.returns-then-state-eq-IDLE
returns-then-state-eq-IDLE c = arm (word_of c.args.rec.now) c.place-state.ensures c.if-state-eq-IDLE.true

pub returns-then-state-lt-CLOSING : goal.returns-then-state-lt-CLOSING
returns-then-state-lt-CLOSING c = rw (c.place.ensures, c.place-then-state-lt-CLOSING.ensures) c.request.ensures

pub returns-then-state-eq-CLOSING : goal.returns-then-state-eq-CLOSING
returns-then-state-eq-CLOSING c =
    rw (c.half.ensures, c.word-flag.ensures)
    (arm (word_of c.args.rec.now) c.place-state.ensures c.if-state-eq-CLOSING.true)

pub returns : goal.returns
returns c = rw (c.place-2.ensures, c.word-flag.ensures) c.phase.ensures
