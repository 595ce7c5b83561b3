-- `time_index_slots::key` meets its contract.
use mathlib.Core.Path.{sym}
use Rattle.time_index_slots.proofs.Laws.{keyed-low, keyed-high}
use Rattle.time_index_slots.proofs.key.Goals as goal

pub returns-then-x-lt-SIGN : goal.returns-then-x-lt-SIGN
returns-then-x-lt-SIGN c = sym (keyed-low _ c.if-x-lt-SIGN.true)

pub returns : goal.returns
returns c = sym (keyed-high _ c.if-x-lt-SIGN.false)
