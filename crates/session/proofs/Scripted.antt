-- The facts of `specs/Scripted.antt` hold. Assumes nothing.
use mathlib.Core.Path.{refl}
use Rattle.protocol.specs.Bytes.{over}
use Rattle.protocol.specs.Calls.{messages}
use Rattle.protocol.specs.Fact.{Hold}
use Rattle.session.specs.Host.{run, log_of}
use Rattle.session.specs.Scripted.{logs}

pub logs-hold : Hold logs
unfolding log_of run messages over
logs-hold = refl
