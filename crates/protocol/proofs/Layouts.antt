-- The facts of `specs/Layouts.antt` hold. Assumes nothing.
use mathlib.Core.Path.{refl}
use Rattle.protocol.specs.Bytes.{number_at, signed}
use Rattle.protocol.specs.Fact.{Hold}
use Rattle.protocol.specs.Layouts.{read_numbers, written_numbers, signs, entries, entries2}
use Rattle.protocol.specs.Records.{stat_at, dent_at, stat2_body, dent2_at}

pub little_endian : Hold read_numbers × Hold written_numbers × Hold signs
unfolding signed
little_endian = (refl, refl, refl)

pub layouts : Hold entries × Hold entries2
unfolding dent_at stat_at dent2_at stat2_body number_at signed
layouts = (refl, refl)
