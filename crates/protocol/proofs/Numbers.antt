-- The facts of `specs/Numbers.antt` hold. Assumes nothing.
use mathlib.Core.Path.{refl}
use Rattle.protocol.specs.Fact.{Hold}
use Rattle.protocol.specs.Flags.{refused_flags, several, unknown, dry_run}
use Rattle.protocol.specs.Numbers.{told, words}

pub told-holds : Hold told
told-holds = refl

pub words-hold : Hold words
unfolding refused_flags several unknown dry_run
words-hold = refl
