-- The facts of `specs/Received.antt` hold. Assumes nothing.
use mathlib.Core.Option.{or_else}
use mathlib.Core.Path.{refl}
use Rattle.protocol.specs.Bytes.{number_at}
use Rattle.protocol.specs.Decimal.{canonical}
use Rattle.protocol.specs.Digits.{digits}
use Rattle.protocol.specs.Fact.{Hold}
use Rattle.protocol.specs.Flags.{refused_flags, several, unknown, dry_run}
use Rattle.protocol.specs.Ids.{named}
use Rattle.protocol.specs.Modes.{octal_in, mode_in}
use Rattle.protocol.specs.Received.{receiving, decimals, modes, octals, spelt, found}
use Rattle.protocol.specs.Requests.{arg_ok, following, bad_path, body_of, read_request}

pub receiving-holds : Hold receiving
unfolding read_request named arg_ok following body_of bad_path mode_in octal_in or_else canonical refused_flags several unknown dry_run number_at
receiving-holds = refl

pub decimals-hold : Hold decimals
unfolding canonical
decimals-hold = refl

pub modes-hold : Hold modes × Hold octals
unfolding read_request named arg_ok following body_of bad_path mode_in octal_in or_else canonical number_at digits
modes-hold = (refl, refl)

pub ids-hold : Hold spelt × Hold found
unfolding named
ids-hold = (refl, refl)
