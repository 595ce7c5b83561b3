-- The facts of `specs/Lettered.antt` hold. Assumes nothing.
use mathlib.Core.Option.{or_else}
use mathlib.Core.Path.{refl}
use Rattle.protocol.specs.Bytes.{number_at, signed}
use Rattle.protocol.specs.Calls.{messages, cut}
use Rattle.protocol.specs.Decimal.{canonical}
use Rattle.protocol.specs.Digits.{digits}
use Rattle.protocol.specs.Fact.{Hold}
use Rattle.protocol.specs.Flags.{refused_flags, several, unknown, dry_run}
use Rattle.protocol.specs.Ids.{named}
use Rattle.protocol.specs.Messages.{message_of, bytes_of_request, apart, pieces}
use Rattle.protocol.specs.Modes.{octal_in, mode_in}
use Rattle.protocol.specs.Reader.{plain, drain, written, write_broke, writes, plain_answers, plain_writes}
use Rattle.protocol.specs.Records.{stat_at, dent_at, stat2_body, dent2_at}
use Rattle.protocol.specs.Refusal.{refusal, request_refusal, path_refusal, flag_refusal, feature_refusal, transfer_refusal}
use Rattle.protocol.specs.Requests.{arg_ok, following, bad_path, body_of, read_request}
use Rattle.protocol.specs.Lettered.{written_under, pieces_under, read_under, answered_under, listed_under}

pub written_under-hold : Hold written_under
unfolding bytes_of_request message_of digits
written_under-hold = refl

pub pieces_under-hold : Hold pieces_under
unfolding pieces apart bytes_of_request message_of digits
pieces_under-hold = refl

pub read_under-hold : Hold read_under
unfolding read_request named arg_ok following body_of bad_path mode_in octal_in or_else canonical refused_flags several unknown dry_run number_at
read_under-hold = refl

pub answered_under-hold : Hold answered_under
unfolding plain drain written write_broke refusal request_refusal path_refusal flag_refusal feature_refusal transfer_refusal refused_flags several unknown dry_run stat_at dent_at stat2_body dent2_at number_at signed
answered_under-hold = refl

pub listed_under-hold : Hold listed_under
unfolding plain_answers plain_writes writes messages cut bytes_of_request message_of digits plain drain written refusal request_refusal path_refusal flag_refusal feature_refusal transfer_refusal refused_flags several unknown dry_run stat_at dent_at stat2_body dent2_at number_at signed
listed_under-hold = refl
