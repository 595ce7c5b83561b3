-- The facts of `specs/Losses.antt` hold. Assumes nothing.
use mathlib.Core.Path.{refl}
use Rattle.protocol.specs.Bytes.{number_at}
use Rattle.protocol.specs.Calls.{messages, cut}
use Rattle.protocol.specs.Refusal.{refusal, request_refusal, path_refusal, flag_refusal, feature_refusal, transfer_refusal}
use Rattle.protocol.specs.Digits.{digits}
use Rattle.protocol.specs.Fact.{Hold}
use Rattle.protocol.specs.Flags.{refused_flags, several, unknown, dry_run}
use Rattle.protocol.specs.Losses.{losses, lists, goes_on}
use Rattle.protocol.specs.Messages.{bytes_of_request, message_of}
use Rattle.protocol.specs.Reader.{plain, drain, written, write_broke, writes, plain_answers, plain_writes}

pub losses-hold : Hold losses
unfolding plain drain written write_broke refusal request_refusal path_refusal flag_refusal feature_refusal transfer_refusal refused_flags several unknown dry_run number_at
losses-hold = refl

pub lists-hold : Hold lists × Hold goes_on
unfolding plain_answers plain_writes writes messages cut bytes_of_request message_of digits plain drain written refusal request_refusal path_refusal flag_refusal feature_refusal transfer_refusal refused_flags several unknown dry_run number_at
lists-hold = (refl, refl)
