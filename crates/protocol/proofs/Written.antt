-- The facts of `specs/Written.antt` hold. Assumes nothing.
use mathlib.Core.Path.{refl}
use Rattle.protocol.specs.Calls.{messages, cut}
use Rattle.protocol.specs.Refusal.{refusal, request_refusal, path_refusal, flag_refusal, feature_refusal, transfer_refusal}
use Rattle.protocol.specs.Digits.{digits}
use Rattle.protocol.specs.Fact.{Hold}
use Rattle.protocol.specs.Flags.{refused_flags, several, unknown, dry_run}
use Rattle.protocol.specs.Messages.{bytes_of_request, message_of, apart, pieces}
use Rattle.protocol.specs.Reader.{writes}
use Rattle.protocol.specs.Written.{writing, going}

pub writing-holds : Hold writing
unfolding writes messages cut bytes_of_request message_of digits refusal request_refusal path_refusal flag_refusal feature_refusal transfer_refusal refused_flags several unknown dry_run
writing-holds = refl

pub going-holds : Hold going
unfolding pieces apart bytes_of_request message_of digits
going-holds = refl
