-- The facts of `specs/Replies.antt` hold. Assumes nothing.
use mathlib.Core.Path.{refl}
use Rattle.protocol.specs.Bytes.{number_at, signed}
use Rattle.protocol.specs.Refusal.{refusal, request_refusal, path_refusal, flag_refusal, feature_refusal, transfer_refusal}
use Rattle.protocol.specs.Fact.{Hold}
use Rattle.protocol.specs.Flags.{refused_flags, several, unknown, dry_run}
use Rattle.protocol.specs.Reader.{plain, drain, written}
use Rattle.protocol.specs.Records.{stat_at, dent_at, stat2_body, dent2_at}
use Rattle.protocol.specs.Replies.{replies}

pub replies-hold : Hold replies
unfolding plain drain written refusal request_refusal path_refusal flag_refusal feature_refusal transfer_refusal refused_flags several unknown dry_run stat_at dent_at stat2_body dent2_at number_at signed
replies-hold = refl
