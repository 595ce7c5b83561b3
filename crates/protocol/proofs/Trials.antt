-- The columns of `specs/Trials.antt`'s table are equal. Assumes nothing.
use mathlib.Core.List.{map}
use mathlib.Core.Path.{◌≡◌, refl}
use Rattle.protocol.specs.Bytes.{number_at}
use Rattle.protocol.specs.Refusal.{refusal, request_refusal, path_refusal}
use Rattle.protocol.specs.Digits.{digits}
use Rattle.protocol.specs.Features.{has_feature, rest_after, split}
use Rattle.protocol.specs.Flags.{refused_flags, several, unknown, dry_run}
use Rattle.protocol.specs.Messages.{bytes_of_request, message_of}
use Rattle.protocol.specs.Reader.{plain, drain, written, plain_answers}
use Rattle.protocol.specs.Records.{stat_at}
use Rattle.protocol.specs.Trials.{Trial, trials}

pub trials-hold : map (λ (t : Trial). t.computed) trials ≡ map (λ (t : Trial). t.paper) trials
unfolding digits has_feature rest_after split refused_flags several unknown dry_run bytes_of_request message_of plain drain written plain_answers refusal request_refusal path_refusal stat_at number_at
trials-hold = refl
