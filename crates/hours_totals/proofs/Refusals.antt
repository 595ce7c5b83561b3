-- The facts of `specs/Refusals.antt` hold. Assumes nothing.
use mathlib.Core.Path.{refl, ap}
use Rattle.protocol.specs.Answers.{refused}
use Rattle.protocol.specs.Fact.{Hold}
use Rattle.protocol.specs.Flags.{refused_flags, several, unknown, dry_run}
use Rattle.protocol.specs.Refusal.{path_refusal, flag_refusal, feature_refusal, transfer_refusal, request_refusal, refusal, or_else, refuse, outside, closed_hours}
use Rattle.protocol.specs.Ids.{published}
use Rattle.protocol.proofs.Moments.{or_none}
use Rattle.hours_totals.specs.Refusals.{refusals, AsReader}

pub refusals-hold : Hold refusals
unfolding several unknown dry_run refused_flags path_refusal flag_refusal feature_refusal transfer_refusal request_refusal
refusals-hold = refl

pub as_reader : AsReader
unfolding refusal
as_reader h s t e n a b i q act c fits idle few =
    rw (few, act, c, fits, idle)
    (ap (or_else (refusal (record { dialect = published; features = s.features; ended = s.ended }) q)) (or_none (refuse (outside h (record { call = q; moment = i })) (refused closed_hours))))
