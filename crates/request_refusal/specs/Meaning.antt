-- What a check of a request answers, and the setting that a request is checked in: the public documents' dialect, a session not ended.
-- Assumes nothing.
use Rattle.std.specs.Prelude.{false, Result, Ok, Err}
use Rattle.std.proofs.Math.Option.{Option, none, some}
use Rattle.features.specs.Meaning.{listed, feature_number}
use Rattle.features.specs.declared.Features.{Features}
use Rattle.protocol.specs.Answers.{Answer, refused, missing}
use Rattle.protocol.specs.Refusal.{Setting}
use Rattle.protocol.specs.Ids.{published}
use Rattle.request_path.specs.Meaning.{number_of}
use Rattle.request_refusal.specs.declared.Refusal.{Refusal}
use Rattle.request_refusal.specs.declared.Refusal.TheVariants.{Path, Flags, Missing}

abbrev pub told_as : Refusal → Answer
told_as (Path e) = refused (number_of e)
told_as Flags = refused 9
told_as (Missing feature) = missing (feature_number feature)

abbrev pub checked : Result Unit Refusal → Option Answer
checked (Ok x) = none
checked (Err e) = some (told_as e)

abbrev pub setting : Features → Setting
setting f = record { dialect = published; features = listed f; ended = false }
