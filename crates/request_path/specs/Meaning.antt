-- The number of a path's refusal, and what a check of a path means. Assumes nothing.
use Rattle.std.specs.Prelude.{ℕ, Result, Ok, Err}
use Rattle.std.proofs.Math.Option.{Option, none, some}
use Rattle.protocol.specs.Answers.{Answer, refused}
use Rattle.request_path.specs.declared.PathRefusal.{PathRefusal}
use Rattle.request_path.specs.declared.PathRefusal.TheVariants.{Nul, TooLong}

abbrev pub number_of : PathRefusal → ℕ
number_of Nul = 8
number_of TooLong = 7

abbrev pub refused_by : Result Unit PathRefusal → Option Answer
refused_by (Ok x) = none
refused_by (Err e) = some (refused (number_of e))
