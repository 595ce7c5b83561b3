-- What a check of a path says. Assumes nothing.
use mathlib.Core.Bool.{not}
use mathlib.Core.Path.{◌≡◌, refl}
use Rattle.std.specs.Prelude.{Result, Ok, Err, is_ok, is_err}
use Rattle.protocol.specs.Refusal.{is_none}
use Rattle.request_path.specs.declared.PathRefusal.{PathRefusal}
use Rattle.request_path.specs.Meaning.{refused_by}

-- a good path has no refusal
pub none-by : (r : Result Unit PathRefusal) → is_ok r ≡ is_none (refused_by r)
none-by (Ok x) = refl
none-by (Err e) = refl

pub err-by : (r : Result Unit PathRefusal) → is_err r ≡ not (is_none (refused_by r))
err-by (Ok x) = refl
err-by (Err e) = refl
