-- `features::Features::offers` meets its contract.
use mathlib.Core.Bool.{false}
use mathlib.Core.List.{◌∷◌}
use mathlib.Core.Path.{ap, ◌∙◌}
use Prim.Native.Nat.{ℕ}
use lib.ListN.{get_or}
use Rattle.features.specs.Meaning.{listed}
use Rattle.features.proofs.Features.offers.Goals as goal

pub returns : goal.returns
returns c = c.has.ensures ∙ ap (λ (n : ℕ). get_or (false ∷ listed c.args.self) n false) c.number.ensures
