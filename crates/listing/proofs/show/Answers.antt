-- `listing::show` meets its contract.
use mathlib.Core.List.{List}
use mathlib.Core.Path.{ap, ◌∙◌}
use Prim.Native.Nat.{ℕ}
use Rattle.format_record.specs.Told.{told_stat}
use Rattle.listing.specs.Steps.{shown}
use Rattle.listing.proofs.show.Goals as goal

pub returns : goal.returns
returns c =
    let a = c.args in
    c.put_entry.ensures ∙ ap (λ (name : List ℕ). shown a.out.now a.at (told_stat a.stat) name) c.part-name.ensures
