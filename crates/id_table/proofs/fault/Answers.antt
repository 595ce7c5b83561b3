-- `id_table::fault` meets its contract.
use mathlib.Core.List.{map}
use mathlib.Core.Path.{◌≡◌, sym, ap, ◌∙◌}
use lib.ListN.{length, take}
use Rattle.std.proofs.lemmas.List.{length-map}
use Rattle.id_table.specs.IdsFile.{count}
use Rattle.id_table.specs.Places.{fault_of}
use Rattle.id_table.proofs.Form.{checked-bad, checked-equal, checked-good}
use Rattle.id_table.proofs.fault.Goals as goal

pub returns-then-not-are_values : goal.returns-then-not-are_values
returns-then-not-are_values g c =
    sym (ap fault_of (checked-bad (map (take 4) c.args.ids.now) (sym c.are_values.ensures ∙ c.if-not-are_values.true)))

pub returns-then-two_equal : goal.returns-then-two_equal
returns-then-two_equal g c =
    let good = sym c.are_values.ensures ∙ c.if-not-are_values.false in
    let fifteen : length (map (take 4) c.args.ids.now) ≡ count = length-map c.args.ids.now (take 4) ∙ c.requires.1 in
    sym (ap fault_of (checked-equal (map (take 4) c.args.ids.now) fifteen good (sym c.two_equal.ensures ∙ c.if-two_equal.true)))

pub returns : goal.returns
returns g c =
    let good = sym c.are_values.ensures ∙ c.if-not-are_values.false in
    let fifteen : length (map (take 4) c.args.ids.now) ≡ count = length-map c.args.ids.now (take 4) ∙ c.requires.1 in
    sym (ap fault_of (checked-good (map (take 4) c.args.ids.now) fifteen good (sym c.two_equal.ensures ∙ c.if-two_equal.false)))
