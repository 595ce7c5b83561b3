-- `id_table::load` meets its contract: the file is read by its places as by its lines.
use mathlib.Core.List.{List, map}
use mathlib.Core.Path.{◌≡◌, sym, ap, ◌∙◌}
use mathlib.Core.Bool.{true}
use Prim.Native.Nat.{ℕ}
use native.Mathlib.Omega.{arith}
use borrow.Author.Rules.{rules}
use borrow.Author.Tests.{eq-eqb, ne_eqb}
use Rattle.std.proofs.lemmas.Result.{err_from_is_err_and}
use lib.ListN.{length, take, drop}
use Rattle.id_table.specs.IdsFile.{count, checked}
use Rattle.id_table.specs.Places.{fault_of, groups, line_size, file_size, formed}
use Rattle.id_table.specs.Settings.{loaded}
use Rattle.id_table.proofs.Form.{read-places, formed-size, groups-length}
use Rattle.id_table.proofs.Groups.{line-count, line-groups}
use Rattle.id_table.proofs.Tables.{refused_why, taken_ok}
use Rattle.id_table.proofs.load.Goals.{Else-not-has_form, Start}
use Rattle.id_table.proofs.load.Goals as goal

abbrev values : Start → List (List ℕ)
values c = groups 5 count (drop line_size c.args.file.now)

-- the file has the form
has-form : (c : Else-not-has_form) → formed c.args.file.now ≡ true
has-form c = sym c.has_form.ensures ∙ c.if-not-has_form.false

has-size : (c : Else-not-has_form) → length c.args.file.now ≡ file_size
has-size c = formed-size c.args.file.now (has-form c)

pub returns-then-settings-ne-SETTINGS : goal.returns-then-settings-ne-SETTINGS
unfolding loaded
returns-then-settings-ne-SETTINGS c = rw (ne_eqb _ _ c.if-settings-ne-SETTINGS.true)

pub returns-then-not-has_form : goal.returns-then-not-has_form
unfolding loaded
returns-then-not-has_form c =
    let bad = sym c.has_form.ensures ∙ c.if-not-has_form.true in
    rw (eq-eqb _ _ c.if-settings-ne-SETTINGS.false, read-places c.args.file.now, bad)

pub slice_bounds-as_chunks-count : goal.slice_bounds-as_chunks-count
slice_bounds-as_chunks-count c = omega (arith, has-size (goal.at.slice_bounds-as_chunks-count c).Else-not-has_form)

pub slice_bounds-as_chunks-start : goal.slice_bounds-as_chunks-start
slice_bounds-as_chunks-start c = omega (arith, has-size (goal.at.slice_bounds-as_chunks-start c).Else-not-has_form)

pub fault-requires : goal.fault-requires
fault-requires c = let n = has-size (goal.at.fault-requires c).Else-not-has_form in (omega arith, (omega arith, c.as_chunks.ensures.front_len ∙ line-count c.args.file.now n))

pub returns-in_err-fault : goal.returns-in_err-fault
unfolding loaded
returns-in_err-fault c =
    let bad = refused_why (values (goal.at.returns-in_err-fault c).Start) c.fault.result (c.fault.ensures ∙ ap (λ (vs : List (List ℕ)). fault_of (checked vs)) (ap (map (take 4)) c.as_chunks.ensures.front ∙ line-groups c.args.file.now (has-size (goal.at.returns-in_err-fault c).Else-not-has_form))) _ c.in_err-fault.was in
    rw (eq-eqb _ _ c.if-settings-ne-SETTINGS.false, read-places c.args.file.now, has-form (goal.at.returns-in_err-fault c).Else-not-has_form, bad) (let p = err_from_is_err_and c.from_residual.result c.from_residual.ensures.1 in rw (p.1, p.2))

pub copy_values-requires : goal.copy_values-requires
copy_values-requires c = (search rules, has-size (goal.at.copy_values-requires c).Else-not-has_form)

pub returns : goal.returns
unfolding loaded
returns c =
    let right = taken_ok (values (goal.at.returns c).Start) c.fault.result (c.fault.ensures ∙ ap (λ (vs : List (List ℕ)). fault_of (checked vs)) (ap (map (take 4)) c.as_chunks.ensures.front ∙ line-groups c.args.file.now (has-size (goal.at.returns c).Else-not-has_form))) (groups-length 5 count _) _ c.in_ok-fault.was in
    rw (eq-eqb _ _ c.if-settings-ne-SETTINGS.false, read-places c.args.file.now, has-form (goal.at.returns c).Else-not-has_form, right)
    (ap (λ (l : List ℕ). (l, 0)) c.copy_values.ensures)
