-- `id_table::table_in` meets its contract: each number of eight bytes is two ids.
use mathlib.Core.List.{List, map}
use Prim.Native.Nat.{ℕ}
use lib.ListN.{take}
use mathlib.Core.Path.{◌∙◌, ap}
use borrow.Author.Tests.{eq-eqb, ne_eqb}
use Rattle.std.proofs.lemmas.Result.{err_from_is_err_and}
use Rattle.id_table.specs.IdsFile.{count, checked}
use Rattle.id_table.specs.Places.{groups, fault_of}
use Rattle.id_table.specs.Settings.{lent_in}
use Rattle.id_table.proofs.Form.{groups-length}
use Rattle.id_table.proofs.Groups.{settings-groups}
use Rattle.id_table.proofs.Tables.{in_groups, numbers-in, refused_why, taken_ok}
use Rattle.id_table.specs.Lent as L
use Rattle.id_table.proofs.table_in.Goals as goal

pub returns-then-settings-ne-SETTINGS : goal.returns-then-settings-ne-SETTINGS
unfolding lent_in
returns-then-settings-ne-SETTINGS c = rw (ne_eqb _ _ c.if-settings-ne-SETTINGS.true)

pub returns-in_err-fault : goal.returns-in_err-fault
unfolding lent_in
returns-in_err-fault c =
    let s = c.args.settings.now in
    let why = refused_why (groups 4 count s) c.fault.result (c.fault.ensures ∙ ap (λ (vs : List (List ℕ)). fault_of (checked vs)) (ap (λ (ids : List (List ℕ)). map (take 4) (take count ids)) c.as_chunks.ensures.front ∙ settings-groups s c.if-settings-ne-SETTINGS.false)) _ c.in_err-fault.was in
    rw (eq-eqb _ _ c.if-settings-ne-SETTINGS.false, in_groups s, why) (let p = err_from_is_err_and c.from_residual.result c.from_residual.ensures.1 in rw (p.1, p.2))

pub returns : goal.returns
unfolding lent_in
returns c =
    let s = c.args.settings.now in
    let right = taken_ok (groups 4 count s) c.fault.result (c.fault.ensures ∙ ap (λ (vs : List (List ℕ)). fault_of (checked vs)) (ap (λ (ids : List (List ℕ)). map (take 4) (take count ids)) c.as_chunks.ensures.front ∙ settings-groups s c.if-settings-ne-SETTINGS.false)) (groups-length 4 count s) _ c.in_ok-fault.was in
    rw (eq-eqb _ _ c.if-settings-ne-SETTINGS.false, in_groups s, right)
    (rw (
      c.u32_at-quit.ensures,
      c.u64_at.ensures,
      c.u64_at-2.ensures,
      c.u64_at-3.ensures,
      c.u64_at-4.ensures,
      c.u64_at-5.ensures,
      c.u64_at-6.ensures,
      c.u64_at-7.ensures,
    )
    (ap L.Ids (numbers-in s c.if-settings-ne-SETTINGS.false)))
