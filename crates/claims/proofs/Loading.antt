-- Settings that files were loaded into open as the table and the hours of these, whatever else stands in them. Assumes nothing.
use Prim.Native.Nat.{ℕ}
use mathlib.Core.List.{List}
use mathlib.Core.Option.{Option, some}
use mathlib.Core.Path.{◌≡◌, sym, ◌∙◌}
use Rattle.protocol.specs.Hours.{Hours, Kept}
use Rattle.protocol.specs.Ids.{Table, Legal}
use Rattle.hours.specs.File.{hours_in}
use Rattle.hours.specs.Settings.{hours_bytes_in, settings_with, loaded_hours}
use Rattle.hours.specs.Slots.{hours_bytes}
use Rattle.hours.proofs.Laws.{hours-files}
use Rattle.id_table.specs.IdsFile.{ids, ids_in}
use Rattle.id_table.specs.Settings.{table_from, lent_in}
use Rattle.id_table.specs.Lent as L
use Rattle.id_table.proofs.Laws.{id-tables}
use Rattle.ids.specs.Ids.{ids_of}
use Rattle.boundary.specs.Crossing.{cross_ids, cross_open}
use Rattle.totals.specs.Crossing.{total_open}
use Rattle.hours_totals.specs.Crossing.{timed_open}

-- opening knows the table and the hours of its settings, and nothing else of them
same-opening : (rec s s' banner : List ℕ) (rx msg : ℕ) → lent_in s ≡ lent_in s' → hours_bytes_in s ≡ hours_bytes_in s' → timed_open rec s banner rx msg ≡ timed_open rec s' banner rx msg
unfolding timed_open total_open cross_open
same-opening rec s s' banner rx msg e f = rw (e, f)

-- settings with that table and those hours
as_lent : (s : List ℕ) (t : Table) → Legal t → (h : Option Hours) → lent_in s ≡ L.Ids (ids_of t) → hours_bytes_in s ≡ hours_bytes h
    → (rec banner : List ℕ) (rx msg : ℕ) → timed_open rec s banner rx msg ≡ timed_open rec (settings_with t h) banner rx msg
as_lent s t l h e f rec banner rx msg = same-opening rec s (settings_with t h) banner rx msg (e ∙ sym (hours-files.with_table t l h)) (f ∙ sym (hours-files.carried t l h))

-- a file of ids, into settings that have hours, or none
pub loaded-opens : (settings file : List ℕ) → (cross_ids settings file).1 ≡ 0 → (h : Option Hours) → Kept h → hours_bytes_in settings ≡ hours_bytes h
    → (values : List (List ℕ)) × (ids_in file ≡ ids values)
    × ((rec banner : List ℕ) (rx msg : ℕ) → timed_open rec (cross_ids settings file).0 banner rx msg ≡ timed_open rec (settings_with (table_from values) h) banner rx msg)
loaded-opens settings file z h k f =
    let i = id-tables.keeps settings file z in
    let l = (id-tables.only file i.0 i.1).legal in
    (i.0, i.1, as_lent _ (table_from i.0) l h i.2 (hours-files.hours_stay settings file ∙ f))

-- a file of hours, into settings that have a table
pub hours-loaded_open : (settings file : List ℕ) → (loaded_hours settings file).1 ≡ 0 → (t : Table) → Legal t → lent_in settings ≡ L.Ids (ids_of t)
    → (h : Hours) × (hours_in file ≡ some h)
    × ((rec banner : List ℕ) (rx msg : ℕ) → timed_open rec (loaded_hours settings file).0 banner rx msg ≡ timed_open rec (settings_with t (some h)) banner rx msg)
hours-loaded_open settings file z t l e =
    let i = hours-files.keeps settings file z in
    (i.0, i.1, as_lent _ t l (some i.0) (hours-files.ids_stay settings file ∙ e) i.2)
