-- What is promised of loading and of lent settings. Assumes nothing.
use Rattle.std.specs.Prelude.{ℕ, ◌<◌, true, false, List, [], map, ◌⊎◌, ◌≡◌, length, get_or, drop}
use Rattle.protocol.specs.Bytes.{over}
use Rattle.protocol.specs.Ids.{Id, Table, all, under, is_value, Legal}
use Rattle.protocol.specs.Messages.{joined}
use Rattle.ids.specs.declared.Ids.{Ids}
use Rattle.ids.specs.Ids.{dialect_of, ids_of}
use Rattle.id_table.specs.IdsFile.{count, bad_form, equal_values, ids, refused, are_values, ids_in, file_with, ids_file}
use Rattle.id_table.specs.Places.{file_size}
use Rattle.id_table.specs.Settings.{settings_size, table_size, misplaced, table_from, table_in, settings_of, loaded, lent_in}
use Rattle.id_table.specs.Lent as L

-- a file is that of a table, which has those values
pub record FileOf (file : List ℕ) (values : List (List ℕ)) : Type 0 where
  pub legal : Legal (table_from values)
  pub listed : map (table_from values) all ≡ values
  pub whole : ids_file (table_from values) ≡ file

-- a file has the form, and at two places the same value
pub record TwoEqual (file : List ℕ) (values : List (List ℕ)) : Type 0 where
  pub whole : file_with values ≡ file
  pub fifteen : length values ≡ count
  pub formed : are_values values ≡ true
  pub first : ℕ
  pub second : ℕ
  pub before : first < second
  pub within : second < count
  pub equal : get_or values first [] ≡ get_or values second []

-- lent settings have a table, and it is what is kept
pub record LentTable (settings : List ℕ) (kept : Ids) : Type 0 where
  pub size : length settings ≡ settings_size
  pub legal : Legal (table_in settings)
  pub table : kept ≡ ids_of (table_in settings)
  pub dialect : dialect_of kept ≡ under (table_in settings)

pub record IdTables : Type 0 where
  -- every such table loads, from a file of 150 bytes
  pub loads : (t : Table) → Legal t → ids_in (ids_file t) ≡ ids (map t all)
  pub size : (t : Table) → Legal t → length (ids_file t) ≡ file_size
  -- whatever loads is the file of such a table
  pub only : (file : List ℕ) (values : List (List ℕ)) → ids_in file ≡ ids values → FileOf file values
  -- 23 is only for a file whose form is right
  pub equals : (file : List ℕ) → ids_in file ≡ refused equal_values → (values : List (List ℕ)) × TwoEqual file values
  -- ... and for every such file; there is no third refusal
  pub doubles : (file : List ℕ) (values : List (List ℕ)) → TwoEqual file values → ids_in file ≡ refused equal_values
  pub numbers : (file : List ℕ) (n : ℕ) → ids_in file ≡ refused n → (n ≡ bad_form) ⊎ (n ≡ equal_values)
  -- every such table's file is taken, whatever stands in the settings; a refused one is answered by its number
  pub takes : (settings : List ℕ) → length settings ≡ settings_size → (t : Table) → Legal t
      → loaded settings (ids_file t) ≡ (over settings 0 (joined (map t all)), 0)
  pub answers : (settings : List ℕ) → length settings ≡ settings_size → (file : List ℕ) (n : ℕ) → ids_in file ≡ refused n
      → loaded settings file ≡ (settings, n)
  pub misplaces : (settings file : List ℕ) → (length settings ≡ settings_size → ⊥) → loaded settings file ≡ (settings, misplaced)
  -- after 0 the settings have the file's table
  pub keeps : (settings file : List ℕ) → (loaded settings file).1 ≡ 0
      → (values : List (List ℕ)) × (ids_in file ≡ ids values) × (lent_in (loaded settings file).0 ≡ L.Ids (ids_of (table_from values)))
  -- after any other answer they are as they were; what stands behind the table stays
  pub stays : (settings file : List ℕ) → ((loaded settings file).1 ≡ 0 → ⊥) → (loaded settings file).0 ≡ settings
  pub room : (settings file : List ℕ) → drop table_size (loaded settings file).0 ≡ drop table_size settings
  pub same_length : (settings file : List ℕ) → length (loaded settings file).0 ≡ length settings
  -- every such table can be lent, and no other
  pub opens : (t : Table) → Legal t → lent_in (settings_of t) ≡ L.Ids (ids_of t)
  pub lends : (settings : List ℕ) (kept : Ids) → lent_in settings ≡ L.Ids kept → LentTable settings kept
  -- ... whatever stands behind it
  pub lent_legal : (settings : List ℕ) → length settings ≡ settings_size → Legal (table_in settings) → lent_in settings ≡ L.Ids (ids_of (table_in settings))
  -- why others cannot: their length, then the form of a value, then two equal ones
  pub lent_length : (settings : List ℕ) → (length settings ≡ settings_size → ⊥) → lent_in settings ≡ L.Refused misplaced
  pub lent_form : (settings : List ℕ) → length settings ≡ settings_size → (i : Id) → is_value (table_in settings i) ≡ false
      → lent_in settings ≡ L.Refused bad_form
  pub lent_equal : (settings : List ℕ) → length settings ≡ settings_size → ((i : Id) → is_value (table_in settings i) ≡ true)
      → (i j : Id) → (i ≡ j → ⊥) → table_in settings i ≡ table_in settings j → lent_in settings ≡ L.Refused equal_values
  -- what is kept of it is the table itself
  pub dialect : (t : Table) → Legal t → dialect_of (ids_of t) ≡ under t
