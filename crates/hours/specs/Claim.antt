-- What is claimed of hours files, and of hours in the settings that are lent (document 02, [10]).
-- Assumes nothing.
use Rattle.std.specs.Prelude.{ℕ, ◌≤◌, ◌<◌, true, List, ◌∷◌, ◌++◌, ◌≡◌, length, take, drop}
use Rattle.std.proofs.Math.Option.{Option, none, some}
use Rattle.protocol.specs.Bytes.{Bytes, pick, over}
use Rattle.protocol.specs.Hours.{Span, Hours, LegalHours, Kept, day_at, weekday, minute_at, within, lets}
use Rattle.protocol.specs.Ids.{Table, Legal}
use Rattle.protocol.specs.Refusal.{closed_hours}
use Rattle.ids.specs.Ids.{ids_of}
use Rattle.id_table.specs.Settings.{settings_size, misplaced, settings_of, loaded, lent_in}
use Rattle.id_table.specs.Lent as L
use Rattle.hours.specs.File.{hours_in, hours_file}
use Rattle.hours.specs.Slots.{hours_bytes}
use Rattle.hours.specs.Settings.{hours_place, hours_end, bad_hours, hours_bytes_in, settings_with, is_hours, loaded_hours, cross_may_push}

-- a span in which the moment falls: that of its weekday, "open included and close excluded"
pub record Falls (h : Hours) (t : ℕ) : Type 0 where
  pub before : Hours
  pub span : Span
  pub behind : Hours
  pub stands : h ≡ before ++ span ∷ behind
  pub today : span.day ≡ weekday (day_at t)
  pub from : span.opens ≤ minute_at t
  pub until : minute_at t < span.closes

pub record HoursFiles : Type 0 where
  -- every legal hours' file loads, and no other file does
  pub loads : (h : Hours) → LegalHours h → hours_in (hours_file h) ≡ some h
  pub only : (file : List ℕ) (h : Hours) → hours_in file ≡ some h → (hours_file h ≡ file) × LegalHours h
  -- "up to seven lines"
  pub seven : (h : Hours) → LegalHours h → length h ≤ 7
  -- which moments are within, and no others
  pub lets_in_lem : (h : Hours) (t : ℕ) → within h t ≡ true → Falls h t
  pub falls_in : (h : Hours) (t : ℕ) → Falls h t → within h t ≡ true
  -- every legal hours' file is taken, whatever stands in the settings; a refused one is answered with 24
  pub takes : (settings : List ℕ) → length settings ≡ settings_size → (h : Hours) → LegalHours h
      → loaded_hours settings (hours_file h) ≡ (over settings hours_place (hours_bytes (some h)), 0)
  pub answers : (settings : List ℕ) → length settings ≡ settings_size → (file : List ℕ) → hours_in file ≡ none
      → loaded_hours settings file ≡ (settings, bad_hours)
  pub misplaces : (settings file : List ℕ) → (length settings ≡ settings_size → ⊥) → loaded_hours settings file ≡ (settings, misplaced)
  -- after 0 the settings have the file's hours
  pub keeps : (settings file : List ℕ) → (loaded_hours settings file).1 ≡ 0
      → (h : Hours) × (hours_in file ≡ some h) × (hours_bytes_in (loaded_hours settings file).0 ≡ hours_bytes (some h))
  -- after any other answer they are as they were: "the old hours kept"
  pub stays : (settings file : List ℕ) → ((loaded_hours settings file).1 ≡ 0 → ⊥) → (loaded_hours settings file).0 ≡ settings
  -- what stands before and behind the hours stays
  pub room : (settings file : List ℕ)
      → (take hours_place (loaded_hours settings file).0 ≡ take hours_place settings) × (drop hours_end (loaded_hours settings file).0 ≡ drop hours_end settings)
  pub same_length : (settings file : List ℕ) → length (loaded_hours settings file).0 ≡ length settings
  -- so hours and ids are loaded each beside the other
  pub ids_stay : (settings file : List ℕ) → lent_in (loaded_hours settings file).0 ≡ lent_in settings
  pub hours_stay : (settings file : List ℕ) → hours_bytes_in (loaded settings file).0 ≡ hours_bytes_in settings
  -- the bytes of legal hours, or of none, can be lent, and no others
  pub lent : (h : Option Hours) → Kept h → is_hours (hours_bytes h) ≡ true
  pub lends : (b : List ℕ) → Bytes b → is_hours b ≡ true → (h : Option Hours) × Kept h × (b ≡ hours_bytes h)
  -- settings with a table and hours have them
  pub with_length_lem : (t : Table) → Legal t → (h : Option Hours) → length (settings_with t h) ≡ settings_size
  pub carried : (t : Table) → Legal t → (h : Option Hours) → hours_bytes_in (settings_with t h) ≡ hours_bytes h
  pub with_table : (t : Table) → Legal t → (h : Option Hours) → lent_in (settings_with t h) ≡ L.Ids (ids_of t)
  pub without : (t : Table) → settings_with t none ≡ settings_of t
  -- whether a push may start is by the hours that were lent, or loaded
  pub starts : (t : Table) → Legal t → (h : Option Hours) → Kept h → (moment : ℕ) → cross_may_push (settings_with t h) moment ≡ pick (lets h moment) 0 closed_hours
  pub starts_loaded : (settings : List ℕ) → length settings ≡ settings_size → (h : Hours) → LegalHours h → (moment : ℕ)
      → cross_may_push (loaded_hours settings (hours_file h)).0 moment ≡ pick (within h moment) 0 closed_hours
