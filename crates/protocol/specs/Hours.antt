-- Cutting hours (document 02, [10]): when a push may start. How hours are written in a file is in hours/specs/File.
-- Assumes nothing.
use Rattle.std.specs.Prelude.{ℕ, ◌+◌, ◌/◌, ◌%◌, ◌≤◌, ◌<◌, Bool, true, false, ◌&&◌, ◌||◌, List, [], ◌∷◌, eqb, leb, ltb}
use Rattle.std.proofs.Math.Option.{Option, none, some}

-- a day's span, "open included and close excluded": 0 is Monday, and minutes are counted from midnight
pub record Span : Type 0 where
  pub day : ℕ
  pub opens : ℕ
  pub closes : ℕ

abbrev pub Hours : Type 0
Hours = List Span

-- ---- hours that loading accepts: "day 0 (Monday) to 6, minutes with 0 ≤ open < close ≤ 1440, days rising"

abbrev pub AllSpans : Hours → Type 0
AllSpans [] = Unit {0}
AllSpans (s ∷ h) = ((s.day ≤ 6) × ((s.opens < s.closes) × (s.closes ≤ 1440))) × AllSpans h

abbrev pub Rising : Hours → Type 0
Rising [] = Unit {0}
Rising (s ∷ []) = Unit {0}
Rising (s ∷ t ∷ h) = (s.day < t.day) × Rising (t ∷ h)

pub record LegalHours (h : Hours) : Type 0 where
  pub spans : AllSpans h
  pub rises : Rising h

-- "the hours it opened with, or none"
abbrev pub Kept : Option Hours → Type 0
Kept none = Unit {0}
Kept (some h) = LegalHours h

-- ---- a moment, in Unix seconds, UTC

abbrev pub day_at : ℕ → ℕ
day_at t = t / 86400

-- 0 is Monday; 1970-01-01 was a Thursday
abbrev pub weekday : (day : ℕ) → ℕ
weekday n = (n + 3) % 7

abbrev pub minute_at : ℕ → ℕ
minute_at t = t % 86400 / 60

-- "falls in its day's span"
abbrev pub in_span : Span → ℕ → Bool
in_span s t = eqb s.day (weekday (day_at t)) && (leb s.opens (minute_at t) && ltb (minute_at t) s.closes)

abbrev pub within : Hours → ℕ → Bool
within [] t = false
within (s ∷ h) t = in_span s t || within h t

-- "or none, when every moment will do"
abbrev pub lets : Option Hours → ℕ → Bool
lets none t = true
lets (some h) t = within h t
