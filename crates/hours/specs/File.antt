-- An hours file (document 02, [10]): "the line "day,open,close", then up to seven lines, day 0 (Monday) to 6, minutes with 0 ≤ open < close ≤ 1440,
-- days rising, canonical decimal, lines as in [9]".
-- Assumes nothing.
use Rattle.std.specs.Prelude.{ℕ, Bool, true, ◌&&◌, List, [], ◌∷◌, map, leb, ltb}
use Rattle.std.proofs.Math.Option.{Option, none, some}
use Rattle.protocol.specs.Bytes.{pick, ascii}
use Rattle.protocol.specs.Decimal.{decimal, canonical}
use Rattle.text_lines.specs.Lines.{file_of, lines_of}
use Rattle.id_table.specs.IdsFile.{same_all}
use Rattle.protocol.specs.Hours.{Span, Hours}

-- ---- the file

abbrev pub heading : List (List ℕ)
heading = ascii "day" ∷ ascii "open" ∷ ascii "close" ∷ []

abbrev pub is_span : Span → Bool
is_span s = leb s.day 6 && ltb s.opens s.closes && leb s.closes 1440

abbrev pub checked_span : Span → Option Span
checked_span s = pick (is_span s) (some s) none

abbrev pub numbered : Option ℕ → Option ℕ → Option ℕ → Option Span
numbered none b c = none
numbered (some a) none c = none
numbered (some a) (some b) none = none
numbered (some a) (some b) (some c) = checked_span (record { day = a; opens = b; closes = c })

-- a line: three numbers in canonical decimal
abbrev pub span_in : List (List ℕ) → Option Span
span_in [] = none
span_in (a ∷ []) = none
span_in (a ∷ b ∷ []) = none
span_in (a ∷ b ∷ c ∷ []) = numbered (canonical a) (canonical b) (canonical c)
span_in (a ∷ b ∷ c ∷ d ∷ l) = none

abbrev pub and_span : Option Span → Option Hours → Option Hours
and_span none h = none
and_span (some s) none = none
and_span (some s) (some h) = some (s ∷ h)

abbrev pub spans_in : List (List (List ℕ)) → Option Hours
spans_in [] = some []
spans_in (l ∷ ls) = and_span (span_in l) (spans_in ls)

-- "days rising": each day behind the one before; so there are seven at most
abbrev pub rising : Hours → Bool
rising [] = true
rising (s ∷ []) = true
rising (s ∷ t ∷ h) = ltb s.day t.day && rising (t ∷ h)

abbrev pub in_order : Option Hours → Option Hours
in_order none = none
in_order (some h) = pick (rising h) (some h) none

abbrev pub under_heading : Option (List (List (List ℕ))) → Option Hours
under_heading none = none
under_heading (some []) = none
under_heading (some (first ∷ ls)) = pick (same_all first heading) (in_order (spans_in ls)) none

-- the hours of a file; none: it is refused with 24
unfoldable pub hours_in : List ℕ → Option Hours
hours_in file = under_heading (lines_of file)

-- ---- the file of hours that loading accepts

abbrev pub line_of : Span → List (List ℕ)
line_of s = decimal s.day ∷ decimal s.opens ∷ decimal s.closes ∷ []

abbrev pub hours_file : Hours → List ℕ
hours_file h = file_of (heading ∷ map line_of h)
