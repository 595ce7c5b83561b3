-- A file of hours read from its first byte to its last: each span is put in its day's bytes as its line is read.
-- Assumes nothing.
use Rattle.std.specs.Prelude.{ℕ, suc, Some, None, ◌*◌, List, [], ◌∷◌, ◌++◌, eqb, leb}
use Rattle.std.specs.Prelude as P
use Rattle.std.proofs.Math.Option.{Option, none, some}
use Rattle.protocol.specs.Bytes.{pick, ascii, bytes_of, over}
use Rattle.protocol.specs.Hours.{Span}
use Rattle.text_lines.specs.Lines.{line_end, lines_of}
use Rattle.hours.specs.File.{span_in}
use Rattle.hours.specs.declared.Span as D

-- the span that was read, if any
abbrev pub span_of : P.Option D.Span → Option Span
span_of (Some s) = some (record { day = s.day; opens = s.opens; closes = s.closes })
span_of None = none

-- how many bytes stand before the first b: all where there is none
unfoldable pub before : (b : ℕ) → List ℕ → ℕ
before b [] = 0
before b (x ∷ s) = pick (eqb x b) 0 (suc (before b s))

-- the same of the place of the first b among n bytes
abbrev pub before_of : (n : ℕ) → P.Option ℕ → ℕ
before_of n (Some i) = i
before_of n None = n

-- the first line, with its byte 10
abbrev pub head_size : ℕ
head_size = 15

abbrev pub head_line : List ℕ
head_line = ascii "day,open,close" ++ line_end ∷ []

-- seven times two numbers of two bytes
abbrev pub days_size : ℕ
days_size = 28

abbrev pub with_span : List ℕ → Span → List ℕ
with_span b s = over b (4 * s.day) (bytes_of 2 s.opens ++ bytes_of 2 s.closes)

-- the bytes b of the days after some lines, where no day may be under `next`
abbrev pub span_then : ℕ → List ℕ → Option Span → (ℕ → List ℕ → Option (List ℕ)) → Option (List ℕ)
span_then next b none rest = none
span_then next b (some s) rest = pick (leb next s.day) (rest (suc s.day) (with_span b s)) none

abbrev pub scan_lines : ℕ → List ℕ → List (List (List ℕ)) → Option (List ℕ)
scan_lines next b [] = some b
scan_lines next b (l ∷ ls) = span_then next b (span_in l) (λ n c. scan_lines n c ls)

abbrev pub scan_read : ℕ → List ℕ → Option (List (List (List ℕ))) → Option (List ℕ)
scan_read next b none = none
scan_read next b (some ls) = scan_lines next b ls

-- ... after the lines of a text
unfoldable pub scanned : ℕ → List ℕ → List ℕ → Option (List ℕ)
scanned next b text = scan_read next b (lines_of text)

-- the bytes of the days that were read, if any
abbrev pub days_of : P.Option (List ℕ) → Option (List ℕ)
days_of (Some b) = some b
days_of None = none
