-- What the program prints, over what it was given: the lines of the plain reader's answers (document 01, "Trial pieces").
-- Assumes nothing.
use Rattle.std.specs.Prelude.{ℕ, zero, suc, false, List, [], ◌∷◌, ◌++◌, length}
use Rattle.protocol.specs.Answers as P
use Rattle.protocol.specs.Answers.{Answer, error, number}
use Rattle.std.proofs.Math.Option.{none}
use Rattle.protocol.specs.Calls.{Call, v1, next_entry, anytimes}
use Rattle.protocol.specs.Features.{features_of}
use Rattle.protocol.specs.Ids.{published}
use Rattle.protocol.specs.Reader.{Config, accepted, plain_answers}
use Rattle.listing_lines.specs.Lines.{heading, entry_line, end_line}

-- n listing steps
abbrev pub steps : ℕ → List Call
steps zero = []
steps (suc n) = next_entry v1 ∷ steps n

-- the line of an answer, and what follows it: nothing behind the end
unfoldable pub lined : Answer → List ℕ → List ℕ
lined (P.entry s name) rest = entry_line s name ++ rest
lined P.done rest = end_line (number P.done)
lined P.end rest = end_line (number P.end)
lined (P.stat s) rest = end_line (number (P.stat s))
lined (P.stat2 s) rest = end_line (number (P.stat2 s))
lined (P.entry2 s name) rest = end_line (number (P.entry2 s name))
lined (P.chunk b) rest = end_line (number (P.chunk b))
lined (P.refused n) rest = end_line (number (P.refused n))
lined (P.missing f) rest = end_line (number (P.missing f))
lined (P.broken e) rest = end_line (number (P.broken e))
lined (P.fail t) rest = end_line (number (P.fail t))
lined (P.unexpected i) rest = end_line (number (P.unexpected i))
lined (P.errno c) rest = end_line (number (P.errno c))
lined P.too_large rest = end_line (number P.too_large)

abbrev pub lines_of : List Answer → List ℕ
lines_of [] = []
lines_of (a ∷ more) = lined a (lines_of more)

-- the plain reader for a session of capacity c
abbrev pub config : ℕ → Config
config c = record { setting = record { dialect = published; features = features_of []; ended = false }; capacity = c; close = accepted }

-- its answers to n listing steps, with end error 13
abbrev pub answers : ℕ → ℕ → List ℕ → List Answer
answers c n input = plain_answers none (config c) (error 0) (anytimes (steps n)) input

-- The lines behind the heading. Each entry takes at least a byte of the input, so that one step more than it has bytes comes to the end.
unfoldable pub listed : (capacity : ℕ) → (input : List ℕ) → List ℕ
listed c input = lines_of (answers c (suc (length input)) input)

-- the whole output
unfoldable pub printed : (capacity : ℕ) → (input : List ℕ) → List ℕ
printed c input = heading ++ listed c input
