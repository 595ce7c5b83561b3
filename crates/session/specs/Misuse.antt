-- The numbers of what is refused before a call or a report is looked at. Assumes nothing.
use Rattle.std.specs.Prelude.{ℕ, Result, Ok, Err}
use Rattle.session.specs.declared.Misuse.{Misuse}
use Rattle.session.specs.declared.Misuse.TheVariants as M

abbrev pub number_of : Misuse → ℕ
number_of M.ReceiveTooShort = 1
number_of M.MessageTooShort = 2
number_of M.Misplaced = 3
number_of M.Pending = 4
number_of M.NothingPending = 5
number_of M.Ended = 6
number_of M.BadCount = 11

-- what a test found to refuse; 0: nothing
abbrev pub refused_by : {T : Type 0} → Result T Misuse → ℕ
refused_by (Ok x) = 0
refused_by (Err m) = number_of m
