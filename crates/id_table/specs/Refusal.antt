-- What the refusals of ids and of settings say. Assumes nothing.
use Rattle.std.specs.Prelude.{ℕ, Result, Ok, Err}
use Rattle.ids.specs.declared.Ids.{Ids}
use Rattle.id_table.specs.IdsFile.{bad_form, equal_values}
use Rattle.id_table.specs.Lent.{Lent}
use Rattle.id_table.specs.Lent as L
use Rattle.id_table.specs.Settings.{misplaced}
use Rattle.id_table.specs.declared.IdsRefusal.{IdsRefusal}
use Rattle.id_table.specs.declared.IdsRefusal.TheVariants.{Misplaced, BadForm, EqualValues}

abbrev pub number_of : IdsRefusal → ℕ
number_of Misplaced = misplaced
number_of BadForm = bad_form
number_of EqualValues = equal_values

-- 0, or the number of a refusal
abbrev pub answer_of : Result Unit IdsRefusal → ℕ
answer_of (Ok _) = 0
answer_of (Err why) = number_of why

abbrev pub lent_of : Result Ids IdsRefusal → Lent
lent_of (Ok ids) = L.Ids ids
lent_of (Err why) = L.Refused (number_of why)
