-- `hours_step::lacks_hours` meets its contract.
use mathlib.Core.Path.{ap}
use mathlib.Core.Bool.{not}
use borrow.Author.Tests.{eq-eqb, ne_eqb}
use lib.ListN.{length}
use Rattle.id_table.specs.Settings.{settings_size}
use Rattle.hours_step.proofs.lacks_hours.Goals as goal

pub returns-then-settings-ne-SETTINGS : goal.returns-then-settings-ne-SETTINGS
returns-then-settings-ne-SETTINGS c = rw (ne_eqb (length c.args.settings.now) settings_size c.if-settings-ne-SETTINGS.true)

pub returns : goal.returns
returns c = rw (eq-eqb (length c.args.settings.now) settings_size c.if-settings-ne-SETTINGS.false) (ap not c.is_hours.ensures)
