-- The facts of `specs/Facts.antt` hold. Assumes nothing.
use mathlib.Core.Path.{refl}
use Rattle.protocol.specs.Bytes.{over}
use Rattle.protocol.specs.Fact.{Hold}
use Rattle.text_lines.specs.Lines.{lines_of}
use Rattle.id_table.specs.Facts.{taken, malformed, doubled, settings, lending}
use Rattle.id_table.specs.IdsFile.{checked, ids_in}
use Rattle.id_table.specs.Settings.{settings_of, begun, loaded, lent_in}

pub taken-hold : Hold taken
unfolding ids_in checked lines_of
taken-hold = refl

pub malformed-hold : Hold malformed
unfolding ids_in checked lines_of
malformed-hold = refl

pub doubled-hold : Hold doubled
unfolding ids_in checked lines_of
doubled-hold = refl

pub settings-hold : Hold settings
unfolding begun loaded settings_of over ids_in checked lines_of
settings-hold = refl

pub lending-holds : Hold lending
unfolding lent_in checked
lending-holds = refl
