-- The rows, computed. Assumes nothing.
use mathlib.Core.Path.{refl}
use Rattle.protocol.specs.Bytes.{over}
use Rattle.protocol.specs.Decimal.{canonical}
use Rattle.protocol.specs.Fact.{Hold}
use Rattle.text_lines.specs.Lines.{lines_of}
use Rattle.hours.specs.File.{hours_in}
use Rattle.hours.specs.Slots.{slots_from, spans_from, hours_of}
use Rattle.hours.specs.Settings.{is_hours, loaded_hours, cross_may_push}
use Rattle.hours.specs.Facts.{taken, refused, loading, lending, starting}

pub taken-hold : Hold taken
unfolding hours_in lines_of canonical
taken-hold = refl

pub refused-hold : Hold refused
unfolding hours_in lines_of canonical
refused-hold = refl

pub loading-hold : Hold loading
unfolding loaded_hours hours_in lines_of canonical over slots_from
loading-hold = refl

pub lending-hold : Hold lending
unfolding is_hours
lending-hold = refl

pub starting-hold : Hold starting
unfolding cross_may_push is_hours hours_of spans_from
starting-hold = refl
