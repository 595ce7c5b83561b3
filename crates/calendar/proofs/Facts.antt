-- The rows, computed. Assumes nothing.
use mathlib.Core.Path.{refl}
use Rattle.protocol.specs.Bytes.{number_at, over, put}
use Rattle.protocol.specs.Fact.{Hold}
use Rattle.calendar.specs.Calendar.{date_of, year_from, month_from, year_length, month_length, leap, day_of, years, before_month}
use Rattle.calendar.specs.Crossing.{cross_date}
use Rattle.calendar.specs.Facts.{leaps, dates, month_ends, leap_month_ends, days, month_end_days, weekdays, moments, crossings, slices}

pub leaps-hold : Hold leaps
unfolding leap
leaps-hold = refl

pub dates-hold : Hold dates
unfolding date_of year_from month_from year_length month_length leap
dates-hold = refl

pub month_ends-hold : Hold month_ends
unfolding date_of year_from month_from year_length month_length leap
month_ends-hold = refl

pub leap_month_ends-hold : Hold leap_month_ends
unfolding date_of year_from month_from year_length month_length leap
leap_month_ends-hold = refl

pub days-hold : Hold days
unfolding day_of years before_month year_length month_length leap
days-hold = refl

pub month_end_days-hold : Hold month_end_days
unfolding day_of years before_month year_length month_length leap
month_end_days-hold = refl

pub weekdays-hold : Hold weekdays
unfolding day_of years before_month year_length month_length leap
weekdays-hold = refl

pub moments-hold : Hold moments
moments-hold = refl

pub crossings-hold : Hold crossings
unfolding cross_date put over number_at date_of year_from month_from year_length month_length leap
crossings-hold = refl

pub slices-hold : Hold slices
unfolding cross_date put over date_of year_from month_from year_length month_length leap
slices-hold = refl
