-- The facts of `specs/Facts.antt` hold. Assumes nothing.
use mathlib.Core.Path.{refl}
use Rattle.protocol.specs.Bytes.{number_at, signed, over, put}
use Rattle.protocol.specs.Fact.{Hold}
use Rattle.boundary.specs.Heard.{done_heard}
use Rattle.session.specs.Shown.{part_of}
use Rattle.time_index.specs.Crossing.{has_slot, offered_by, added, cross_index_add}
use Rattle.time_index.specs.Facts as F
use Rattle.time_index.specs.Index.{offered, has_room, taken, answered, inserted, in_time, keep, between, latest}
use Rattle.time_index.specs.Slots.{is_index, ranks, slot_among, slots_with}

pub offers-hold : Hold F.offers
unfolding offered
offers-hold = refl

pub times-hold : Hold F.times
times-hold = refl

pub holding-holds : Hold F.holding
unfolding offered has_room taken
holding-holds = refl

pub answering-holds : Hold F.answering
unfolding offered has_room taken answered
answering-holds = refl

pub spans-hold : Hold F.spans
unfolding inserted in_time keep between
spans-hold = refl

pub latests-hold : Hold F.latests
unfolding latest
latests-hold = refl

pub rooms-hold : Hold F.rooms
unfolding has_slot number_at
rooms-hold = refl

pub slots-hold : Hold F.slots
unfolding number_at signed over ranks slot_among slots_with
slots-hold = refl

pub ranks-hold : Hold F.ranks
unfolding number_at signed ranks
ranks-hold = refl

pub told-holds : Hold F.told
unfolding number_at signed ranks
told-holds = refl

pub adding-holds : Hold F.adding
unfolding number_at signed over ranks slot_among slots_with done_heard part_of offered offered_by has_slot added
adding-holds = refl

pub turned-hold : Hold F.turned
unfolding number_at has_slot added
turned-hold = refl

pub keeping-holds : Hold F.keeping
unfolding number_at signed over ranks slot_among slots_with done_heard part_of offered offered_by has_slot added
keeping-holds = refl

pub crossing-holds : Hold F.crossing
unfolding number_at is_index done_heard part_of offered offered_by has_slot added cross_index_add
crossing-holds = refl

pub seeking-holds : Hold F.seeking
unfolding number_at over put
seeking-holds = refl
