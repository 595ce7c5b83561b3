-- The facts of `specs/WholeSlots.antt` hold. Assumes nothing.
use mathlib.Core.Path.{refl}
use Rattle.protocol.specs.Bytes.{number_at, signed, over, put}
use Rattle.protocol.specs.Fact.{Hold}
use Rattle.time_index.specs.Crossing.{cross_index_open, cross_index_between, cross_index_latest, cross_index_entry}
use Rattle.time_index.specs.Slots.{is_index, ranks}
use Rattle.claims.specs.WholeSlots as F

pub indexes-hold : Hold F.indexes
unfolding number_at is_index
indexes-hold = refl

pub opening-holds : Hold F.opening
unfolding over cross_index_open
opening-holds = refl

pub asking_holds : Hold F.asking
unfolding number_at signed over put is_index ranks cross_index_between cross_index_latest cross_index_entry
asking_holds = refl
