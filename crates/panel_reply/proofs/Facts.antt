-- The facts of `specs/Facts.antt` hold. Assumes nothing.
use mathlib.Core.Path.{refl}
use Rattle.protocol.specs.Bytes.{over}
use Rattle.protocol.specs.Fact.{Hold}
use Rattle.panel_reply.specs.Facts as F
use Rattle.panel_reply.specs.Replies.{behind_id, is_short, written}

pub replies-hold : Hold F.replies
unfolding behind_id
replies-hold = refl

pub lettered-holds : Hold F.lettered
unfolding behind_id
lettered-holds = refl

pub limits-hold : Hold F.limits
unfolding is_short
limits-hold = refl

pub lengths-hold : Hold F.lengths
lengths-hold = refl

pub buffers-hold : Hold F.buffers
unfolding behind_id is_short written over
buffers-hold = refl
