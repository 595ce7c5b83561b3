-- `panel_writer::speak` meets its contract: each arm says the reply that was matched.
use Rattle.panel_reply.specs.Replies.{behind_id, is_short}
use Rattle.panel_writer.proofs.Laws.{replied}
use Rattle.panel_writer.proofs.speak.Goals as goal

pub returns-in-Stat : goal.returns-in-Stat
unfolding behind_id is_short
returns-in-Stat c = replied _ _ _ _ c.in-Stat.is c.number.ensures c.say_stat.ensures

pub returns-in-StatV2 : goal.returns-in-StatV2
unfolding behind_id is_short
returns-in-StatV2 c = replied _ _ _ _ c.in-StatV2.is c.number-in-StatV2.ensures c.say_stat-in-StatV2.ensures

pub returns-in-Entry : goal.returns-in-Entry
unfolding behind_id is_short
returns-in-Entry c = replied _ _ _ _ c.in-Entry.is c.number-in-Entry.ensures c.say_entry.ensures

pub returns-in-EntryV2 : goal.returns-in-EntryV2
unfolding behind_id is_short
returns-in-EntryV2 c = replied _ _ _ _ c.in-EntryV2.is c.number-in-EntryV2.ensures c.say_entry-in-EntryV2.ensures

pub returns-in-ListingEnd : goal.returns-in-ListingEnd
unfolding behind_id is_short
returns-in-ListingEnd c =
    let z = c.default.ensures in
    replied _ _ _ _ c.in-ListingEnd.is c.number-in-ListingEnd.ensures (rw (z.0, z.1.0, z.1.1) at c.say_entry-in-ListingEnd.ensures)

pub returns-in-ListingEndV2 : goal.returns-in-ListingEndV2
unfolding behind_id is_short
returns-in-ListingEndV2 c =
    let z = c.default-in-ListingEndV2.ensures in
    let times = z.1.1.1.1.1.1.1.1 in
    replied _ _ _ _ c.in-ListingEndV2.is c.number-in-ListingEndV2.ensures
    (rw (z.0, z.1.0, z.1.1.0, z.1.1.1.0, z.1.1.1.1.0, z.1.1.1.1.1.0, z.1.1.1.1.1.1.0, z.1.1.1.1.1.1.1.0, times.0, times.1.0, times.1.1) at c.say_entry-in-ListingEndV2.ensures)

pub returns-in-Chunk : goal.returns-in-Chunk
unfolding behind_id is_short
returns-in-Chunk c = replied _ _ _ _ c.in-Chunk.is c.number-in-Chunk.ensures c.say_chunk.ensures

pub returns-in-TransferEnd : goal.returns-in-TransferEnd
unfolding behind_id is_short
returns-in-TransferEnd c = replied _ _ _ _ c.in-TransferEnd.is c.number-in-TransferEnd.ensures c.say_counted.ensures

pub returns-in-Okay : goal.returns-in-Okay
unfolding behind_id is_short
returns-in-Okay c = replied _ _ _ _ c.in-Okay.is c.number-in-Okay.ensures c.say_counted-in-Okay.ensures

pub returns-in-Fail : goal.returns-in-Fail
unfolding behind_id is_short
returns-in-Fail c = replied _ _ _ _ c.in-Fail.is c.number-in-Fail.ensures c.say_counted-in-Fail.ensures
