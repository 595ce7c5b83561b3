-- Steps that are taken at once, on the record's numbers, where a session would be loaded, stepped and stored again: when each is taken,
-- and that it then comes to what the crossing comes to.
-- Assumes nothing.
use Rattle.std.specs.Prelude.{ℕ, ◌+◌, ◌-◌, Bool, true, false, not, ◌&&◌, List, eqb, ltb, leb, length}
use Rattle.protocol.specs.Bytes.{pick, same, put}
use Rattle.protocol.specs.Ids.{Dialect, FAIL}
use Rattle.protocol.specs.Records.{id_at, stat_at, stat2_at, dent_at, dent2_at}
use Rattle.boundary.specs.Crossing.{Crossed}
use Rattle.boundary.specs.Told.{reply_bytes}
use Rattle.format_record.specs.Told.{stat_of, stat2_of}
use Rattle.ids.specs.Ids.{dialect_of}
use Rattle.record.specs.Record.{words}
use Rattle.recv_buf.specs.RecvBuf.{cursor, held_bytes}
use Rattle.session.specs.Phases.{stat_size_of, entry_size_of, stat_id_of, entry_id_of}
use Rattle.session.specs.declared.Answer.{Answer}
use Rattle.session.specs.declared.Answer.TheVariants as A
use Rattle.session.specs.declared.Reply.{Reply}
use Rattle.session.specs.declared.Reply.TheVariants.{Told}
use Rattle.session.specs.declared.Version.{Version}
use Rattle.session.specs.declared.Version.TheVariants.{V1, V2}
use Rattle.fast_record.specs.Names.{HEAD, TAIL, LENT, STATE, UNTIL, IDLE, STAT_HEADER, STAT_V2_HEADER}
use Rattle.fast_record.specs.Standing.{number_in, idle, fits, ids_held, moved_numbers, plain_step}

-- taken, with what it comes to; or not taken, and all as it was
unfoldable pub tried : Bool → Crossed → Crossed → Bool × Crossed
tried true step same = (true, step)
tried false step same = (false, same)

-- the record and the slice of the reply: with the session at another place and another step, and the reply; or as they were
unfoldable pub done : Bool → (rec : List ℕ) → (head tail lent : ℕ) → (step : List ℕ) → Reply → (out : List ℕ) → Bool × List ℕ × List ℕ
done true rec head tail lent step r out = (true, words (moved_numbers rec head tail lent step), put out 0 (reply_bytes r))
done false rec head tail lent step r out = (false, rec, out)

-- the same with the receive buffer, which becomes new
unfoldable pub written : Bool → (rec rx : List ℕ) → (head tail lent : ℕ) → (step new : List ℕ) → Reply → (out : List ℕ)
    → Bool × List ℕ × List ℕ × List ℕ
written true rec rx head tail lent step new r out = (true, words (moved_numbers rec head tail lent step), new, put out 0 (reply_bytes r))
written false rec rx head tail lent step new r out = (false, rec, rx, out)

-- the bytes that a record's session holds
abbrev pub held_in : (rec rx : List ℕ) → List ℕ
held_in rec rx = held_bytes rx (cursor (number_in rec HEAD) (number_in rec TAIL))

-- the ids that its session goes by
abbrev pub dialect_held : List ℕ → Dialect
dialect_held rec = dialect_of (ids_held rec)

-- a header of these bytes at the front of x; where FAIL has the same it is a FAIL's
unfoldable pub heads : Dialect → (id x : List ℕ) → Bool
heads d id x = leb 8 (length x) && not (same (id_at x) (d.bytes FAIL)) && same (id_at x) id

-- ---- a listing step whose entry is held whole

abbrev pub name_length_of : Version → List ℕ → ℕ
name_length_of V1 x = (dent_at x).namelen
name_length_of V2 x = (dent2_at x).namelen

-- how many bytes the entry at the front of x takes, its name included; 0 where it is not whole
unfoldable pub entry_length : Dialect → Version → List ℕ → ℕ
entry_length d v x =
    pick (leb (entry_size_of v) (length x) && heads d (d.bytes (entry_id_of v)) x && leb (entry_size_of v + name_length_of v x) (length x))
    (entry_size_of v + name_length_of v x)
    0

-- the entry at the front of x, with its name from at on
abbrev pub entry_told : Version → List ℕ → ℕ → Answer
entry_told V1 x at = A.EntryV1 (stat_of (dent_at x).stat) at (dent_at x).namelen
entry_told V2 x at = A.EntryV2 (stat2_of (dent2_at x).stat) at (dent2_at x).namelen

-- ... of the entry that a record's session holds
abbrev pub entry_in : (rec rx : List ℕ) → Version → ℕ
entry_in rec rx v = entry_length (dialect_held rec) v (held_in rec rx)

-- the record and the reply, where the entry is whole
abbrev pub entry_done : (rec rx : List ℕ) → (lent : ℕ) → Version → (out : List ℕ) → Bool × List ℕ × List ℕ
entry_done rec rx lent v out =
    done (ltb 0 (entry_in rec rx v)) rec (number_in rec HEAD + entry_in rec rx v) (number_in rec TAIL) lent (plain_step IDLE 0)
    (Told (entry_told v (held_in rec rx) (number_in rec HEAD + entry_size_of v))) out

-- calls 12 and 13
abbrev pub entry_version : ℕ → Version
entry_version call = pick (eqb call 12) V1 V2

abbrev pub entry_now : (rec rx msg : List ℕ) → (call : ℕ) → (out : List ℕ) → Bool
entry_now rec rx msg call out =
    leb 12 call && leb call 13 && idle rec (length rx) (length msg) (length out) && ltb 0 (entry_in rec rx (entry_version call))

-- ---- a read that completes a stat's reply

-- a stat of version 2 can carry an error instead
abbrev pub errorless : Version → List ℕ → Bool
errorless V1 x = true
errorless V2 x = eqb (stat2_at x).error 0

-- a stat's reply at the front of x
unfoldable pub is_stat : Dialect → Version → List ℕ → Bool
is_stat d v x = leb (stat_size_of v) (length x) && heads d (d.bytes (stat_id_of v)) x && errorless v x

abbrev pub stat_told : Version → List ℕ → Answer
stat_told V1 x = A.StatV1 (stat_of (stat_at x))
stat_told V2 x = A.StatV2 (stat2_of (stat2_at x))

-- the bytes that are held once k more have come
abbrev pub came_in : (rec rx : List ℕ) → (k : ℕ) → List ℕ
came_in rec rx k = held_bytes rx (cursor (number_in rec HEAD) (number_in rec TAIL + k))

-- k bytes that came into the window, up to where the need is met
abbrev pub met_by : (rec rx : List ℕ) → (k : ℕ) → Bool
met_by rec rx k = ltb 0 k && leb k (length rx - number_in rec TAIL) && leb (number_in rec UNTIL) (number_in rec TAIL + k)

-- ... and with them a stat's reply
abbrev pub stat_came : (rec rx : List ℕ) → (k : ℕ) → Version → Bool
stat_came rec rx k v = met_by rec rx k && is_stat (dialect_held rec) v (came_in rec rx k)

-- where tail comes to with k more bytes; 0 where they do not meet the need
unfoldable pub end_of : (rec rx : List ℕ) → (k : ℕ) → ℕ
end_of rec rx k = pick (met_by rec rx k) (number_in rec TAIL + k) 0

-- the record and the reply then
abbrev pub stat_done : (rec rx : List ℕ) → (k : ℕ) → Version → (out : List ℕ) → Bool × List ℕ × List ℕ
stat_done rec rx k v out =
    done (stat_came rec rx k v) rec (number_in rec HEAD + stat_size_of v) (number_in rec TAIL + k) (number_in rec LENT) (plain_step IDLE 0) (Told (stat_told v (came_in rec rx k))) out

-- states 13 and 14
abbrev pub stat_version : ℕ → Version
stat_version state = pick (eqb state STAT_HEADER) V1 V2

abbrev pub stat_now : (rec rx msg lent : List ℕ) → (k : ℕ) → (out : List ℕ) → Bool
stat_now rec rx msg lent k out =
    leb STAT_HEADER (number_in rec STATE) && leb (number_in rec STATE) STAT_V2_HEADER && fits rec (length rx) (length msg) (length lent) (length out)
    && stat_came rec rx k (stat_version (number_in rec STATE))
