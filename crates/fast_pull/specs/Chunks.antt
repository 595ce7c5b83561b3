-- When the steps of a pull's chunk are taken at once, and that each then comes to its crossing.
-- Assumes nothing.
use Rattle.std.specs.Prelude.{ℕ, ◌+◌, ◌-◌, Bool, ◌&&◌, List, eqb, ltb, leb, length}
use Rattle.protocol.specs.Bytes.{pick}
use Rattle.protocol.specs.Ids.{Dialect, DATA}
use Rattle.protocol.specs.Records.{arg_at}
use Rattle.fast_replies.specs.Direct.{done, dialect_held, heads, met_by, came_in}
use Rattle.record.specs.Fields.{low}
use Rattle.session.specs.declared.Answer.TheVariants as A
use Rattle.session.specs.declared.Reply.TheVariants as R
use Rattle.fast_record.specs.Names.{HEAD, TAIL, LENT, STATE, FLAG, REGISTER, IDLE, CHUNK_HEADER, CHUNK_BODY}
use Rattle.fast_record.specs.Standing.{number_in, idle, fits, step_of, plain_step}

-- ---- the header is awaited

-- nothing is held: the whole buffer is read into
abbrev pub nothing_held : List ℕ → Bool
nothing_held rec = eqb (number_in rec HEAD) (number_in rec TAIL)

-- the record and the reply then
abbrev pub next_done : (rec : List ℕ) → (rx lent : ℕ) → (out : List ℕ) → Bool × List ℕ × List ℕ
next_done rec rx lent out = done (nothing_held rec) rec 0 0 lent (plain_step CHUNK_HEADER 8) (R.Read 0 rx) out

-- call 14
abbrev pub next_now : (rec rx msg : List ℕ) → (call : ℕ) → (out : List ℕ) → Bool
next_now rec rx msg call out =
    eqb call 14 && idle rec (length rx) (length msg) (length out) && nothing_held rec

-- ---- a read that completes the header

-- x begins with a chunk that fits c bytes, and has not all of it
abbrev pub body_short : Dialect → (x : List ℕ) → (c : ℕ) → Bool
body_short d x c = heads d (d.bytes DATA) x && leb (8 + arg_at x) c && ltb (length x) (8 + arg_at x)

-- how many bytes it takes, its header included; 0 where there is none
unfoldable pub short_length : Dialect → (x : List ℕ) → (c : ℕ) → ℕ
short_length d x c = pick (body_short d x c) (8 + arg_at x) 0

-- k bytes that came into the window, with the header, and there is room behind them
abbrev pub header_came : (rec rx : List ℕ) → (k : ℕ) → Bool
header_came rec rx k = met_by rec rx k && ltb (number_in rec TAIL + k) (length rx) && body_short (dialect_held rec) (came_in rec rx k) (length rx)

-- the record and the reply then: the flag stays as it was
abbrev pub header_done : (rec rx : List ℕ) → (k : ℕ) → (out : List ℕ) → Bool × List ℕ × List ℕ
header_done rec rx k out =
    let n = arg_at (came_in rec rx k) in
    done (header_came rec rx k) rec (number_in rec HEAD) (number_in rec TAIL + k) (number_in rec LENT) (step_of CHUNK_BODY (number_in rec FLAG) (number_in rec HEAD + (8 + n)) 0 0 n)
    (R.Read (number_in rec TAIL + k) (length rx - (number_in rec TAIL + k))) out

-- state 17
abbrev pub header_now : (rec rx msg lent : List ℕ) → (k : ℕ) → (out : List ℕ) → Bool
header_now rec rx msg lent k out =
    eqb (number_in rec STATE) CHUNK_HEADER && fits rec (length rx) (length msg) (length lent) (length out) && header_came rec rx k

-- ---- a read that completes the chunk

-- the length of a body that is awaited
abbrev pub body_length : List ℕ → ℕ
body_length rec = low (number_in rec REGISTER)

-- k bytes that came into the window, and with them header and body
abbrev pub body_came : (rec rx : List ℕ) → (k : ℕ) → Bool
body_came rec rx k = met_by rec rx k && leb (8 + body_length rec) (number_in rec TAIL + k - number_in rec HEAD)

-- the record and the reply then
abbrev pub body_done : (rec rx : List ℕ) → (k : ℕ) → (out : List ℕ) → Bool × List ℕ × List ℕ
body_done rec rx k out =
    done (body_came rec rx k) rec (number_in rec HEAD + (8 + body_length rec)) (number_in rec TAIL + k) (number_in rec LENT) (plain_step IDLE 0)
    (R.Told (A.Chunk (number_in rec HEAD + 8) (body_length rec))) out

-- state 28
abbrev pub body_now : (rec rx msg lent : List ℕ) → (k : ℕ) → (out : List ℕ) → Bool
body_now rec rx msg lent k out =
    eqb (number_in rec STATE) CHUNK_BODY && fits rec (length rx) (length msg) (length lent) (length out) && body_came rec rx k
