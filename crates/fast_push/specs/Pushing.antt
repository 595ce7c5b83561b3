-- When what follows an accepted write of a DATA message is taken at once: its data goes out behind its header, or the next message does,
-- whole or its header; and what each leaves.
-- Assumes nothing.
use Rattle.std.specs.Prelude.{ℕ, ◌+◌, ◌-◌, Bool, not, ◌&&◌, List, eqb, ltb, leb, length}
use Rattle.protocol.specs.Bytes.{put}
use Rattle.protocol.specs.Ids.{DATA}
use Rattle.protocol.specs.Messages.{bytes_of_request}
use Rattle.fast_replies.specs.Direct.{done, written}
use Rattle.ids.specs.Ids.{number_of, dialect_of}
use Rattle.request_piece.specs.Pieces.{header_of}
use Rattle.request.specs.Meaning.{meant}
use Rattle.request.specs.declared.Request.TheVariants as Q
use Rattle.session.specs.Sends.{carried}
use Rattle.session.specs.declared.Reply.TheVariants as R
use Rattle.fast_record.specs.Names.{HEAD, TAIL, LENT, STATE, FROM, PIECE, DATA_OUT}
use Rattle.fast_record.specs.Standing.{number_in, ids_held, fits, step_of}

-- state 9, with the k-th piece out; 0, the whole message. The buffers have x and m bytes, l are lent, o are there for the reply.
abbrev pub accepted : (rec : List ℕ) → (x m l k o : ℕ) → Bool
accepted rec x m l k o = eqb (number_in rec STATE) DATA_OUT && eqb (number_in rec PIECE) k && fits rec x m l o

-- the data of the message that is out
abbrev pub part_in : (rec lent : List ℕ) → List ℕ
part_in rec lent = carried Q.Data (number_in rec FROM) lent

-- where the next message starts, and its data
abbrev pub next_in : (rec lent : List ℕ) → ℕ
next_in rec lent = number_in rec FROM + length (part_in rec lent)

abbrev pub next_part : (rec lent : List ℕ) → List ℕ
next_part rec lent = carried Q.Data (next_in rec lent) lent

-- the pending step: data from `from` on, with the k-th piece out
abbrev pub push_step : (from k : ℕ) → List ℕ
push_step from k = step_of DATA_OUT 0 0 from k 0

-- ---- the header was accepted: the data

-- the record and the reply then
abbrev pub part_done : (rec lent out : List ℕ) → Bool × List ℕ × List ℕ
part_done rec lent out =
    done (ltb 0 (length (part_in rec lent))) rec (number_in rec HEAD) (number_in rec TAIL) (number_in rec LENT) (push_step (number_in rec FROM) 2)
    (R.WriteLent (number_in rec FROM) (length (part_in rec lent))) out

abbrev pub part_now : (rec rx msg lent out : List ℕ) → Bool
part_now rec rx msg lent out = accepted rec (length rx) (length msg) (length lent) 1 (length out) && ltb 0 (length (part_in rec lent))

-- ---- a message was accepted: the next one

-- whether a message of n bytes of data fits the free end
abbrev pub has_room : (rec : List ℕ) → (x n : ℕ) → Bool
has_room rec x n = leb (8 + n) (x - number_in rec TAIL)

-- there is one, and nothing is moved for it
abbrev pub goes_on : (rec lent : List ℕ) → Bool
goes_on rec lent = eqb (number_in rec HEAD) 0 && ltb 0 (length (next_part rec lent))

-- the number of DATA, by the record's ids
abbrev pub data_id : (rec : List ℕ) → ℕ
data_id rec = number_of (ids_held rec) DATA

-- its header, where the message does not fit
abbrev pub header_goes : (rec rx lent : List ℕ) → Bool
header_goes rec rx lent = goes_on rec lent && not (has_room rec (length rx) (length (next_part rec lent)))

abbrev pub header_done : (rec rx lent out : List ℕ) → Bool × List ℕ × List ℕ
header_done rec rx lent out =
    done (header_goes rec rx lent) rec (number_in rec HEAD) (number_in rec TAIL) (number_in rec LENT) (push_step (next_in rec lent) 1)
    (R.WriteBytes (header_of (data_id rec) Q.Data (length (next_part rec lent)))) out

abbrev pub header_now : (rec rx msg lent out : List ℕ) → Bool
header_now rec rx msg lent out = accepted rec (length rx) (length msg) (length lent) 2 (length out) && header_goes rec rx lent

-- it whole, composed under the record's ids behind what is held, where it fits
abbrev pub whole_goes : (rec rx lent : List ℕ) → Bool
whole_goes rec rx lent = goes_on rec lent && has_room rec (length rx) (length (next_part rec lent))

abbrev pub next_bytes : (rec lent : List ℕ) → List ℕ
next_bytes rec lent = bytes_of_request (dialect_of (ids_held rec)) (meant Q.Data (next_part rec lent))

abbrev pub whole_done : (rec rx lent out : List ℕ) → Bool × List ℕ × List ℕ × List ℕ
whole_done rec rx lent out =
    written (whole_goes rec rx lent) rec rx (number_in rec HEAD) (number_in rec TAIL) (number_in rec LENT) (push_step (next_in rec lent) 0)
    (put rx (number_in rec TAIL) (next_bytes rec lent)) (R.WriteRx (number_in rec TAIL) (8 + length (next_part rec lent))) out

abbrev pub whole_now : (rec rx msg lent out : List ℕ) → Bool
whole_now rec rx msg lent out = accepted rec (length rx) (length msg) (length lent) 0 (length out) && whole_goes rec rx lent
