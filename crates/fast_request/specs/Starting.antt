-- When a call that carries a path alone (stat, stat_v2, list, list_v2, recv) is started at once, and what it leaves.
-- Assumes nothing.
use Rattle.std.specs.Prelude.{ℕ, ◌+◌, ◌-◌, ◌/◌, ◌%◌, Bool, true, ◌&&◌, List, [], ◌∷◌, eqb, leb, length, get_or}
use Rattle.protocol.specs.Bytes.{pick, put}
use Rattle.protocol.specs.Refusal.{is_none, path_refusal}
use Rattle.protocol.specs.Ids.{published}
use Rattle.protocol.specs.Messages.{PathOnly, stat, sta2, list, lis2, recv, ask, bytes_of_request}
use Rattle.fast_replies.specs.Direct.{written}
use Rattle.ids.specs.Ids.{dialect_of}
use Rattle.record.specs.Fields.{is_one}
use Rattle.recv_buf.specs.RecvBuf.{cursor, compacted}
use Rattle.session.specs.declared.Reply.TheVariants as R
use Rattle.fast_record.specs.Names.{HEAD, TAIL, FEATURES}
use Rattle.fast_record.specs.Standing.{number_in, ids_held, idle, plain_step}

-- calls 1 to 5, and the message of each
abbrev pub path_of : ℕ → PathOnly
path_of call = get_or (recv ∷ stat ∷ sta2 ∷ list ∷ lis2 ∷ []) call recv

-- ... under the record's ids
abbrev pub ask_bytes : (rec : List ℕ) → (call : ℕ) → (path : List ℕ) → List ℕ
ask_bytes rec call path = bytes_of_request (dialect_of (ids_held rec)) (ask (path_of call) path)

-- the feature that a call needs is among those whose bits are set
abbrev pub offered : (features call : ℕ) → Bool
offered features call = pick (eqb call 2) (is_one (features % 2)) (pick (eqb call 4) (is_one (features / 2 % 2)) true)

-- its path is refused neither by 8 nor by 7: the longest is the published one under every table
abbrev pub is_path : List ℕ → Bool
is_path path = is_none (path_refusal published path)

-- how many bytes are held
abbrev pub held_count_in : List ℕ → ℕ
held_count_in rec = number_in rec TAIL - number_in rec HEAD

-- its message fits behind them, once they are at the front
abbrev pub ask_fits : (rec rx lent : List ℕ) → Bool
ask_fits rec rx lent = leb (8 + length lent) (length rx - held_count_in rec)

-- the receive buffer then: what lay between head and tail is at the front, and the message behind it
abbrev pub asked_in : (rec rx : List ℕ) → (head tail call : ℕ) → (path : List ℕ) → List ℕ
asked_in rec rx head tail call path = put (compacted rx (cursor head tail)).0 (tail - head) (ask_bytes rec call path)

-- the record, the receive buffer and the reply, where the message fits
abbrev pub ask_done : (rec rx lent : List ℕ) → (call : ℕ) → (out : List ℕ) → Bool × List ℕ × List ℕ × List ℕ
ask_done rec rx lent call out =
    written (ask_fits rec rx lent) rec rx 0 (held_count_in rec) (length lent) (plain_step call 0) (asked_in rec rx (number_in rec HEAD) (number_in rec TAIL) call lent)
    (R.WriteRx (held_count_in rec) (8 + length lent)) out

abbrev pub ask_now : (rec rx msg lent : List ℕ) → (call : ℕ) → (out : List ℕ) → Bool
ask_now rec rx msg lent call out =
    leb 1 call && leb call 5 && idle rec (length rx) (length msg) (length out) && offered (number_in rec FEATURES) call && is_path lent && ask_fits rec rx lent
