-- A session with totals: a step of the session inside the record, and the totals behind it (document 02, [7]). The exported functions are these with hours behind them
-- (hours_totals/specs/Crossing).
--
-- The record is the session's 256 bytes and five numbers of eight bytes: the bytes received, consumed and written since the opening, the length of
-- the piece that was last asked to be written, and the reads accepted in the call that is pending or was last over ([8]). A reply that tells an answer
-- has the reads as its last number, behind all that the answer carries; a refusal tells 0 there, where the slice has room.
-- Assumes nothing.
use Rattle.std.specs.Prelude.{ℕ, ◌+◌, ◌-◌, ◌/◌, ◌%◌, ◌^◌, Bool, ◌&&◌, ◌||◌, not, List, [], ◌∷◌, ◌++◌, eqb, ltb, leb, length, take, drop}
use Rattle.protocol.specs.Bytes.{pick, put, bytes_of}
use Rattle.record.specs.Record.{words, word_of, size}
use Rattle.session.specs.Host.{Show, told, read, write_rx, write_lent, write_bytes, close}
use Rattle.session.specs.declared.Answer.TheVariants as A
use Rattle.session.specs.declared.Reply.{Reply}
use Rattle.session.specs.declared.Reply.TheVariants as R
use Rattle.boundary.specs.Crossing.{Crossed, crossed, OpenCrossed, cross_open, cross_start, cross_read, cross_wrote, cross_fault}
use Rattle.boundary.specs.Heard.{heard}
use Rattle.boundary.specs.Told.{reply_number, reply_bytes}

-- ---- the numbers of a record

abbrev pub record_size : ℕ
record_size = 296

-- their places, behind the session's 32
abbrev pub received_at : ℕ
received_at = 32

abbrev pub consumed_at : ℕ
consumed_at = 33

abbrev pub written_at : ℕ
written_at = 34

abbrev pub asked_at : ℕ
asked_at = 35

abbrev pub reads_at : ℕ
reads_at = 36

-- where the reads stand in a reply: its number 14
abbrev pub count_at : ℕ
count_at = 112

abbrev pub received_of : List ℕ → ℕ
received_of rec = word_of rec received_at

abbrev pub consumed_of : List ℕ → ℕ
consumed_of rec = word_of rec consumed_at

abbrev pub written_of : List ℕ → ℕ
written_of rec = word_of rec written_at

abbrev pub asked_of : List ℕ → ℕ
asked_of rec = word_of rec asked_at

abbrev pub reads_of : List ℕ → ℕ
reads_of rec = word_of rec reads_at

-- ---- a step

-- a total is below this
abbrev pub limit : ℕ
limit = 2 ^ 64

-- the answer to a report that would bring one there
abbrev pub overflowed : ℕ
overflowed = 21

-- one of the numbers 1 to 11 is told: nothing was done
abbrev pub refuses : (number : ℕ) → Bool
refuses n = ltb 0 (n / 256) && ltb (n / 256) 12

-- the length of the piece that was last asked, by what is asked or told now; a close asks for no bytes
abbrev pub piece_asked : Show → (before : ℕ) → ℕ
piece_asked (told a) n = n
piece_asked (read at len) n = n
piece_asked (write_rx at len) n = len
piece_asked (write_lent at len) n = len
piece_asked (write_bytes b) n = length b
piece_asked close n = 0

-- a session with these totals behind it; consumed is received less what is held, tail less head, of which `words` keeps 64 bits
abbrev pub totalling : (session : List ℕ) → (received written asked reads : ℕ) → List ℕ
totalling x r n a k = x ++ words (r ∷ (limit + r + word_of x 2 - word_of x 3) ∷ n ∷ a ∷ k ∷ [])

-- the slice of a reply that tells an answer, with the reads in it
abbrev pub counted : (number reads : ℕ) → (out : List ℕ) → List ℕ
counted n k out = pick (eqb (n % 256) 0) (put out count_at (bytes_of 8 k)) out

-- c is the step of the session inside: refused, the numbers behind it stay; else these are the totals
abbrev pub with_totals : (rec : List ℕ) → (received written reads : ℕ) → Crossed → Crossed
with_totals rec r n k c =
    crossed (pick (refuses c.number) (c.rec ++ drop size rec) (totalling c.rec r n (piece_asked (heard c.number c.out c.rx c.msg) (asked_of rec)) k))
    c.rx c.msg (counted c.number (pick (refuses c.number) 0 k) c.out) c.number

-- 21, told; nothing else is altered
abbrev pub overflow_reply : Reply
overflow_reply = R.Told (A.Refused overflowed)

abbrev pub overflowing : (rec rx msg out : List ℕ) → Crossed
overflowing rec rx msg out = crossed rec rx msg (counted (reply_number overflow_reply) 0 (put out 0 (reply_bytes overflow_reply))) (reply_number overflow_reply)

-- what the session refuses is refused; then 21, where a total would reach the limit
abbrev pub totalled : (rec rx msg out : List ℕ) → (received written reads : ℕ) → Crossed → Crossed
totalled rec rx msg out r n k c =
    pick (not (refuses c.number) && (leb limit r || (leb limit n || leb limit k))) (overflowing rec rx msg out) (with_totals rec r n k c)

-- for a record of another length 3 is told, with no reads; nothing else is altered
abbrev pub wrong_length : ℕ
wrong_length = 768

abbrev pub on_record : (rec rx msg out : List ℕ) → Crossed → Crossed
on_record rec rx msg out c = pick (eqb (length rec) record_size) c (crossed rec rx msg (counted wrong_length 0 out) wrong_length)

-- ---- the functions

-- opening: as the session's, in the front of the record, all totals 0; a record of another length is 3, behind 1 and 2, and a refusal leaves it
abbrev pub open_totals : (rec : List ℕ) → OpenCrossed → OpenCrossed
open_totals rec o =
    pick (eqb o.number 0) (record { rec = totalling o.rec 0 0 0 0; number = 0 }) (record { rec = rec; number = o.number })

unfoldable pub total_open : List ℕ → (settings banner : List ℕ) → (rx msg : ℕ) → OpenCrossed
total_open rec settings banner rx msg =
    open_totals rec (cross_open (pick (eqb (length rec) record_size) (take size rec) []) settings banner rx msg)

-- starting a call and a fault add nothing, a read its count, a write that was accepted the length of its piece; a call starts with no reads, and a read is one more
unfoldable pub total_start : (rec rx msg lent : List ℕ) → (call a b : ℕ) → (out : List ℕ) → Crossed
total_start rec rx msg lent n a b out =
    on_record rec rx msg out (with_totals rec (received_of rec) (written_of rec) 0 (cross_start (take size rec) rx msg lent n a b out))

unfoldable pub total_read : (rec rx msg lent : List ℕ) → (count : ℕ) → (out : List ℕ) → Crossed
total_read rec rx msg lent k out =
    on_record rec rx msg out
    (totalled rec rx msg out (received_of rec + k) (written_of rec) (reads_of rec + 1) (cross_read (take size rec) rx msg lent k out))

unfoldable pub total_wrote : (rec rx msg lent out : List ℕ) → Crossed
total_wrote rec rx msg lent out =
    on_record rec rx msg out
    (totalled rec rx msg out (received_of rec) (written_of rec + asked_of rec) (reads_of rec) (cross_wrote (take size rec) rx msg lent out))

unfoldable pub total_fault : (rec rx msg lent : List ℕ) → (kind code : ℕ) → (out : List ℕ) → Crossed
total_fault rec rx msg lent kind code out =
    on_record rec rx msg out (with_totals rec (received_of rec) (written_of rec) (reads_of rec) (cross_fault (take size rec) rx msg lent kind code out))
