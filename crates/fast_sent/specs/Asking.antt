-- When the header of a stat's reply is awaited at once, and what is left then.
-- Assumes nothing.
use Rattle.std.specs.Prelude.{ℕ, ◌+◌, ◌-◌, Bool, ◌&&◌, List, eqb, ltb, leb, length}
use Rattle.fast_replies.specs.Direct.{done}
use Rattle.session.specs.declared.Reply.TheVariants as R
use Rattle.fast_record.specs.Names.{HEAD, TAIL, LENT, STATE, PIECE, STAT_OUT, STAT_V2_OUT}
use Rattle.fast_record.specs.Standing.{number_in, fits, plain_step}

-- ---- a stat's message is out

-- fewer than 8 bytes are held, and there is room behind them
abbrev pub header_short : (rec rx : List ℕ) → Bool
header_short rec rx = ltb (number_in rec TAIL - number_in rec HEAD) 8 && ltb (number_in rec TAIL) (length rx)

-- the record and the reply then
abbrev pub header_done : (rec rx : List ℕ) → (state : ℕ) → (out : List ℕ) → Bool × List ℕ × List ℕ
header_done rec rx state out =
    done (header_short rec rx) rec (number_in rec HEAD) (number_in rec TAIL) (number_in rec LENT) (plain_step state (number_in rec HEAD + 8))
    (R.Read (number_in rec TAIL) (length rx - number_in rec TAIL)) out

-- states 1 and 2, the message out whole
abbrev pub sent_now : (rec rx msg lent out : List ℕ) → Bool
sent_now rec rx msg lent out =
    leb STAT_OUT (number_in rec STATE) && leb (number_in rec STATE) STAT_V2_OUT && eqb (number_in rec PIECE) 0 && fits rec (length rx) (length msg) (length lent) (length out)
    && header_short rec rx
