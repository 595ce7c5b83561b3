-- A step's outcome, put back, whatever the record's length.
-- Assumes nothing.
use Rattle.std.specs.Prelude.{ℕ, List, eqb, length}
use Rattle.protocol.specs.Bytes.{pick, put}
use Rattle.boundary.specs.Crossing.{Crossed, crossed, is_refusal}
use Rattle.boundary.specs.Told.{reply_number, reply_bytes}
use Rattle.record.specs.Record.{size, stored}
use Rattle.session.specs.State.{Out}

-- as `back` where the record is 256 bytes long; another record is left alone
unfoldable pub back_into : List ℕ → List ℕ → Out → Crossed
back_into rec out o =
    crossed (pick (is_refusal o.reply) rec (pick (eqb (length rec) size) (stored o.st.ses) rec)) o.st.rx o.st.msg
    (put out 0 (reply_bytes o.reply)) (reply_number o.reply)
