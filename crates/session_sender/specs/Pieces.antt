-- A piece that goes out, the next message of data, and the close, as the code's private steps have them.
-- Assumes nothing.
use Rattle.std.specs.Prelude.{ℕ, ◌+◌, Bool, List, length}
use Rattle.request_piece.specs.declared.Piece.{Piece}
use Rattle.request.specs.declared.Request.{Request}
use Rattle.request.specs.declared.Request.TheVariants as Q
use Rattle.session.specs.State.{Half, stepped, at}
use Rattle.session.specs.Sends.{piece_reply, carried, sent}
use Rattle.session.specs.declared.Pending.TheVariants.{Writing, Closing}
use Rattle.session.specs.declared.Reply.TheVariants as R
use Rattle.session.specs.declared.Session.{Session}
use Rattle.session.specs.declared.Stepped.{Stepped}

abbrev pub piece_sent : Session → Request → (from n k : ℕ) → Piece → Stepped
piece_sent s q from n k p = stepped (at s s.buf (Writing q from (k + 1))) (piece_reply from n p)

abbrev pub data_on : Session → List ℕ → ℕ → List ℕ → Half
data_on s rx from lent =
    let next = from + length (carried Q.Data from lent) in
    sent s rx Q.Data next (carried Q.Data next lent)

abbrev pub closing : Session → Bool → ℕ → Stepped
closing s failed code = stepped (at s s.buf (Closing failed code)) R.Close
