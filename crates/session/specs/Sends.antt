-- What a session does where it sends a message, and what follows one that was accepted whole.
-- Assumes nothing.
use Rattle.std.specs.Prelude.{ℕ, ◌+◌, Bool, true, false, List, eqb, leb, length, take, drop}
use Rattle.protocol.specs.Bytes.{pick, put}
use Rattle.protocol.specs.Messages.{bytes_of_request, data_most}
use Rattle.ids.specs.Ids.{number_of}
use Rattle.request_message.specs.Composed.{asked}
use Rattle.request_piece.specs.Pieces.{piece_of}
use Rattle.request_piece.specs.declared.Piece.{Piece}
use Rattle.request_piece.specs.declared.Piece.TheVariants as P
use Rattle.recv_buf.specs.RecvBuf.{compacted}
use Rattle.request.specs.Meaning.{meant}
use Rattle.request.specs.declared.Request.{Request}
use Rattle.request.specs.declared.Request.TheVariants as Q
use Rattle.session.specs.declared.Answer.{Answer}
use Rattle.session.specs.declared.Answer.TheVariants as A
use Rattle.session.specs.declared.Pending.TheVariants.{Idle, Writing, Closing}
use Rattle.session.specs.declared.Phase.TheVariants.{Header}
use Rattle.session.specs.declared.Reply.{Reply}
use Rattle.session.specs.declared.Reply.TheVariants as R
use Rattle.session.specs.declared.Session.{Session}
use Rattle.session.specs.declared.Stepped.{Stepped}
use Rattle.session.specs.declared.Version.TheVariants.{V1, V2}
use Rattle.session.specs.declared.Want.TheVariants as W
use Rattle.session.specs.State.{dialect_in, St, st, Out, out, Half, half, beside, stepped, at, answering}
use Rattle.session.specs.Steps.{read_on}

-- held bytes to the front
abbrev pub tidied : St → St
tidied s = st (at s.ses (compacted s.rx s.ses.buf).1 Idle) (compacted s.rx s.ses.buf).0 s.msg

abbrev pub is_data : Request → Bool
is_data Q.Stat = false
is_data Q.Sta2 = false
is_data Q.List = false
is_data Q.Lis2 = false
is_data Q.Recv = false
is_data (Q.Rcv2 f) = false
is_data (Q.Send m) = false
is_data (Q.Snd2 m f) = false
is_data Q.Data = true
is_data (Q.Done t) = false
is_data Q.Quit = false

-- the part of what is lent that the message carries: of data at most 65,536 bytes, from `from` on
unfoldable pub carried : Request → ℕ → List ℕ → List ℕ
carried q from lent = pick (is_data q) (take data_most (drop from lent)) lent

-- a piece that goes out
abbrev pub piece_reply : ℕ → ℕ → Piece → Reply
piece_reply from n (P.Header id arg) = R.WriteBytes (P.Header id arg)
piece_reply from n P.Lent = R.WriteLent from n
piece_reply from n P.Comma = R.WriteBytes P.Comma
piece_reply from n (P.Digits m) = R.WriteBytes (P.Digits m)
piece_reply from n (P.Inner id) = R.WriteBytes (P.Inner id)
piece_reply from n (P.Word x) = R.WriteBytes (P.Word x)
piece_reply from n P.End = R.WriteBytes P.End

-- the number of a request's id, in the session's table
abbrev pub id_for : Session → Request → ℕ
id_for s q = number_of s.ids (asked q)

-- the k-th piece, from 0, of a message that goes out in pieces; n bytes are carried
abbrev pub send_piece : Session → Request → ℕ → ℕ → ℕ → Stepped
send_piece s q from n k = stepped (at s s.buf (Writing q from (k + 1))) (piece_reply from n (piece_of (id_for s q) q n k))

-- a message: after compaction whole in the free end where it fits, or its first piece
unfoldable pub message_out : Session → List ℕ → Request → ℕ → List ℕ → Half
message_out s rx q from part =
    let b = (compacted rx s.buf).0 in
    let c = (compacted rx s.buf).1 in
    let m = bytes_of_request (dialect_in s) (meant q part) in
    pick (leb (c.tail + length m) (length b))
    (half (stepped (at s c (Writing q from 0)) (R.WriteRx c.tail (length m))) (put b c.tail m))
    (half (send_piece (at s c Idle) q from (length part) 0) b)

-- "DONE and QUIT are header only, no compaction"; empty data writes nothing
unfoldable pub sent : Session → List ℕ → Request → ℕ → List ℕ → Half
sent s rx Q.Stat from part = message_out s rx Q.Stat from part
sent s rx Q.Sta2 from part = message_out s rx Q.Sta2 from part
sent s rx Q.List from part = message_out s rx Q.List from part
sent s rx Q.Lis2 from part = message_out s rx Q.Lis2 from part
sent s rx Q.Recv from part = message_out s rx Q.Recv from part
sent s rx (Q.Rcv2 f) from part = message_out s rx (Q.Rcv2 f) from part
sent s rx (Q.Send m) from part = message_out s rx (Q.Send m) from part
sent s rx (Q.Snd2 m f) from part = message_out s rx (Q.Snd2 m f) from part
sent s rx Q.Data from part = pick (eqb (length part) 0) (half (answering s A.Done) rx) (message_out s rx Q.Data from part)
sent s rx (Q.Done t) from part = half (send_piece s (Q.Done t) 0 0 0) rx
sent s rx Q.Quit from part = half (send_piece s Q.Quit 0 0 0) rx

-- ---- what follows a message that was accepted whole

abbrev pub told : St → Answer → Out
told s a = out (answering s.ses a) s.rx s.msg

-- the close, after the write came to an error or not
abbrev pub closing_out : St → Bool → ℕ → Out
closing_out s failed code = out (stepped (at s.ses s.ses.buf (Closing failed code)) R.Close) s.rx s.msg

unfoldable pub resumed : St → Request → ℕ → List ℕ → Out
resumed s Q.Stat from lent = read_on s (Header (W.Stat V1)) false
resumed s Q.Sta2 from lent = read_on s (Header (W.Stat V2)) false
resumed s Q.List from lent = told s A.Done
resumed s Q.Lis2 from lent = told s A.Done
resumed s Q.Recv from lent = told s A.Done
resumed s (Q.Rcv2 f) from lent = told s A.Done
resumed s (Q.Send m) from lent = told s A.Done
resumed s (Q.Snd2 m f) from lent = told s A.Done
resumed s Q.Data from lent =
    let next = from + length (carried Q.Data from lent) in
    beside (sent s.ses s.rx Q.Data next (carried Q.Data next lent)) s.msg
resumed s (Q.Done t) from lent = read_on (tidied s) (Header W.Okay) false
resumed s Q.Quit from lent = closing_out s false 0

-- a piece was accepted: 0, the whole message; k, its k-th piece
abbrev pub is_end : Piece → Bool
is_end (P.Header id arg) = false
is_end P.Lent = false
is_end P.Comma = false
is_end (P.Digits m) = false
is_end (P.Inner id) = false
is_end (P.Word x) = false
is_end P.End = true

unfoldable pub wrote_on : St → Request → ℕ → ℕ → List ℕ → Out
wrote_on s q from k lent =
    pick (eqb k 0) (resumed s q from lent)
    (pick (is_end (piece_of (id_for s.ses q) q (length (carried q from lent)) k)) (resumed s q from lent)
    (out (send_piece s.ses q from (length (carried q from lent)) k) s.rx s.msg))
