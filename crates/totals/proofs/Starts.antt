-- A start tells 0 or one of 1 to 17, whatever record it finds: its refusals are below 12, and no other answer is a refusal.
-- Assumes nothing.
use Prim.Native.Nat.{ℕ, zero, suc, ◌+◌, ◌-◌, ◌*◌, ◌/◌, ◌<◌, min}
use mathlib.Core.Bool.{Bool, true, false}
use mathlib.Core.List.{List}
use mathlib.Core.Logic.{◌⊎◌, inl, inr}
use mathlib.Core.Option.{Option, none, some}
use mathlib.Core.Path.{◌≡◌, refl, ap}
use native.Mathlib.Omega.{arith}
use borrow.Author.Tests.{ne_eqb}
use lib.Dec.{eqb, leb, ltb}
use lib.ListN.{length, drop}
use Rattle.protocol.specs.Answers as P
use Rattle.protocol.specs.Bytes.{pick, put, same}
use Rattle.protocol.specs.Ids.{Dialect, DATA, DONE, OKAY, FAIL}
use Rattle.protocol.specs.Messages.{bytes_of_request}
use Rattle.protocol.specs.Records.{id_at, arg_at, stat2_at}
use Rattle.protocol.specs.Refusal.{request_refusal, closed_hours}
use Rattle.protocol.proofs.Bodies.{pick-cases}
use Rattle.recv_buf.specs.RecvBuf.{held_count, compacted}
use Rattle.recv_buf.specs.declared.RecvBuf.{RecvBuf}
use Rattle.request.specs.Meaning.{meant}
use Rattle.request.specs.declared.Request.{Request}
use Rattle.request.specs.declared.Request.TheVariants as Q
use Rattle.request_piece.specs.Pieces.{piece_of}
use Rattle.request_piece.specs.declared.Piece.{Piece}
use Rattle.request_piece.specs.declared.Piece.TheVariants as W
use Rattle.record.specs.Record.{loaded}
use Rattle.session.specs.declared.Answer.{Answer}
use Rattle.session.specs.declared.Answer.TheVariants as A
use Rattle.session.specs.declared.Pending.TheVariants.{Idle, Writing}
use Rattle.session.specs.declared.Phase.{Phase}
use Rattle.session.specs.declared.Phase.TheVariants.{Header, Stat, Entry, Last, NameV1, NameV2, Body, Text, Rest}
use Rattle.session.specs.declared.Reply.{Reply}
use Rattle.session.specs.declared.Reply.TheVariants as R
use Rattle.session.specs.declared.Session.{Session}
use Rattle.session.specs.declared.Then.{Then}
use Rattle.session.specs.declared.Then.TheVariants.{Stop, Go}
use Rattle.session.specs.declared.Turn.{Turn}
use Rattle.session.specs.declared.Version.{Version}
use Rattle.session.specs.declared.Version.TheVariants.{V1, V2}
use Rattle.session.specs.declared.Want.{Want}
use Rattle.session.specs.declared.Want.TheVariants as N
use Rattle.session.specs.Calls.{misfit, is_idle, call_refusal, refused_or, refusal_of, setting_of, or_refuse, start_call, entry_call, chunk_call}
use Rattle.session.specs.Phases.{wants, stat_id_of, entry_id_of, proceed, headed, stat_turn, drained, turn_at}
use Rattle.session.specs.Sends.{piece_reply, id_for, send_piece, message_out, sent}
use Rattle.session.specs.State.{dialect_in, St, st, Out, Half, half, stepped, at, begun}
use Rattle.session.specs.Steps.{asked, HopOut, over, on, turned, followed, turn_of, hopped, on_hop, pumped}
use Rattle.boundary.specs.Crossing.{Crossed, is_refusal, back, on_loaded, request_numbered, call_numbered, unknown_call, cross_start}
use Rattle.boundary.specs.Told.{answer_number, reply_number, out_size}
use Rattle.boundary.proofs.Reports.{NarrowRefusal, lets, by_number, by_feature, request-narrow}
use Rattle.boundary_misuse.proofs.Unchanged.{told-number}

-- ---- replies

-- no refusal, or one that is below 12
abbrev Fair : Reply → Type 0
Fair r = (is_refusal r ≡ false) ⊎ ((k : ℕ) × (k < 12) × (reply_number r ≡ 256 * k))

fair_refused : (k : ℕ) → k < 12 → Fair (R.Told (A.Refused k))
unfolding reply_number
fair_refused k h = inr (k, h, refl)

fair_number : (r : Reply) → Fair r → reply_number r / 256 < 18
unfolding reply_number
fair_number (R.Told a) (inl g) = go (answer_number a) refl
  where
    go : (n : ℕ) → answer_number a ≡ n → 256 * answer_number a / 256 < 18
    go zero e = omega (arith, e)
    go (suc n) e = omega (arith, e, (told-number (R.Told a) g (suc n) (ap (λ (k : ℕ). 256 * k) e) (omega arith)).1)
fair_number (R.Told a) (inr (k, h, i)) = omega (arith, i)
fair_number (R.Read at len) f = omega arith
fair_number (R.WriteRx at len) f = omega arith
fair_number (R.WriteLent at len) f = omega arith
fair_number (R.WriteBytes p) f = omega arith
fair_number R.Close f = omega arith

-- ---- what is sent

piece-fair : (from n : ℕ) (p : Piece) → Fair (piece_reply from n p)
piece-fair from n (W.Header id arg) = inl refl
piece-fair from n W.Lent = inl refl
piece-fair from n W.Comma = inl refl
piece-fair from n (W.Digits m) = inl refl
piece-fair from n (W.Inner id) = inl refl
piece-fair from n (W.Word x) = inl refl
piece-fair from n W.End = inl refl

abbrev FairHalf : Half → Type 0
FairHalf h = Fair h.stepped.reply

message-fair : (s : Session) (rx : List ℕ) (q : Request) (from : ℕ) (part : List ℕ) → FairHalf (message_out s rx q from part)
unfolding message_out
message-fair s rx q from part =
    go (leb (c.tail + length m) (length b))
  where
    b : List ℕ
    b = (compacted rx s.buf).0

    c : RecvBuf
    c = (compacted rx s.buf).1

    m : List ℕ
    m = bytes_of_request (dialect_in s) (meant q part)

    go : (x : Bool) → FairHalf (pick x (half (stepped (at s c (Writing q from 0)) (R.WriteRx c.tail (length m))) (put b c.tail m)) (half (send_piece (at s c Idle) q from (length part) 0) b))
    go true = inl refl
    go false = piece-fair from (length part) (piece_of (id_for (at s c Idle) q) q (length part) 0)

sent-fair : (s : Session) (rx : List ℕ) (q : Request) (from : ℕ) (part : List ℕ) → FairHalf (sent s rx q from part)
unfolding sent
sent-fair s rx Q.Stat from part = message-fair s rx Q.Stat from part
sent-fair s rx Q.Sta2 from part = message-fair s rx Q.Sta2 from part
sent-fair s rx Q.List from part = message-fair s rx Q.List from part
sent-fair s rx Q.Lis2 from part = message-fair s rx Q.Lis2 from part
sent-fair s rx Q.Recv from part = message-fair s rx Q.Recv from part
sent-fair s rx (Q.Rcv2 f) from part = message-fair s rx (Q.Rcv2 f) from part
sent-fair s rx (Q.Send m) from part = message-fair s rx (Q.Send m) from part
sent-fair s rx (Q.Snd2 m f) from part = message-fair s rx (Q.Snd2 m f) from part
sent-fair s rx Q.Data from part = pick-cases FairHalf (eqb (length part) 0) (λ _. inl refl) (λ _. message-fair s rx Q.Data from part)
sent-fair s rx (Q.Done t) from part = piece-fair 0 0 (piece_of (id_for s (Q.Done t)) (Q.Done t) 0 0)
sent-fair s rx Q.Quit from part = piece-fair 0 0 (piece_of (id_for s Q.Quit) Q.Quit 0 0)

-- ---- reading on

asked-fair : (s : Session) (rx : List ℕ) (p : Phase) (lost : Bool) → FairHalf (asked s rx p lost)
unfolding asked
asked-fair s rx p lost = pick-cases FairHalf (ltb s.buf.tail s.capacity) (λ _. inl refl) (λ _. inl refl)

abbrev FairThen : Then → Type 0
FairThen (Stop a) = is_refusal (R.Told a) ≡ false
FairThen (Go p) = Unit {0}

abbrev FairTurn : Turn → Type 0
FairTurn t = FairThen t.then

proceed-fair : (d : Dialect) (w : Want) (id : List ℕ) (arg : ℕ) → FairTurn (proceed d w id arg)
proceed-fair d (N.Stat v) id arg = pick-cases FairTurn (same id (d.bytes (stat_id_of v))) (λ _. tt) (λ _. refl)
proceed-fair d (N.Entry v) id arg = pick-cases FairTurn (same id (d.bytes (entry_id_of v))) (λ _. tt) (λ _. pick-cases FairTurn (same id (d.bytes DONE)) (λ _. tt) (λ _. refl))
proceed-fair d N.Chunk id arg = pick-cases FairTurn (same id (d.bytes DATA)) (λ _. tt) (λ _. pick-cases FairTurn (same id (d.bytes DONE)) (λ _. refl) (λ _. refl))
proceed-fair d N.Okay id arg = pick-cases FairTurn (same id (d.bytes OKAY)) (λ _. refl) (λ _. refl)
proceed-fair d N.Nothing id arg = refl

drained-fair : (d k left text : ℕ) → FairTurn (drained d k left text)
unfolding drained
drained-fair d k left text = pick-cases FairThen (eqb left 0) (λ _. refl) (λ _. tt)

stat-fair : (v : Version) (x : List ℕ) → FairTurn (stat_turn v x)
stat-fair V1 x = refl
stat-fair V2 x = pick-cases (λ (a : Answer). is_refusal (R.Told a) ≡ false) (eqb (stat2_at x).error 0) (λ _. refl) (λ _. refl)

turn_fair : (d : Dialect) (c : ℕ) (p : Phase) (rx : List ℕ) (i : ℕ) → FairTurn (turn_at d c p rx i)
unfolding turn_at headed
turn_fair d c (Header w) rx i = pick-cases FairTurn (same (id_at (drop i rx)) (d.bytes FAIL)) (λ _. tt) (λ _. proceed-fair d w (id_at (drop i rx)) (arg_at (drop i rx)))
turn_fair d c (Stat v) rx i = stat-fair v (drop i rx)
turn_fair d c (Entry V1) rx i = tt
turn_fair d c (Entry V2) rx i = tt
turn_fair d c (Last v) rx i = refl
turn_fair d c (NameV1 e) rx i = refl
turn_fair d c (NameV2 e) rx i = refl
turn_fair d c (Body n) rx i = refl
turn_fair d c (Text n) rx i = drained-fair (min n c) (min n c) (n - min n c) (min n c)
turn_fair d c (Rest left text) rx i = drained-fair (min left c) 0 (left - min left c) text

abbrev FairHop : HopOut → Type 0
FairHop (over o) = Fair o.reply
FairHop (on s p) = Unit {0}

followed-fair : (s : St) (t : Then) → FairThen t → FairHop (followed s t)
followed-fair s (Stop a) f = inl f
followed-fair s (Go p) f = tt

hopped-fair : (s : St) (p : Phase) (lost : Bool) → FairHop (hopped s p lost)
unfolding hopped
hopped-fair s p lost =
    pick-cases FairHop (ltb s.ses.capacity (wants s.ses.capacity p)) (λ _. inl refl)
    (λ _. pick-cases FairHop (ltb (held_count s.ses.buf) (wants s.ses.capacity p)) (λ _. asked-fair s.ses s.rx p lost)
    (λ _. followed-fair (turned s (turn_of s p)) (turn_of s p).then (turn_fair (dialect_in s.ses) s.ses.capacity p s.rx s.ses.buf.head)))

pumped-fair : (n : ℕ) (s : St) (p : Phase) (lost : Bool) → Fair (pumped n s p lost).reply
unfolding pumped
pumped-fair zero s p lost = asked-fair s.ses s.rx p lost
pumped-fair (suc n) s p lost = go (λ s' p'. pumped-fair n s' p' lost) (hopped s p lost) (hopped-fair s p lost)
  where
    go : ((s : St) (p : Phase) → Fair (pumped n s p lost).reply) → (h : HopOut) → FairHop h → Fair (on_hop (λ s' p'. pumped n s' p' lost) h).reply
    go rest (over o) f = f
    go rest (on s p) f = rest s p

-- ---- calls

abbrev FairOut : Out → Type 0
FairOut o = Fair o.reply

refusal-small : (s : Session) (x m : ℕ) → call_refusal s x m < 12
unfolding call_refusal
refusal-small s x m =
    pick-cases (λ (k : ℕ). k < 12) (misfit s x m) (λ _. omega arith)
    (λ _. pick-cases (λ (k : ℕ). k < 12) s.ended (λ _. omega arith) (λ _. pick-cases (λ (k : ℕ). k < 12) (is_idle s.pending) (λ _. omega arith) (λ _. omega arith)))

or_fair : (s : St) (o : Out) → FairOut o → FairOut (refused_or (refusal_of s) s o)
or_fair s o f = pick-cases FairOut (ltb 0 (refusal_of s)) (λ _. fair_refused (refusal_of s) (refusal-small s.ses (length s.rx) (length s.msg))) (λ _. f)

or_refuse-fair : (r : Option P.Answer) (s : St) (o : Out) → NarrowRefusal r → FairOut o → FairOut (or_refuse r s o)
unfolding reply_number
or_refuse-fair r s o lets f = f
or_refuse-fair r s o (by_number {n = n} h) f = fair_refused n h.1.0
or_refuse-fair r s o (by_feature h) f = inr (10, omega arith, refl)

start-fair : (s : St) (q : Request) (lent : List ℕ) → FairOut (start_call s q lent)
unfolding start_call
start-fair s q lent =
    or_fair s _ (or_refuse-fair (request_refusal (setting_of s.ses) (meant q lent)) s _ (request-narrow (setting_of s.ses) (meant q lent)) (sent-fair (begun s.ses (length lent)) s.rx q 0 _))

entry-fair : (s : St) (v : Version) (n : ℕ) → FairOut (entry_call s v n)
unfolding entry_call
entry-fair s v n = or_fair s _ (pumped-fair 4 (st (begun s.ses n) s.rx s.msg) (Header (N.Entry v)) false)

chunk-fair : (s : St) (n : ℕ) → FairOut (chunk_call s n)
unfolding chunk_call
chunk-fair s n = or_fair s _ (pumped-fair 4 _ (Header N.Chunk) false)

numbered-fair : (n a b : ℕ) (s : St) (lent : List ℕ) (q : Option Request) → FairOut (call_numbered n a b s lent q (unknown_call s))
numbered-fair n a b s lent (some q) = start-fair s q lent
numbered-fair n a b s lent none =
    pick-cases FairOut (eqb n 12) (λ _. entry-fair s V1 (length lent))
    (λ _. pick-cases FairOut (eqb n 13) (λ _. entry-fair s V2 (length lent))
    (λ _. pick-cases FairOut (eqb n 14) (λ _. chunk-fair s (length lent)) (λ _. or_fair s _ (fair_refused 5 (omega arith)))))

-- ---- the crossing

abbrev Few : Crossed → Type 0
Few c = c.number / 256 < 18

start-few : (rec rx msg lent : List ℕ) (n a b : ℕ) (out : List ℕ) → Few (cross_start rec rx msg lent n a b out)
unfolding cross_start
start-few rec rx msg lent n a b out = pick-cases Few (ltb (length out) out_size) (λ _. omega arith) (λ _. go (loaded rec))
  where
    go : (o : Option Session) → Few (on_loaded rec rx msg out (λ s. back rec out (call_numbered n a b s lent (request_numbered n a b) (unknown_call s))) o)
    go none = omega arith
    go (some s) = fair_number _ (numbered-fair n a b (st s rx msg) lent (request_numbered n a b))

-- so not 25
pub start-open : (rec rx msg lent : List ℕ) (n a b : ℕ) (out : List ℕ) → eqb closed_hours ((cross_start rec rx msg lent n a b out).number / 256) ≡ false
start-open rec rx msg lent n a b out = ne_eqb closed_hours ((cross_start rec rx msg lent n a b out).number / 256) (λ e. omega (arith, e, start-few rec rx msg lent n a b out))
