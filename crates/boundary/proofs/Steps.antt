-- What a session does between two reports keeps the widths: from a session whose numbers fit their fields and whose held bytes are bytes it
-- leaves such a session, and a reply whose numbers fit theirs and whose parts lie inside. What is pending then is what the reply asks for; a
-- read is asked at tail.
-- Assumes nothing.
use Prim.Native.Nat.{ℕ, zero, suc, ◌+◌, ◌-◌, ◌≤◌, ◌<◌, ◌^◌}
use mathlib.Core.Bool.{Bool, true, false, true≢false, ◌||◌}
use mathlib.Core.List.{List, [], ◌∷◌}
use mathlib.Core.Path.{◌≡◌, refl, sym, ap, subst}
use native.Mathlib.Omega.{arith}
use borrow.Author.Tests.{ltb-false, leb-true, eqb-true, eqb-false}
use lib.Dec.{eqb, ltb, leb}
use lib.ListN.{length, get_or, take, drop, length-take, length-drop}
use Rattle.protocol.specs.Answers as Paper
use Rattle.protocol.specs.Bytes.{Bytes, pick, over, put}
use Rattle.protocol.specs.Messages.{bytes_of_request, data_most}
use Rattle.protocol.proofs.Bodies.{pick-cases}
use Rattle.protocol.proofs.Bytes.{bytes_drop, over-length, put_in}
use Rattle.protocol.proofs.Words.{bytes_take}
use Rattle.request_piece.specs.Pieces.{piece_list, piece_of}
use Rattle.request_piece.specs.declared.Piece.{Piece}
use Rattle.request_piece.specs.declared.Piece.TheVariants as P
use Rattle.record.specs.Fields.{starts_in}
use Rattle.record.specs.Narrow.{U32, U64, NarrowPhase, NarrowRequest, NarrowPending, Narrow, NarrowIds}
use Rattle.recv_buf.specs.RecvBuf.{held_count}
use Rattle.recv_buf.proofs.Laws.{window-keeps}
use Rattle.request.specs.Meaning.{meant}
use Rattle.request.specs.declared.Request.{Request}
use Rattle.request.specs.declared.Request.TheVariants as Q
use Rattle.session.specs.declared.Answer.{Answer}
use Rattle.session.specs.declared.Answer.TheVariants as A
use Rattle.session.specs.declared.Pending.{Pending}
use Rattle.session.specs.declared.Pending.TheVariants.{Idle, Reading, Writing, Closing}
use Rattle.session.specs.declared.Phase.{Phase}
use Rattle.session.specs.declared.Phase.TheVariants.{Header}
use Rattle.session.specs.declared.Reply.{Reply}
use Rattle.session.specs.declared.Reply.TheVariants as R
use Rattle.session.specs.declared.Session.{Session}
use Rattle.session.specs.declared.Then.{Then}
use Rattle.session.specs.declared.Then.TheVariants.{Stop, Go}
use Rattle.session.specs.declared.Version.TheVariants.{V1, V2}
use Rattle.session.specs.declared.Want.TheVariants as W
use Rattle.session.specs.Core.{show_of}
use Rattle.session.specs.Host.{Show, read, write_rx, write_lent, write_bytes, close}
use Rattle.session.specs.Host as H
use Rattle.session.specs.Phases.{wants}
use Rattle.session.specs.State.{dialect_in, St, st, Out, out, half, beside, stepped, at, Good}
use Rattle.session.specs.Steps.{reading, asked, on_hop, turned, followed, turn_of, hopped, pumped}
use Rattle.session.specs.Sends.{id_for, tidied, is_data, carried, piece_reply, send_piece, message_out, sent, told, closing_out, resumed, is_end, wrote_on}
use Rattle.session.proofs.Buf.{sound-of, good-at, good-tidied, held-tidied, held-dropped, kept-length, view}
use Rattle.session.proofs.Turns.{held, Frame, frame_of}
use Rattle.session.proofs.Writes.{Sent, pieces-sent}
use Rattle.boundary.specs.Crossing.{is_refusal}
use Rattle.boundary.proofs.Narrow.{NarrowPiece, NarrowReply, Given, NarrowThen, Fit, turn_fit, wants-below}

-- ---- what is kept

-- a session that fits buffers as long as slices can be, and its fields; what it holds are bytes
pub record Inv (s : St) : Type 0 where
  pub good : Good s
  pub wide : s.ses.message < 2 ^ 63
  pub lent : U64 s.ses.lent
  pub ids : NarrowIds s.ses.ids
  pub pending : NarrowPending s.ses.capacity s.ses.pending
  pub bytes : Bytes (held s)

pub narrow-of : (s : St) → Inv s → Narrow s.ses
narrow-of s x =
    record { capacity = omega (arith, x.good); message = omega arith; head = omega (arith, x.good); tail = omega (arith, x.good); lent = x.lent; ids = x.ids; pending = x.pending }

-- What is pending is what was asked; a read is asked at t, for w bytes.
pub data Awaits (t w : ℕ) : Pending → Show → Type 0 where
  idle : {a : Paper.Answer} → Awaits t w Idle (H.told a)
  reads : {p : Phase} {until : ℕ} {lost : Bool} → Awaits t w (Reading p until lost) (read t w)
  writes_rx : {q : Request} {from k i n : ℕ} → Awaits t w (Writing q from k) (write_rx i n)
  writes_lent : {q : Request} {from k i n : ℕ} → Awaits t w (Writing q from k) (write_lent i n)
  writes_bytes : {q : Request} {from k : ℕ} {b : List ℕ} → Awaits t w (Writing q from k) (write_bytes b)
  closes : {failed : Bool} {code : ℕ} → Awaits t w (Closing failed code) close

-- .. at tail, for the rest of the buffer
abbrev pub Asked : Session → Show → Type 0
Asked s sh = Awaits s.buf.tail (s.capacity - s.buf.tail) s.pending sh

-- what a step leaves that is not refused; φ is what it keeps
pub record Goes (φ : Frame) (o : Out) : Type 0 where
  pub inv : Inv o.st
  pub reply : NarrowReply o.st.ses.capacity o.st.ses.lent o.reply
  pub given : is_refusal o.reply ≡ false
  pub frame : frame_of o.st.ses ≡ φ
  pub asked : Asked o.st.ses (show_of o.st.rx o.st.msg o.reply)

-- a read is asked at tail
abbrev Window : Session → Reply → Type 0
Window s (R.Told a) = Unit {0}
Window s (R.Read i n) = i ≡ s.buf.tail
Window s (R.WriteRx i n) = Unit {0}
Window s (R.WriteLent i n) = Unit {0}
Window s (R.WriteBytes p) = Unit {0}
Window s R.Close = Unit {0}

-- what a step that began with the session s₀ leaves, refused or not
pub record Fine (s₀ : Session) (o : Out) : Type 0 where
  pub inv : Inv o.st
  pub reply : NarrowReply o.st.ses.capacity o.st.ses.lent o.reply
  pub window : Window o.st.ses o.reply
  pub same : pick (is_refusal o.reply) s₀ o.st.ses ≡ o.st.ses

read_at_lem : {t w i n : ℕ} {p : Pending} → Awaits t w p (read i n) → i ≡ t
read_at_lem reads = refl

asked-window : (s : Session) (rx msg : List ℕ) (r : Reply) → Asked s (show_of rx msg r) → Window s r
asked-window s rx msg (R.Told a) h = tt
asked-window s rx msg (R.Read i n) h = read_at_lem h
asked-window s rx msg (R.WriteRx i n) h = tt
asked-window s rx msg (R.WriteLent i n) h = tt
asked-window s rx msg (R.WriteBytes p) h = tt
asked-window s rx msg R.Close h = tt

pub fine : {φ : Frame} {o : Out} (s₀ : Session) → Goes φ o → Fine s₀ o
fine {o = o} s₀ g =
    record {
      inv = g.inv;
      reply = g.reply;
      window = asked-window o.st.ses o.st.rx o.st.msg o.reply g.asked;
      same = ap (λ (b : Bool). pick b s₀ o.st.ses) g.given;
    }

pub inv-pending : (s : St) (p : Pending) → Inv s → NarrowPending s.ses.capacity p → Inv (st (at s.ses s.ses.buf p) s.rx s.msg)
inv-pending s p x n = record { good = omega (arith, x.good); wide = x.wide; lent = x.lent; ids = x.ids; pending = n; bytes = x.bytes }

pub inv-tidied : (s : St) → Inv s → Inv (tidied s)
inv-tidied s x =
    record { good = good-tidied s x.good; wide = x.wide; lent = x.lent; ids = x.ids; pending = tt; bytes = subst Bytes (sym (held-tidied s x.good)) x.bytes }

-- ---- the pieces of a message

abbrev AllNarrow : ℕ → List Piece → Type 0
AllNarrow n [] = Unit {0}
AllNarrow n (p ∷ ps) = NarrowPiece n p × AllNarrow n ps

-- with the lent part or without
rest-narrow : (n : ℕ) (l : List Piece) → AllNarrow n l → AllNarrow n (pick (eqb n 0) l (P.Lent ∷ l))
rest-narrow n l h = pick-cases (AllNarrow n) (eqb n 0) (λ e. h) (λ e. let f = eqb-false n 0 e in (omega arith, h))

none-narrow : (n : ℕ) → AllNarrow n (pick (eqb n 0) [] [])
none-narrow n = pick-cases (AllNarrow n) (eqb n 0) (λ e. tt) (λ e. tt)

pieces-narrow : (i : ℕ) (q : Request) → NarrowRequest q → (n : ℕ) → AllNarrow n (piece_list i q n)
unfolding piece_list
pieces-narrow i Q.Stat r n = (tt, rest-narrow n [] tt)
pieces-narrow i Q.Sta2 r n = (tt, rest-narrow n [] tt)
pieces-narrow i Q.List r n = (tt, rest-narrow n [] tt)
pieces-narrow i Q.Lis2 r n = (tt, rest-narrow n [] tt)
pieces-narrow i Q.Recv r n = (tt, rest-narrow n [] tt)
pieces-narrow i (Q.Rcv2 f) r n = (tt, rest-narrow n _ (tt, (tt, tt)))
pieces-narrow i (Q.Send m) r n = (tt, rest-narrow n _ (tt, (r, tt)))
pieces-narrow i (Q.Snd2 m f) r n = (tt, rest-narrow n _ (tt, (tt, (tt, tt))))
pieces-narrow i Q.Data r n = (tt, rest-narrow n [] tt)
pieces-narrow i (Q.Done t) r n = (tt, none-narrow n)
pieces-narrow i Q.Quit r n = (tt, none-narrow n)

piece-narrow : (i : ℕ) (q : Request) → NarrowRequest q → (n k : ℕ) → NarrowPiece n (piece_of i q n k)
unfolding piece_of
piece-narrow i q r n k = go (piece_list i q n) k (pieces-narrow i q r n)
  where
    go : (l : List Piece) (k : ℕ) → AllNarrow n l → NarrowPiece n (get_or l k P.End)
    go [] k h = tt
    go (p ∷ l) zero h = h.0
    go (p ∷ l) (suc k) h = go l k h.1

-- one that goes out is one of the first five
piece-early : (i : ℕ) (q : Request) (n k : ℕ) → is_end (piece_of i q n k) ≡ false → k < 5
unfolding piece_of
piece-early i q n k e = go (piece_list i q n) 5 k (pieces-sent i q n) e
  where
    go : (l : List Piece) (m k : ℕ) → Sent m l → is_end (get_or l k P.End) ≡ false → k < m
    go [] m k h e = absurd (true≢false e)
    go (p ∷ l) zero k h e = absurd h
    go (p ∷ l) (suc m) zero h e = omega arith
    go (p ∷ l) (suc m) (suc k) h e = omega (arith, go l m k h.1 e)

-- ---- reading

reading-goes : (s : St) (p : Phase) (lost : Bool) → Inv s → NarrowPhase s.ses.capacity p
    → Goes (frame_of s.ses) (beside (half (reading s.ses s.ses.buf.head s.ses.buf.tail p lost) s.rx) s.msg)
reading-goes s p lost x n =
    let g = x.good in
    let w = wants-below (dialect_in s.ses) s.ses.capacity p n (omega arith) in
    record { inv = inv-pending s _ x (n, omega arith); reply = omega arith; given = refl; frame = refl; asked = reads }

asked-goes : (s : St) (p : Phase) (lost : Bool) → Inv s → NarrowPhase s.ses.capacity p → Goes (frame_of s.ses) (beside (asked s.ses s.rx p lost) s.msg)
unfolding asked
asked-goes s p lost x n =
    pick-cases (λ h. Goes (frame_of s.ses) (beside h s.msg)) (ltb s.ses.buf.tail s.ses.capacity)
    (λ e. reading-goes s p lost x n) (λ e. reading-goes (tidied s) p lost (inv-tidied s x) n)

pub told-goes : (s : St) (a : Answer) → Inv s → Given s.ses.capacity a → Goes (frame_of s.ses) (told s a)
told-goes s a x g =
    record { inv = inv-pending s Idle x tt; reply = g.0; given = g.1; frame = refl; asked = idle }

module _ (s : St) (p : Phase) (x : Inv s) (n : NarrowPhase s.ses.capacity p) (l : wants s.ses.capacity p ≤ held_count s.ses.buf) where
  fit : Fit s.ses.capacity p (turn_of s p)
  fit =
      let g = x.good in
      turn_fit (dialect_in s.ses) s.ses.capacity s.rx s.ses.buf.head g.rx (omega arith) p n (omega arith)
      (subst Bytes (view s g (wants s.ses.capacity p) l) (bytes_take (wants s.ses.capacity p) (held s) x.bytes))

  inv-turned : Inv (turned s (turn_of s p))
  inv-turned =
      let g = x.good in
      let d = fit.drops in
      let k = fit.keeps in
      record {
        good = good-at s _ s.rx (turned s (turn_of s p)).msg Idle g (omega arith) g.inside refl
            (kept-length s.rx s.msg s.ses.buf.head (turn_of s p).keeps (omega arith) (omega arith));
        wide = x.wide;
        lent = x.lent;
        ids = x.ids;
        pending = tt;
        bytes = subst Bytes (sym (held-dropped s g (turn_of s p).drops (omega arith))) (bytes_drop (turn_of s p).drops (held s) x.bytes);
      }

follow-goes : (k : St → Phase → Out) (s : St) (t : Then) → Inv s → NarrowThen s.ses.capacity t → ((p : Phase) → NarrowPhase s.ses.capacity p → Goes (frame_of s.ses) (k s p))
    → Goes (frame_of s.ses) (on_hop k (followed s t))
follow-goes k s (Stop a) x n ih = told-goes s a x n
follow-goes k s (Go p) x n ih = ih p n

hop-goes : (k : St → Phase → Out) (s : St) (p : Phase) (lost : Bool) → Inv s → NarrowPhase s.ses.capacity p
    → ((s' : St) (q : Phase) → Inv s' → NarrowPhase s'.ses.capacity q → Goes (frame_of s'.ses) (k s' q)) → Goes (frame_of s.ses) (on_hop k (hopped s p lost))
unfolding hopped
hop-goes k s p lost x n ih =
    pick-cases (λ h. Goes (frame_of s.ses) (on_hop k h)) (ltb s.ses.capacity (wants s.ses.capacity p))
    (λ e. told-goes s A.TooLarge x (tt, refl))
    (λ e. pick-cases (λ h. Goes (frame_of s.ses) (on_hop k h)) (ltb (held_count s.ses.buf) (wants s.ses.capacity p))
    (λ f. asked-goes s p lost x n)
    (λ f. let l = ltb-false _ _ f in
    follow-goes k (turned s (turn_of s p)) (turn_of s p).then (inv-turned s p x n l) (fit s p x n l).then
    (λ q m. ih (turned s (turn_of s p)) q (inv-turned s p x n l) m)))

pub pump_goes : (f : ℕ) (s : St) (p : Phase) (lost : Bool) → Inv s → NarrowPhase s.ses.capacity p → Goes (frame_of s.ses) (pumped f s p lost)
unfolding pumped
pump_goes zero s p lost x n = asked-goes s p lost x n
pump_goes (suc f) s p lost x n = hop-goes (λ s' q. pumped f s' q lost) s p lost x n (λ s' q x' n'. pump_goes f s' q lost x' n')

-- ---- writing

-- n bytes of what is lent, from `from` on
abbrev Carries : Session → (from n : ℕ) → Type 0
Carries s from n = 0 < n → from + n ≤ s.lent

piece-goes : (s : St) (q : Request) (from n k : ℕ) → Inv s → NarrowRequest q → U64 from → starts_in q from ≡ true → Carries s.ses from n → U64 (k + 1)
    → Goes (frame_of s.ses) (out (send_piece s.ses q from n k) s.rx s.msg)
piece-goes s q from n k x r f b h i = go (piece_of (id_for s.ses q) q n k) (piece-narrow (id_for s.ses q) q r n k)
  where
    y : Inv (st (at s.ses s.ses.buf (Writing q from (k + 1))) s.rx s.msg)
    y = inv-pending s _ x (r, (f, i), b)

    go : (p : Piece) → NarrowPiece n p
        → Goes (frame_of s.ses) (out (stepped (at s.ses s.ses.buf (Writing q from (k + 1))) (piece_reply from n p)) s.rx s.msg)
    go (P.Header id arg) m = record { inv = y; reply = m; given = refl; frame = refl; asked = writes_bytes }
    go P.Lent m = record { inv = y; reply = h m; given = refl; frame = refl; asked = writes_lent }
    go P.Comma m = record { inv = y; reply = m; given = refl; frame = refl; asked = writes_bytes }
    go (P.Digits d) m = record { inv = y; reply = m; given = refl; frame = refl; asked = writes_bytes }
    go (P.Inner id) m = record { inv = y; reply = m; given = refl; frame = refl; asked = writes_bytes }
    go (P.Word z) m = record { inv = y; reply = m; given = refl; frame = refl; asked = writes_bytes }
    go P.End m = record { inv = y; reply = m; given = refl; frame = refl; asked = writes_bytes }

message-goes : (s : St) (q : Request) (from : ℕ) (part : List ℕ) → Inv s → NarrowRequest q → U64 from → starts_in q from ≡ true
    → Carries s.ses from (length part)
    → Goes (frame_of s.ses) (beside (message_out s.ses s.rx q from part) s.msg)
unfolding message_out
message-goes s q from part x r f b h =
    pick-cases (λ y. Goes (frame_of s.ses) (beside y s.msg)) (leb (t.ses.buf.tail + length m) (length t.rx))
    (λ e. whole (leb-true _ _ e)) (λ e. piece-goes t q from (length part) 0 (inv-tidied s x) r f b h (omega arith))
  where
    t : St
    t = tidied s

    m : List ℕ
    m = bytes_of_request (dialect_in s.ses) (meant q part)

    whole : t.ses.buf.tail + length m ≤ length t.rx
        → Goes (frame_of s.ses) (beside
        (half (stepped (at s.ses t.ses.buf (Writing q from 0)) (R.WriteRx t.ses.buf.tail (length m))) (put t.rx t.ses.buf.tail m))
        s.msg)
    whole l =
        let g : Good t = good-tidied s x.good in
        let y : Inv t = inv-tidied s x in
        rw (put_in t.rx t.ses.buf.tail m l)
        (record {
          inv = record {
            good = good-at t t.ses.buf (over t.rx t.ses.buf.tail m) s.msg _ g g.order g.inside (over-length t.rx t.ses.buf.tail m l) refl;
            wide = x.wide;
            lent = x.lent;
            ids = x.ids;
            pending = (r, (f, omega arith), b);
            bytes = subst Bytes (sym (window-keeps t.rx t.ses.buf (sound-of t g) m l)) y.bytes;
          };
          reply = omega arith;
          given = refl;
          frame = refl;
          asked = writes_rx;
        })

pub sent-goes : (s : St) (q : Request) (from : ℕ) (part : List ℕ) → Inv s → NarrowRequest q → U64 from → starts_in q from ≡ true
    → Carries s.ses from (length part)
    → Goes (frame_of s.ses) (beside (sent s.ses s.rx q from part) s.msg)
unfolding sent
sent-goes s Q.Stat from part x r f b h = message-goes s Q.Stat from part x r f b h
sent-goes s Q.Sta2 from part x r f b h = message-goes s Q.Sta2 from part x r f b h
sent-goes s Q.List from part x r f b h = message-goes s Q.List from part x r f b h
sent-goes s Q.Lis2 from part x r f b h = message-goes s Q.Lis2 from part x r f b h
sent-goes s Q.Recv from part x r f b h = message-goes s Q.Recv from part x r f b h
sent-goes s (Q.Rcv2 y) from part x r f b h = message-goes s (Q.Rcv2 y) from part x r f b h
sent-goes s (Q.Send m) from part x r f b h = message-goes s (Q.Send m) from part x r f b h
sent-goes s (Q.Snd2 m y) from part x r f b h = message-goes s (Q.Snd2 m y) from part x r f b h
sent-goes s Q.Data from part x r f b h =
    pick-cases (λ y. Goes (frame_of s.ses) (beside y s.msg)) (eqb (length part) 0) (λ e. told-goes s A.Done x (tt, refl)) (λ e. message-goes s Q.Data from part x r f b h)
sent-goes s (Q.Done t) from part x r f b h = piece-goes s (Q.Done t) 0 0 0 x r (omega arith) refl (λ z. omega arith) (omega arith)
sent-goes s Q.Quit from part x r f b h = piece-goes s Q.Quit 0 0 0 x r (omega arith) refl (λ z. omega arith) (omega arith)

pub closing-goes : (s : St) (failed : Bool) (code : ℕ) → Inv s → U32 code → Goes (frame_of s.ses) (closing_out s failed code)
closing-goes s failed code x n = record { inv = inv-pending s _ x n; reply = tt; given = refl; frame = refl; asked = closes }

-- what is carried lies in what is lent
pub carried-in : (q : Request) (from : ℕ) (lent : List ℕ) → starts_in q from ≡ true → 0 < length (carried q from lent) → from + length (carried q from lent) ≤ length lent
unfolding carried
carried-in q from lent b = go (is_data q) b
  where
    go : (d : Bool) → (d || eqb from 0) ≡ true → 0 < length (pick d (take data_most (drop from lent)) lent)
        → from + length (pick d (take data_most (drop from lent)) lent) ≤ length lent
    go true e h = omega (arith, length-take data_most (drop from lent), length-drop from lent)
    go false e h = omega (arith, eqb-true from 0 e)

-- a message was accepted whole, or a piece of it; lent is what the call lends
module _ (s : St) (from : ℕ) (lent : List ℕ) (x : Inv s) (f : U64 from) (h : length lent ≡ s.ses.lent) where
  resumed-goes : (q : Request) → Goes (frame_of s.ses) (resumed s q from lent)
  unfolding resumed carried
  resumed-goes Q.Stat = pump_goes 4 s (Header (W.Stat V1)) false x tt
  resumed-goes Q.Sta2 = pump_goes 4 s (Header (W.Stat V2)) false x tt
  resumed-goes Q.List = told-goes s A.Done x (tt, refl)
  resumed-goes Q.Lis2 = told-goes s A.Done x (tt, refl)
  resumed-goes Q.Recv = told-goes s A.Done x (tt, refl)
  resumed-goes (Q.Rcv2 y) = told-goes s A.Done x (tt, refl)
  resumed-goes (Q.Send m) = told-goes s A.Done x (tt, refl)
  resumed-goes (Q.Snd2 m y) = told-goes s A.Done x (tt, refl)
  resumed-goes Q.Data =
      let n : ℕ = from + length (take data_most (drop from lent)) in
      sent-goes s Q.Data n (take data_most (drop n lent)) x tt
      (omega (arith, x.lent, length-take data_most (drop from lent), length-drop from lent)) refl
      (λ z. rw (← h) (carried-in Q.Data n lent refl z))
  resumed-goes (Q.Done t) = pump_goes 4 (tidied s) (Header W.Okay) false (inv-tidied s x) tt
  resumed-goes Q.Quit = closing-goes s false 0 x (omega arith)

  pub wrote_on-goes : (q : Request) (k : ℕ) → NarrowRequest q → starts_in q from ≡ true → Goes (frame_of s.ses) (wrote_on s q from k lent)
  unfolding wrote_on
  wrote_on-goes q k r b =
      pick-cases (Goes (frame_of s.ses)) (eqb k 0) (λ e. resumed-goes q)
      (λ e. pick-cases (Goes (frame_of s.ses)) (is_end (piece_of (id_for s.ses q) q (length (carried q from lent)) k)) (λ g. resumed-goes q)
      (λ g. piece-goes s q from (length (carried q from lent)) k x r f b (λ z. omega (arith, carried-in q from lent b z))
      (omega (arith, piece-early (id_for s.ses q) q (length (carried q from lent)) k g))))
