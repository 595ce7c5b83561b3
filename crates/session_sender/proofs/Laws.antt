-- What a message carries, how long it is and how many pieces it has, and the cases of `message_out` and `wrote_on`. Assumes nothing.
use Prim.Native.Nat.{ℕ, ◌+◌, ◌-◌, ◌≤◌, ◌<◌}
use mathlib.Core.Bool.{Bool, true, false}
use mathlib.Core.List.{List, ◌++◌}
use mathlib.Core.Path.{◌≡◌, sym, ap, ◌∙◌}
use native.Mathlib.Decide.{dec_le}
use native.Mathlib.Nat.{lt_of_not-le}
use native.Mathlib.Omega.{arith}
use borrow.Author.Tests.{le-leb, lt-leb, eq-eqb, ne_eqb}
use lib.Dec.{eqb, leb}
use lib.ListN.{length, drop, length-append, length-take, length-drop, get_or-eq_default}
use Rattle.protocol.specs.Bytes.{pick, put}
use Rattle.ids.specs.Ids.{number_of, dialect_of}
use Rattle.ids.specs.declared.Ids.{Ids}
use Rattle.protocol.specs.Messages.{data_most, header, joined, message_of, bytes_of_request}
use Rattle.protocol.specs.Messages as M
use Rattle.protocol.proofs.Bytes.{put-out}
use Rattle.request_message.proofs.Laws.{header-bytes}
use Rattle.std.specs.Prelude.{Option, Some, None}
use Rattle.decimal.proofs.Fitted.{fitted-in, fitted-out, some-none, some-some}
use Rattle.request_message.specs.Composed.{only, asked, placed}
use Rattle.request_piece.specs.Pieces.{parts_of, piece_list, piece_of}
use Rattle.request_piece.specs.declared.Piece.{Piece}
use Rattle.request_piece.specs.declared.Piece.TheVariants.{End}
use Rattle.recv_buf.specs.RecvBuf.{compacted}
use Rattle.recv_buf.specs.declared.RecvBuf.{RecvBuf}
use Rattle.request.specs.Meaning.{meant}
use Rattle.request.specs.declared.Request.{Request}
use Rattle.request.specs.declared.Request.TheVariants as Q
use Rattle.session.proofs.Misfit.{misfit-fits, guarded-in}
use Rattle.session.proofs.Writes.{Split, split-own}
use Rattle.session.specs.State.{dialect_in, St, out, Half, half, stepped, at}
use Rattle.session.specs.Sends.{carried, is_end, id_for, send_piece, message_out, sent, resumed, wrote_on}
use Rattle.session.specs.declared.Pending.TheVariants.{Idle, Writing}
use Rattle.session.specs.declared.Reply.TheVariants.{WriteRx}
use Rattle.session.specs.declared.Session.{Session}
use Rattle.session.specs.declared.Stepped.{Stepped}
use Rattle.session_sender.specs.Pieces.{piece_sent, data_on}

-- ---- what a message carries

-- it is there
pub carried-room : (from : ℕ) (lent : List ℕ) → length (carried Q.Data from lent) ≤ length lent - from
unfolding carried
carried-room from lent = omega (arith, length-take data_most (drop from lent), length-drop from lent)

-- the next message of data
pub data_on_lem : (s : Session) (rx : List ℕ) (from : ℕ) (lent d p : List ℕ) → d ≡ carried Q.Data from lent → p ≡ carried Q.Data (from + length d) lent
    → sent s rx Q.Data (from + length d) p ≡ data_on s rx from lent
data_on_lem s rx from lent d p e f = rw (f, e)

-- ---- how long a message is, and how many pieces it has

message-long : (t : Ids) (q : M.Request) → 8 ≤ length (bytes_of_request (dialect_of t) q)
unfolding bytes_of_request
message-long t q =
    rw (
      length-append (header (dialect_of t) (message_of (dialect_of t) q)) (joined (message_of (dialect_of t) q).parts),
      header-bytes (number_of t (message_of (dialect_of t) q).id) (message_of (dialect_of t) q).arg,
    )
    (omega arith)

-- a message has one id: under its number it is the message in the table
pub bytes-own : (t : Ids) (q : Request) (part : List ℕ)
    → bytes_of_request (only (number_of t (asked q))) (meant q part) ≡ bytes_of_request (dialect_of t) (meant q part)
unfolding bytes_of_request
bytes-own t q part = ap (λ (s : Split). s.0 ++ joined s.1) (split-own t q part)

parts-few : (i : ℕ) (q : Request) → length (parts_of i q) ≤ 4
parts-few i Q.Stat = omega arith
parts-few i Q.Sta2 = omega arith
parts-few i Q.List = omega arith
parts-few i Q.Lis2 = omega arith
parts-few i Q.Recv = omega arith
parts-few i (Q.Rcv2 f) = omega arith
parts-few i (Q.Send m) = omega arith
parts-few i (Q.Snd2 m f) = omega arith
parts-few i Q.Data = omega arith
parts-few i (Q.Done t) = omega arith
parts-few i Q.Quit = omega arith

fewer : (t : Bool) (l : List Piece) → length (pick t (drop 1 l) l) ≤ length l
fewer true l = omega (arith, length-drop 1 l)
fewer false l = omega arith

-- a piece that goes out is one of the first five
pub piece_few : (i : ℕ) (q : Request) (n k : ℕ) {p : Piece} → p ≡ piece_of i q n k → (p ≡ End → ⊥) → k < 5
unfolding piece_of piece_list
piece_few i q n k e f = go (dec_le 5 k)
  where
    go : Dec (5 ≤ k) → k < 5
    go (yes h) =
        let l : length (piece_list i q n) ≤ k = omega (arith, parts-few i q, fewer (eqb n 0) (parts_of i q)) in
        absurd (f (e ∙ get_or-eq_default (piece_list i q n) End {n = k} l))
    go (no f) = lt_of_not-le f

-- the k-th piece goes out
pub piece_sent_lem : (q : Request) (from n k : ℕ) {i s : Session} {j : ℕ} {p : Piece} {r : Stepped} → i ≡ s → j ≡ id_for s q → p ≡ piece_of j q n k
    → r ≡ piece_sent i q from n k p → r ≡ send_piece s q from n k
piece_sent_lem q from n k {i} {s} {j} {p} e own f h =
    h ∙ ap (λ (z : Session). piece_sent z q from n k p) e
    ∙ ap (λ (z : Piece). piece_sent s q from n k z) (f ∙ ap (λ (y : ℕ). piece_of y q n k) own)

-- ---- a message goes out: whole, or in pieces

module _ (s : Session) (rx : List ℕ) (q : Request) (from : ℕ) (part b : List ℕ) (c : RecvBuf) (e : (b, c) ≡ compacted rx s.buf) where
  abbrev m : List ℕ
  m = bytes_of_request (dialect_in s) (meant q part)

  abbrev wholly : List ℕ × RecvBuf → Half
  wholly p = half (stepped (at s p.1 (Writing q from 0)) (WriteRx p.1.tail (length m))) (put p.0 p.1.tail m)

  abbrev first : List ℕ × RecvBuf → Half
  first p = half (send_piece (at s p.1 Idle) q from (length part) 0) p.0

  cases : pick (leb (c.tail + length m) (length b)) (wholly (b, c)) (first (b, c)) ≡ message_out s rx q from part
  unfolding message_out
  cases = ap (λ (p : List ℕ × RecvBuf). pick (leb (p.1.tail + length m) (length p.0)) (wholly p) (first p)) e

  module _ (i : ℕ) (own : i ≡ id_for s q) (x : List ℕ) (o : Option ℕ) (g : (x, o) ≡ placed b c.tail (bytes_of_request (only i) (meant q part))) where
    f : (x, o) ≡ placed b c.tail m
    f = g ∙ ap (λ (j : ℕ). placed b c.tail (bytes_of_request (only j) (meant q part))) own ∙ ap (placed b c.tail) (bytes-own s.ids q part)

    bytes : x ≡ put b c.tail m
    bytes = ap (λ (p : List ℕ × Option ℕ). p.0) f

    count : (k : Option ℕ) → (placed b c.tail m).1 ≡ k → o ≡ k
    count k g = ap (λ (p : List ℕ × Option ℕ). p.1) f ∙ g

    pub whole_out : (n : ℕ) → o ≡ Some n → half (stepped (at s c (Writing q from 0)) (WriteRx c.tail n)) x ≡ message_out s rx q from part
    whole_out n z = go (dec_le (c.tail + length m) (length b))
      where
        go : Dec (c.tail + length m ≤ length b) → half (stepped (at s c (Writing q from 0)) (WriteRx c.tail n)) x ≡ message_out s rx q from part
        go (yes h) =
            let k : n ≡ length m = some-some (sym z ∙ count (Some (length m)) (fitted-in b c.tail m h)) in
            rw (bytes, k) (simp (le-leb _ _ h) at cases)
        go (no g) = absurd (some-none (sym z ∙ count None (fitted-out b c.tail m (lt_of_not-le g))))

    pub pieces-out : o ≡ None → half (send_piece (at s c Idle) q from (length part) 0) x ≡ message_out s rx q from part
    pieces-out z = go (dec_le (c.tail + length m) (length b))
      where
        go : Dec (c.tail + length m ≤ length b) → half (send_piece (at s c Idle) q from (length part) 0) x ≡ message_out s rx q from part
        go (yes h) = absurd (some-none (sym (count (Some (length m)) (fitted-in b c.tail m h)) ∙ z))
        go (no g) = let h = lt_of_not-le g in rw (bytes, put-out b c.tail m h) (simp (lt-leb _ _ h) at cases)

-- ---- a message, or a piece of it, was accepted

module _ (s : St) (q : Request) (from k : ℕ) (lent : List ℕ) where
  pub wrote-whole : k ≡ 0 → resumed s q from lent ≡ wrote_on s q from k lent
  unfolding wrote_on
  wrote-whole e = simp (eq-eqb _ _ e)

  module _ (n : k ≡ 0 → ⊥) (part : List ℕ) (e : part ≡ carried q from lent) (i : ℕ) (own : i ≡ id_for s.ses q) (p : Piece) (g : p ≡ piece_of i q (length part) k) where
    is : p ≡ piece_of (id_for s.ses q) q (length part) k
    is = g ∙ ap (λ (j : ℕ). piece_of j q (length part) k) own

    last : is_end p ≡ is_end (piece_of (id_for s.ses q) q (length (carried q from lent)) k)
    last = rw (is, e)

    pub wrote-last : is_end p ≡ true → resumed s q from lent ≡ wrote_on s q from k lent
    unfolding wrote_on
    wrote-last h = simp (ne_eqb _ _ n, sym last ∙ h)

    pub wrote-next : is_end p ≡ false → out (piece_sent s.ses q from (length part) k p) s.rx s.msg ≡ wrote_on s q from k lent
    unfolding wrote_on
    wrote-next h = simp (ne_eqb _ _ n, sym last ∙ h) (rw (is, e))

-- ---- what the goals of the code come from

pub ruleset data_next = (carried-room, data_on_lem)

pub ruleset accepted = (misfit-fits, guarded-in, piece_few, wrote-whole, wrote-last, wrote-next)
