-- The pieces of a message: what goes out for each, and that they are the plain reader's; the state that a message leaves.
-- Assumes nothing.
use Prim.Native.Nat.{ℕ, zero, suc, ◌+◌, ◌≤◌, ◌<◌}
use mathlib.Core.Bool.{Bool, true, false}
use mathlib.Core.List.{List, [], ◌∷◌, map, append-nil}
use mathlib.Core.Option.{Option, none, some}
use mathlib.Core.Path.{◌≡◌, refl, sym, ap, ◌∙◌}
use native.Mathlib.Nat.{add-zero}
use native.Mathlib.Omega.{arith}
use borrow.Author.Tests.{le-leb, lt-leb, ne_eqb}
use lib.Dec.{eqb, leb}
use lib.ListN.{length, get_or, take, drop}
use lib.Seq.{get_or-drop, drop-drop}
use Rattle.protocol.specs.Bytes.{pick, over}
use Rattle.protocol.specs.Calls.{cut_by}
use Rattle.protocol.specs.Ids.{Dialect}
use Rattle.ids.specs.Ids.{number_of, dialect_of}
use Rattle.ids.specs.declared.Ids.{Ids}
use Rattle.request_message.specs.Composed.{only, asked}
use Rattle.protocol.specs.Messages as M
use Rattle.protocol.specs.Messages.{header, nonempty, message_of, bytes_of_request, apart, pieces, data_most}
use Rattle.protocol.proofs.Bodies.{pick-cases}
use Rattle.protocol.proofs.Bytes.{over-length, over-there, put_in}
use Rattle.request_piece.specs.Pieces.{parts_of, piece_list, piece_of, shown}
use Rattle.request_piece.proofs.Laws.{pieces-shown}
use Rattle.request_piece.specs.declared.Piece.{Piece}
use Rattle.request_piece.specs.declared.Piece.TheVariants.{End}
use Rattle.recv_buf.specs.RecvBuf.{held_bytes}
use Rattle.recv_buf.specs.declared.RecvBuf.{RecvBuf}
use Rattle.recv_buf.proofs.Laws.{held-length, window-keeps, compacted-head}
use Rattle.request.specs.Meaning.{meant}
use Rattle.request.specs.declared.Request.{Request}
use Rattle.request.specs.declared.Request.TheVariants as Q
use Rattle.session.specs.declared.Pending.{Pending}
use Rattle.session.specs.declared.Pending.TheVariants.{Writing}
use Rattle.session.specs.declared.Reply.TheVariants as R
use Rattle.session.specs.State.{dialect_in, St, st, out, half, stepped, at, Good}
use Rattle.session.specs.Sends.{tidied, carried, id_for, send_piece, message_out, resumed, is_end, wrote_on}
use Rattle.session.proofs.Buf.{good-at, sound-of, good-tidied, held-tidied}
use Rattle.session.proofs.Turns.{held}

-- what goes out for a piece of a message that carries `part`
abbrev given : Option (List ℕ) → List ℕ
given none = []
given (some b) = b

abbrev pub bytes_in : List ℕ → Piece → List ℕ
bytes_in part p = given (shown part p)

given-shown : (part : List ℕ) (ps : List Piece) → map (bytes_in part) ps ≡ map given (map (shown part) ps)
given-shown part [] = refl
given-shown part (p ∷ ps) = ap (◌∷◌ (bytes_in part p)) (given-shown part ps)

given-some : (xs : List (List ℕ)) → map given (map some xs) ≡ xs
given-some [] = refl
given-some (x ∷ xs) = ap (◌∷◌ x) (given-some xs)

-- A message has one id: its header and its parts under the number of that are those in the table.
abbrev pub Split : Type 0
Split = List ℕ × List (List ℕ)

abbrev pub split_by : Dialect → M.Request → Split
split_by δ q = (header δ (message_of δ q), (message_of δ q).parts)

pub split-own : (t : Ids) (q : Request) (part : List ℕ) → split_by (only (number_of t (asked q))) (meant q part) ≡ split_by (dialect_of t) (meant q part)
unfolding message_of
split-own t Q.Stat part = refl
split-own t Q.Sta2 part = refl
split-own t Q.List part = refl
split-own t Q.Lis2 part = refl
split-own t Q.Recv part = refl
split-own t (Q.Rcv2 f) part = refl
split-own t (Q.Send m) part = refl
split-own t (Q.Snd2 m f) part = refl
split-own t Q.Data part = refl
split-own t (Q.Done m) part = refl
split-own t Q.Quit part = refl

apart-own : (t : Ids) (q : Request) (part : List ℕ) → apart (only (number_of t (asked q))) (meant q part) ≡ apart (dialect_of t) (meant q part)
unfolding apart
apart-own t q part = ap (λ (s : Split). s.0 ∷ nonempty s.1) (split-own t q part)

pub apart-pieces : (t : Ids) (q : Request) (part : List ℕ)
    → apart (dialect_of t) (meant q part) ≡ map (bytes_in part) (piece_list (number_of t (asked q)) q (length part))
apart-pieces t q part =
    let i : ℕ = number_of t (asked q) in
    let ps : List Piece = piece_list i q (length part) in
    sym (given-shown part ps ∙ ap (map given) (pieces-shown i q part) ∙ given-some (apart (only i) (meant q part)) ∙ apart-own t q part)

-- ---- the pieces one by one

-- pieces that go out, at most m of them
abbrev pub Sent : ℕ → List Piece → Type 0
Sent m [] = Unit {0}
Sent zero (p ∷ ps) = ⊥
Sent (suc m) (p ∷ ps) = (is_end p ≡ false) × Sent m ps

sent-more : (m : ℕ) (ps : List Piece) → Sent m ps → Sent (suc m) ps
sent-more m [] h = tt
sent-more zero (p ∷ ps) h = absurd h
sent-more (suc m) (p ∷ ps) h = (h.0, sent-more m ps h.1)

parts-sent : (b : Bool) (ps : List Piece) → Sent 4 ps → Sent 4 (pick b (drop 1 ps) ps)
parts-sent true [] h = tt
parts-sent true (p ∷ ps) h = sent-more 3 ps h.1
parts-sent false ps h = h

pub pieces-sent : (i : ℕ) (q : Request) (n : ℕ) → Sent 5 (piece_list i q n)
unfolding piece_list
pieces-sent i Q.Stat n = (refl, parts-sent (eqb n 0) (parts_of i Q.Stat) (refl, tt))
pieces-sent i Q.Sta2 n = (refl, parts-sent (eqb n 0) (parts_of i Q.Sta2) (refl, tt))
pieces-sent i Q.List n = (refl, parts-sent (eqb n 0) (parts_of i Q.List) (refl, tt))
pieces-sent i Q.Lis2 n = (refl, parts-sent (eqb n 0) (parts_of i Q.Lis2) (refl, tt))
pieces-sent i Q.Recv n = (refl, parts-sent (eqb n 0) (parts_of i Q.Recv) (refl, tt))
pieces-sent i (Q.Rcv2 f) n = (refl, parts-sent (eqb n 0) (parts_of i (Q.Rcv2 f)) (refl, (refl, (refl, tt))))
pieces-sent i (Q.Send m) n = (refl, parts-sent (eqb n 0) (parts_of i (Q.Send m)) (refl, (refl, (refl, tt))))
pieces-sent i (Q.Snd2 m f) n = (refl, parts-sent (eqb n 0) (parts_of i (Q.Snd2 m f)) (refl, (refl, (refl, (refl, tt)))))
pieces-sent i Q.Data n = (refl, parts-sent (eqb n 0) (parts_of i Q.Data) (refl, tt))
pieces-sent i (Q.Done t) n = (refl, parts-sent (eqb n 0) [] tt)
pieces-sent i Q.Quit n = (refl, parts-sent (eqb n 0) [] tt)

-- nothing follows the header of a message that has no parts
pub rest-none : (i : ℕ) (q : Request) (n : ℕ) → parts_of i q ≡ [] → drop 1 (piece_list i q n) ≡ []
unfolding piece_list
rest-none i q n e = rw e (pick-cases (λ (ps : List Piece). ps ≡ []) (eqb n 0) (λ _. refl) (λ _. refl))

-- the k-th piece, where the rest of the list from there on is known, and the rest behind that
pub piece-at : (j : ℕ) (q : Request) (n k : ℕ) (r : List Piece) → drop k (piece_list j q n) ≡ r → piece_of j q n k ≡ get_or r 0 End
unfolding piece_of
piece-at j q n k r e =
    ap (λ (i : ℕ). get_or (piece_list j q n) i End) (sym (add-zero k)) ∙ sym (get_or-drop k (piece_list j q n) 0 End) ∙ ap (λ (y : List Piece). get_or y 0 End) e

pub drop-rest : (l r : List Piece) (k : ℕ) → drop k l ≡ r → drop (k + 1) l ≡ drop 1 r
drop-rest l r k e = sym (drop-drop 1 k l) ∙ ap (drop 1) e

-- a piece was accepted: the last, or one that has another behind it
module _ (t : St) (q : Request) (from k : ℕ) (lent : List ℕ) (some : 0 < k) where
  abbrev count : ℕ
  count = length (carried q from lent)

  pub wrote-last : drop k (piece_list (id_for t.ses q) q count) ≡ [] → wrote_on t q from k lent ≡ resumed t q from lent
  unfolding wrote_on
  wrote-last e = rw (ne_eqb k 0 (omega arith), ap is_end (piece-at (id_for t.ses q) q count k [] e))

  pub wrote-more : (p : Piece) (ps : List Piece) → drop k (piece_list (id_for t.ses q) q count) ≡ p ∷ ps → is_end p ≡ false
      → wrote_on t q from k lent ≡ out (send_piece t.ses q from count k) t.rx t.msg
  unfolding wrote_on
  wrote-more p ps e z = rw (ne_eqb k 0 (omega arith), ap is_end (piece-at (id_for t.ses q) q count k (p ∷ ps) e) ∙ z)

-- ---- a message in the free end

module _ (s : St) (good : Good s) (m : List ℕ) where
  -- the free end, behind the held bytes at the front
  free_end : (tidied s).ses.buf.tail ≡ length (held s)
  free_end =
      let sound = sound-of s good in
      ap (λ (c : RecvBuf). c.tail) (compacted-head s.rx s.ses.buf sound) ∙ sym (held-length s.rx s.ses.buf sound)

  module _ (fits : length (held s) + length m ≤ s.ses.capacity) where
    inside : (tidied s).ses.buf.tail + length m ≤ length (tidied s).rx
    inside = omega (arith, free_end, good-tidied s good)

    pub placed-good : (p : Pending) → Good (st (at s.ses (tidied s).ses.buf p) (over (tidied s).rx (tidied s).ses.buf.tail m) s.msg)
    placed-good p =
        let g : Good (tidied s) = good-tidied s good in
        good-at (tidied s) (tidied s).ses.buf (over (tidied s).rx (tidied s).ses.buf.tail m) s.msg p g g.order g.inside
        (over-length (tidied s).rx (tidied s).ses.buf.tail m inside) refl

    pub placed-held : held_bytes (over (tidied s).rx (tidied s).ses.buf.tail m) (tidied s).ses.buf ≡ held s
    placed-held = window-keeps (tidied s).rx (tidied s).ses.buf (sound-of (tidied s) (good-tidied s good)) m inside ∙ held-tidied s good

    pub placed-there : take (length m) (drop (tidied s).ses.buf.tail (over (tidied s).rx (tidied s).ses.buf.tail m)) ≡ m
    placed-there = over-there (tidied s).rx (tidied s).ses.buf.tail m inside

    pub placed-inside : (tidied s).ses.buf.tail + length m ≤ length (over (tidied s).rx (tidied s).ses.buf.tail m)
    placed-inside = rw (over-length (tidied s).rx (tidied s).ses.buf.tail m inside) inside

-- a message that fits the free end goes out whole, any other in pieces
module _ (s : St) (good : Good s) (q : Request) (from : ℕ) (part : List ℕ) where
  abbrev bytes : List ℕ
  bytes = bytes_of_request (dialect_in s.ses) (meant q part)

  pub message-whole : length (held s) + length bytes ≤ s.ses.capacity
      → message_out s.ses s.rx q from part
      ≡ half (stepped (at s.ses (tidied s).ses.buf (Writing q from 0)) (R.WriteRx (tidied s).ses.buf.tail (length bytes)))
      (over (tidied s).rx (tidied s).ses.buf.tail bytes)
  unfolding message_out
  message-whole h =
      let i : (tidied s).ses.buf.tail + length bytes ≤ length (tidied s).rx = inside s good bytes h in
      rw (le-leb _ _ i, put_in (tidied s).rx (tidied s).ses.buf.tail bytes i)

  pub message-apart : s.ses.capacity < length (held s) + length bytes
      → message_out s.ses s.rx q from part ≡ half (send_piece (tidied s).ses q from (length part) 0) (tidied s).rx
  unfolding message_out
  message-apart h =
      let i : length (tidied s).rx < (tidied s).ses.buf.tail + length bytes = omega (arith, free_end s good bytes, good-tidied s good) in
      rw (lt-leb _ _ i)

-- the pieces of the plain reader: the same two cases, and a message that is a header only
module _ (δ : Dialect) (free : ℕ) (q : M.Request) where
  pub pieces_whole : length (bytes_of_request δ q) ≤ free → pieces δ free q ≡ bytes_of_request δ q ∷ []
  unfolding pieces
  pieces_whole h = rw (le-leb _ _ h)

  pub pieces-apart : free < length (bytes_of_request δ q) → pieces δ free q ≡ apart δ q
  unfolding pieces
  pieces-apart h = rw (lt-leb _ _ h)

  pub pieces-bare : (message_of δ q).parts ≡ [] → pieces δ free q ≡ apart δ q
  unfolding pieces apart bytes_of_request
  pieces-bare e = rw (e, append-nil) (go (leb (length (header δ (message_of δ q))) free))
    where
      go : {x : List (List ℕ)} (b : Bool) → pick b x x ≡ x
      go true = refl
      go false = refl

-- ---- data, cut

-- the first n, or as many of them as there are
pub take-taken : (n : ℕ) (l : List ℕ) → take (length (take n l)) l ≡ take n l
take-taken zero l = refl
take-taken (suc n) [] = refl
take-taken (suc n) (x ∷ l) = ap (◌∷◌ x) (take-taken n l)

-- ... and what is left behind them
drop-taken : (n : ℕ) (l : List ℕ) → drop (length (take n l)) l ≡ drop n l
drop-taken zero l = refl
drop-taken (suc n) [] = refl
drop-taken (suc n) (x ∷ l) = drop-taken n l

-- the message of some data x that begins at `from`, and where the next one begins
module _ (x : List ℕ) (from : ℕ) where
  pub part-is : carried Q.Data from x ≡ take data_most (drop from x)
  unfolding carried
  part-is = refl

  abbrev pub next : ℕ
  next = from + length (carried Q.Data from x)

  pub next-is : drop next x ≡ drop data_most (drop from x)
  next-is =
      sym (drop-drop (length (carried Q.Data from x)) from x) ∙ ap (λ (y : List ℕ). drop (length y) (drop from x)) part-is ∙ drop-taken data_most
      (drop from x)

-- the messages: none, or the first and those of the rest
pub cut-none : (m : ℕ) (x : List ℕ) → length x ≡ 0 → cut_by m x ≡ []
cut-none zero x e = refl
cut-none (suc m) [] e = refl
cut-none (suc m) (b ∷ x) e = absurd (omega arith)

cut-first : (m : ℕ) (x : List ℕ) → 0 < length x → cut_by (suc m) x ≡ take data_most x ∷ cut_by m (drop data_most x)
cut-first m [] h = absurd (omega arith)
cut-first m (b ∷ x) h = refl

pub cut-some : (m : ℕ) (x : List ℕ) (from : ℕ) → 0 < length (drop from x)
    → cut_by (suc m) (drop from x) ≡ carried Q.Data from x ∷ cut_by m (drop (next x from) x)
cut-some m x from h =
    cut-first m (drop from x) h ∙ ap (λ (y : List ℕ). y ∷ cut_by m (drop data_most (drop from x))) (sym (part-is x from))
    ∙ ap (λ (y : List ℕ). carried Q.Data from x ∷ cut_by m y) (sym (next-is x from))
