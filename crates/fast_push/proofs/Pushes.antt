-- What follows an accepted write of a DATA message, taken at once: this is its crossing. Assumes nothing.
use mathlib.Core.Bool.{Bool, true, false, not, ◌&&◌, and-eq-true_iff}
use mathlib.Core.List.{List, [], ◌∷◌, ◌++◌, append-nil}
use mathlib.Core.Path.{◌≡◌, refl, sym, ap, ◌∙◌}
use Prim.Native.Nat.{ℕ, ◌+◌, ◌-◌, ◌≤◌, ◌<◌}
use native.Mathlib.Omega.{arith}
use borrow.Author.Tests.{ne_eqb, eqb-true, ltb-true, leb-true, leb-false, not-true}
use lib.Dec.{eqb, ltb}
use lib.ListN.{length, drop, get_or, length-take}
use Rattle.protocol.specs.Bytes.{pick, put}
use Rattle.protocol.specs.Ids.{DATA}
use Rattle.protocol.specs.Messages.{data_most, word, message_of, bytes_of_request}
use Rattle.protocol.proofs.Bytes.{put-out}
use Rattle.ids.specs.Ids.{number_of}
use Rattle.ids.specs.declared.Ids.{Ids}
use Rattle.boundary.specs.Crossing.{crossed, back, cross_wrote}
use Rattle.boundary.specs.Told.{reply_number, out_size}
use Rattle.fast_replies.specs.Direct.{tried}
use Rattle.fast_replies.proofs.Taken.{ses, head-same, tail-same, lent_same, pending-at, no-report_refusal, done-tried, written-tried}
use Rattle.request_message.proofs.Laws.{front_bytes}
use Rattle.std.specs.Prelude.{Option, Some, None}
use Rattle.decimal.proofs.Fitted.{fitted-in, fitted-out}
use Rattle.request_message.specs.Composed.{only, placed}
use Rattle.request_piece.proofs.Laws.{piece-part}
use Rattle.request_piece.specs.Pieces.{header_of, piece_list, piece_of}
use Rattle.request_piece.specs.declared.Piece.TheVariants.{Lent, End}
use Rattle.recv_buf.proofs.Laws.{compacted-front}
use Rattle.recv_buf.specs.RecvBuf.{cursor, compacted}
use Rattle.request.specs.Meaning.{meant}
use Rattle.request.specs.declared.Request.TheVariants as Q
use Rattle.session_sender.proofs.Laws.{bytes-own, wrote-whole, wrote-last, wrote-next, whole_out, pieces-out}
use Rattle.session.specs.Reports.{refusal_at, wrote_at, report_wrote}
use Rattle.session.specs.State as S
use Rattle.session.specs.State.{St, st, Half, beside, stepped, at, begun}
use Rattle.session.specs.Sends.{carried, id_for, message_out, sent, resumed, wrote_on}
use Rattle.session.specs.declared.Pending.{Pending}
use Rattle.session.specs.declared.Pending.TheVariants.{Writing}
use Rattle.session.specs.declared.Reply.{Reply}
use Rattle.session.specs.declared.Reply.TheVariants as R
use Rattle.fast_record.specs.Standing.{number_in, ids_held, Stands, fits}
use Rattle.fast_record.proofs.Laws.{number-in, ids-held, fits-true}
use Rattle.fast_push.specs.Pushing.{accepted, part_in, next_in, next_part, push_step, part_done, part_now, has_room, goes_on, data_id, header_goes, header_done, header_now, whole_goes, next_bytes, whole_done, whole_now}

-- the tests, taken apart
pub record Accepted (rec : List ℕ) (x m l k o : ℕ) : Type 0 where
  pub state : number_in rec 7 ≡ 9
  pub piece : number_in rec 11 ≡ k
  pub stands : Stands rec x m
  pub same : l ≡ number_in rec 4
  pub room : out_size ≤ o

pub accepted-of : (rec : List ℕ) (x m l k o : ℕ) → accepted rec x m l k o ≡ true → Accepted rec x m l k o
accepted-of rec x m l k o e =
    let (a, f) = (and-eq-true_iff (eqb (number_in rec 7) 9 && eqb (number_in rec 11) k) (fits rec x m l o)).0 e in
    let (t, p) = (and-eq-true_iff (eqb (number_in rec 7) 9) (eqb (number_in rec 11) k)).0 a in
    let (h, n, r) = fits-true rec x m l o f in
    record { state = eqb-true _ _ t; piece = eqb-true _ _ p; stands = h; same = n; room = r }

pub stands-inside : (rec : List ℕ) (x m : ℕ) → Stands rec x m → number_in rec 3 ≤ x
stands-inside rec x m h = omega (arith, h.inside, h.rx)

-- a message of data is its header and the data
data_length : (i : ℕ) (x : List ℕ) → length (bytes_of_request (only i) (meant Q.Data x)) ≡ 8 + length x
unfolding bytes_of_request message_of
data_length i x = ap (λ (l : List ℕ). length (word i ++ word (length x) ++ l)) (append-nil x) ∙ front_bytes i (length x) x

-- ... and has two pieces
second-end : (i n : ℕ) → End ≡ piece_of i Q.Data n 2
unfolding piece_of piece_list
second-end i n = go (eqb n 0)
  where
    go : (b : Bool) → End ≡ get_or (header_of i Q.Data n ∷ pick b [] (Lent ∷ [])) 2 End
    go true = refl
    go false = refl

-- none carries more
pub at_most : (from : ℕ) (lent : List ℕ) → length (carried Q.Data from lent) ≤ data_most
unfolding carried
at_most from lent = omega (arith, length-take data_most (drop from lent))

-- what one carries, as the code reads it
pub read_at_lem : (lent : List ℕ) {f g : ℕ} {p : List ℕ} → p ≡ carried Q.Data f lent → f ≡ g → p ≡ carried Q.Data g lent
read_at_lem lent q e = q ∙ ap (λ (k : ℕ). carried Q.Data k lent) e

-- the next message, as it is composed
pub composed-whole : (rec rx lent : List ℕ) {at i : ℕ} {o : Option ℕ} {p x : List ℕ} → (x, o) ≡ placed rx at (bytes_of_request (only i) (meant Q.Data p))
    → i ≡ data_id rec → at ≡ number_in rec 3 → p ≡ next_part rec lent → number_in rec 3 ≤ length rx
    → has_room rec (length rx) (length (next_part rec lent)) ≡ true
    → ◌≡◌ {A = List ℕ × Option ℕ} (x, o) (put rx (number_in rec 3) (next_bytes rec lent), Some (8 + length (next_part rec lent)))
composed-whole rec rx lent q d a e i f =
    let part = next_part rec lent in
    let m = next_bytes rec lent in
    let r = leb-true (8 + length part) (length rx - number_in rec 3) f in
    let own = bytes-own (ids_held rec) Q.Data part in
    let l : length m ≡ 8 + length part = ap length (sym own) ∙ data_length (data_id rec) part in
    let room : number_in rec 3 + length m ≤ length rx = omega (arith, r, i, l) in
    q ∙ rw (d, a, e, own, fitted-in rx (number_in rec 3) m room, l)

module _ (rec rx msg lent out : List ℕ) (k : ℕ) (e : accepted rec (length rx) (length msg) (length lent) k (length out) ≡ true) where
  a : Accepted rec (length rx) (length msg) (length lent) k (length out)
  a = accepted-of rec (length rx) (length msg) (length lent) k (length out) e

  h : Stands rec (length rx) (length msg)
  h = a.stands

  abbrev from : ℕ
  from = number_in rec 10

  abbrev s : St
  s = st (ses rec rx msg h) rx msg

  writes : (ses rec rx msg h).pending ≡ Writing Q.Data from k
  writes = rw (number-in rec 10 h.sized, ← a.piece, number-in rec 11 h.sized) (pending-at rec rx msg h 9 a.state)

  let_in : refusal_at s (length lent) ≡ 0
  let_in = no-report_refusal rec rx msg h (length lent) a.same _ writes refl

  -- its number of DATA is the record's
  own : data_id rec ≡ id_for (ses rec rx msg h) Q.Data
  own = ap (λ (t : Ids). number_of t DATA) (sym (ids-held rec (length rx) (length msg) h))

  -- the step, by the session's own definitions
  wrote-data : wrote_on s Q.Data from k lent ≡ report_wrote s lent
  unfolding report_wrote wrote_at
  wrote-data = rw let_in (sym (ap (λ (p : Pending). wrote_at p s lent) writes))

  -- the session as the code puts it back
  place : (p : Pending) (r : Reply) (new : List ℕ)
      → S.out (stepped (at (begun (ses rec rx msg h) (number_in rec 4)) (cursor (number_in rec 2) (number_in rec 3)) p) r) new msg
      ≡ S.out (stepped (at (ses rec rx msg h) (ses rec rx msg h).buf p) r) new msg
  place p r new = rw (head-same rec rx msg h, tail-same rec rx msg h, lent_same rec rx msg h)

  -- the next message, before which nothing is moved
  module _ (last : resumed s Q.Data from lent ≡ wrote_on s Q.Data from k lent) (g : goes_on rec lent ≡ true) where
    parted : (eqb (number_in rec 2) 0 ≡ true) × (ltb 0 (length (next_part rec lent)) ≡ true)
    parted = (and-eq-true_iff (eqb (number_in rec 2) 0) (ltb 0 (length (next_part rec lent)))).0 g

    front : (rx, (ses rec rx msg h).buf) ≡ compacted rx (ses rec rx msg h).buf
    front = sym (compacted-front rx (ses rec rx msg h).buf (sym (head-same rec rx msg h) ∙ eqb-true _ _ parted.0))

    sends : beside (message_out (ses rec rx msg h) rx Q.Data (next_in rec lent) (next_part rec lent)) msg ≡ report_wrote s lent
    unfolding resumed sent
    sends = rw (ne_eqb (length (next_part rec lent)) 0 (λ z. omega (arith, ltb-true 0 (length (next_part rec lent)) parted.1, z))) at (last ∙ wrote-data)

-- ---- the header was accepted

module _ (rec rx msg lent out : List ℕ) (e : accepted rec (length rx) (length msg) (length lent) 1 (length out) ≡ true) where
  part-stepped : 0 < length (part_in rec lent)
      → S.out (stepped (at (ses rec rx msg (h rec rx msg lent out 1 e)) (ses rec rx msg (h rec rx msg lent out 1 e)).buf (Writing Q.Data (number_in rec 10) 2)) (R.WriteLent (number_in rec 10) (length (part_in rec lent)))) rx msg
      ≡ report_wrote (s rec rx msg lent out 1 e) lent
  part-stepped z =
      wrote-next (s rec rx msg lent out 1 e) Q.Data (number_in rec 10) 1 lent (λ q. omega (arith, q)) (part_in rec lent) refl (data_id rec)
      (own rec rx msg lent out 1 e) Lent (piece-part (data_id rec) Q.Data (length (part_in rec lent)) 1 (λ q. omega (arith, q)) (λ q. omega (arith, z, q))) refl
      ∙ wrote-data rec rx msg lent out 1 e

  pub part-tried : (t : Bool) (new told : List ℕ) → (t, new, told) ≡ part_done rec lent out
      → (t, crossed new rx msg told 3) ≡ tried (part_now rec rx msg lent out) (cross_wrote rec rx msg lent out) (crossed rec rx msg out 3)
  unfolding cross_wrote reply_number
  part-tried t new told d =
      let n = length (part_in rec lent) in
      let r = R.WriteLent (number_in rec 10) n in
      let p = Writing Q.Data (number_in rec 10) 2 in
      done-tried rec rx msg out (h rec rx msg lent out 1 e) (a rec rx msg lent out 1 e).room (λ s. back rec out (report_wrote s lent)) (number_in rec 2)
      (number_in rec 3) (number_in rec 4) 3 (push_step (number_in rec 10) 2) p r refl refl refl (ltb 0 n) (part_now rec rx msg lent out) t new told (rw e)
      (λ z. ap (back rec out) (place rec rx msg lent out 1 e p r rx ∙ part-stepped (ltb-true 0 n z)))
      d

-- ---- the data was accepted

module _ (rec rx msg lent out : List ℕ) (e : accepted rec (length rx) (length msg) (length lent) 2 (length out) ≡ true) where
  abbrev u : St
  u = s rec rx msg lent out 2 e

  last : resumed u Q.Data (number_in rec 10) lent ≡ wrote_on u Q.Data (number_in rec 10) 2 lent
  last = wrote-last u Q.Data (number_in rec 10) 2 lent (λ q. omega (arith, q)) (part_in rec lent) refl (data_id rec) (own rec rx msg lent out 2 e) End
      (second-end (data_id rec) (length (part_in rec lent))) refl

  header-stepped : header_goes rec rx lent ≡ true
      → S.out (stepped (at u.ses u.ses.buf (Writing Q.Data (next_in rec lent) 1)) (R.WriteBytes (header_of (data_id rec) Q.Data (length (next_part rec lent))))) rx msg
      ≡ report_wrote u lent
  unfolding piece_of piece_list
  header-stepped z =
      let v = h rec rx msg lent out 2 e in
      let part = next_part rec lent in
      let (g, f) = (and-eq-true_iff (goes_on rec lent) (not (has_room rec (length rx) (length part)))).0 z in
      let w = leb-false (8 + length part) (length rx - number_in rec 3) (not-true _ f) in
      let i = own rec rx msg lent out 2 e in
      let m = bytes_of_request (only (data_id rec)) (meant Q.Data part) in
      let short : length rx < u.ses.buf.tail + length m = omega (arith, w, tail-same rec rx msg v, data_length (data_id rec) part, stands-inside rec (length rx) (length msg) v) in
      rw i
      (ap (λ (o : Half). beside o msg)
      (pieces-out u.ses rx Q.Data (next_in rec lent) part rx u.ses.buf (front rec rx msg lent out 2 e last g) (data_id rec) i rx None
      (rw (put-out rx u.ses.buf.tail m short, fitted-out rx u.ses.buf.tail m short)) refl)
      ∙ sends rec rx msg lent out 2 e last g)

  pub header-tried : (t : Bool) (new told : List ℕ) → (t, new, told) ≡ header_done rec rx lent out
      → (t, crossed new rx msg told 4) ≡ tried (header_now rec rx msg lent out) (cross_wrote rec rx msg lent out) (crossed rec rx msg out 4)
  unfolding cross_wrote reply_number
  header-tried t new told d =
      let r = R.WriteBytes (header_of (data_id rec) Q.Data (length (next_part rec lent))) in
      let p = Writing Q.Data (next_in rec lent) 1 in
      done-tried rec rx msg out (h rec rx msg lent out 2 e) (a rec rx msg lent out 2 e).room (λ s. back rec out (report_wrote s lent)) (number_in rec 2)
      (number_in rec 3) (number_in rec 4) 4 (push_step (next_in rec lent) 1) p r refl refl refl (header_goes rec rx lent) (header_now rec rx msg lent out) t new told (rw e)
      (λ z. ap (back rec out) (place rec rx msg lent out 2 e p r rx ∙ header-stepped z))
      d

-- ---- a message that was composed whole was accepted

module _ (rec rx msg lent out : List ℕ) (e : accepted rec (length rx) (length msg) (length lent) 0 (length out) ≡ true) where
  abbrev w : St
  w = s rec rx msg lent out 0 e

  abbrev composed : List ℕ
  composed = put rx (number_in rec 3) (next_bytes rec lent)

  whole-stepped : whole_goes rec rx lent ≡ true
      → S.out (stepped (at w.ses w.ses.buf (Writing Q.Data (next_in rec lent) 0)) (R.WriteRx (number_in rec 3) (8 + length (next_part rec lent)))) composed msg
      ≡ report_wrote w lent
  whole-stepped z =
      let v = h rec rx msg lent out 0 e in
      let part = next_part rec lent in
      let (g, f) = (and-eq-true_iff (goes_on rec lent) (has_room rec (length rx) (length part))).0 z in
      let y = tail-same rec rx msg v in
      let whole = wrote-whole w Q.Data (number_in rec 10) 0 lent refl in
      let c = composed-whole rec rx lent {at = number_in rec 3} {i = data_id rec} {p = part} refl refl refl refl (stands-inside rec (length rx) (length msg) v) f in
      rw y
      (ap (λ (o : Half). beside o msg)
      (whole_out w.ses rx Q.Data (next_in rec lent) part rx w.ses.buf (front rec rx msg lent out 0 e whole g) (data_id rec) (own rec rx msg lent out 0 e)
      (put rx w.ses.buf.tail (next_bytes rec lent)) (Some (8 + length part)) (sym (rw y at c)) (8 + length part) refl)
      ∙ sends rec rx msg lent out 0 e whole g)

  pub whole-tried : (t : Bool) (new rx' told : List ℕ) → (t, new, rx', told) ≡ whole_done rec rx lent out
      → (t, crossed new rx' msg told 2) ≡ tried (whole_now rec rx msg lent out) (cross_wrote rec rx msg lent out) (crossed rec rx msg out 2)
  unfolding cross_wrote reply_number
  whole-tried t new rx' told d =
      let r = R.WriteRx (number_in rec 3) (8 + length (next_part rec lent)) in
      let p = Writing Q.Data (next_in rec lent) 0 in
      written-tried rec rx msg out (h rec rx msg lent out 0 e) (a rec rx msg lent out 0 e).room (λ s. back rec out (report_wrote s lent)) (number_in rec 2)
      (number_in rec 3) (number_in rec 4) 2 (push_step (next_in rec lent) 0) p r refl refl refl composed (whole_goes rec rx lent) (whole_now rec rx msg lent out) t new rx' told (rw e)
      (λ z. ap (back rec out) (place rec rx msg lent out 0 e p r composed ∙ whole-stepped z))
      d
