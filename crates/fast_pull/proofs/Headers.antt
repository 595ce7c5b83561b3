-- A read that completes a chunk's header, whose body is then awaited: taken at once, it is its crossing. Assumes nothing.
use mathlib.Core.Bool.{Bool, true, false, ◌&&◌, and-eq-true_iff}
use mathlib.Core.List.{List}
use mathlib.Core.Path.{◌≡◌, refl, sym, ◌∙◌}
use Prim.Native.Nat.{ℕ, ◌+◌, ◌-◌, ◌≤◌, ◌<◌}
use native.Mathlib.Nat.{add-zero}
use native.Mathlib.Omega.{arith}
use borrow.Author.Tests.{le-leb, eq-eqb, ltb-true, leb-true}
use lib.Dec.{ltb, leb}
use lib.ListN.{length, drop}
use Rattle.protocol.specs.Bytes.{same}
use Rattle.protocol.specs.Ids.{Dialect, FAIL, DATA}
use Rattle.protocol.specs.Records.{id_at, arg_at}
use Rattle.boundary.specs.Crossing.{crossed, back_read, cross_read}
use Rattle.boundary.specs.Told.{reply_number, out_size}
use Rattle.fast_replies.specs.Direct.{tried, dialect_held, heads, met_by, came_in}
use Rattle.fast_replies.proofs.Arrivals.{Met, met_of, came, good-came, read-met}
use Rattle.fast_replies.proofs.Taken.{ses, head-same, tail-same, dialect-same, lent_same, pending-at, done-tried}
use Rattle.fast_replies.proofs.Whole.{Heads, heads-of, dropped, turn_goes, turn_asks, sees, id-seen}
use Rattle.record.proofs.Numbers.{one-forth}
use Rattle.record.specs.Fields.{is_one, step_numbers}
use Rattle.record.specs.Record.{word_of}
use Rattle.recv_buf.specs.RecvBuf.{cursor, held_bytes}
use Rattle.recv_buf.proofs.Laws.{held-length}
use Rattle.session.proofs.Buf.{arg-in, sound-of}
use Rattle.session.specs.Phases.{wants, going, headed, turn_at}
use Rattle.session.specs.State as S
use Rattle.session.specs.State.{dialect_in, St, stepped, at, begun, Good}
use Rattle.session.specs.Steps.{reading, read_on}
use Rattle.session.specs.declared.Pending.TheVariants.{Reading}
use Rattle.session.specs.declared.Phase.TheVariants.{Header, Body}
use Rattle.session.specs.declared.Reply.TheVariants as R
use Rattle.session.specs.declared.Want.TheVariants as W
use Rattle.std.specs.Prelude.{Option, Some, None}
use Rattle.fast_record.proofs.Found.{none-found, some_found}
use Rattle.fast_record.specs.Found.{found}
use Rattle.fast_record.specs.Standing.{number_in, Stands, step_of}
use Rattle.fast_record.proofs.Laws.{number-in, stands-in}
use Rattle.fast_pull.specs.Chunks.{body_short, short_length, header_came, header_done, header_now}

-- `body_short`, taken apart
pub record Short (d : Dialect) (x : List ℕ) (c : ℕ) : Type 0 where
  pub header : Heads d (d.bytes DATA) x
  pub fits : 8 + arg_at x ≤ c
  pub cut : length x < 8 + arg_at x

module _ (d : Dialect) (x : List ℕ) (c : ℕ) where
  pub short-of : body_short d x c ≡ true → Short d x c
  short-of e =
      let (a, s) = (and-eq-true_iff (heads d (d.bytes DATA) x && leb (8 + arg_at x) c) (ltb (length x) (8 + arg_at x))).0 e in
      let (b, f) = (and-eq-true_iff (heads d (d.bytes DATA) x) (leb (8 + arg_at x) c)).0 a in
      record { header = heads-of d (d.bytes DATA) x b; fits = leb-true _ _ f; cut = ltb-true _ _ s }

  -- the cases of `short_length`, as the code tells them apart
  pub length-out : body_short d x c ≡ false → 0 ≡ short_length d x c
  unfolding short_length
  length-out e = rw e

  pub length-in : body_short d x c ≡ true → 8 + arg_at x ≡ short_length d x c
  unfolding short_length
  length-in e = rw e

  module _ (r : Option ℕ) (f : r ≡ found (short_length d x c)) where
    pub not_short : r ≡ None → body_short d x c ≡ false
    not_short z = go (body_short d x c) refl
      where
        go : (b : Bool) → body_short d x c ≡ b → b ≡ false
        go true p = let i = length-in p in absurd (omega (arith, none-found (short_length d x c) f z, i))
        go false p = refl

    pub short-at : {n : ℕ} → r ≡ Some n → (body_short d x c ≡ true) × (n ≡ 8 + arg_at x)
    short-at {n = n} z = let (h, l) = some_found (short_length d x c) f z in go (body_short d x c) refl h l
      where
        go : (b : Bool) → body_short d x c ≡ b → short_length d x c ≡ n → 0 < n → (b ≡ true) × (n ≡ 8 + arg_at x)
        go true p h l = (refl, sym h ∙ sym (length-in p))
        go false p h l = let i = length-out p in absurd (omega (arith, h, i, l))

-- the numbers of the step, as the code has them
pub awaited : (flag f until u register n : ℕ) → flag ≡ f → until ≡ u → register ≡ n → step_of 28 flag until 0 0 register ≡ step_of 28 f u 0 0 n
awaited flag f until u register n p q r = rw (p, q, r)

-- ---- in a session

chunk-header : (d : Dialect) (c : ℕ) (rx : List ℕ) (i : ℕ) → same (id_at (drop i rx)) (d.bytes FAIL) ≡ false → same (id_at (drop i rx)) (d.bytes DATA) ≡ true
    → turn_at d c (Header W.Chunk) rx i ≡ going 0 (Body (arg_at (drop i rx)))
unfolding turn_at headed
chunk-header d c rx i f e = rw (f, e)

module _ (s : St) (g : Good s) where
  abbrev x : List ℕ
  x = held_bytes s.rx s.ses.buf

  abbrev y : List ℕ
  y = drop s.ses.buf.head s.rx

  abbrev d : Dialect
  d = dialect_in s.ses

  -- the header is held, and the rest is read for
  rest-asked : (lost : Bool) → s.ses.buf.tail < s.ses.capacity → Short d x s.ses.capacity
      → read_on s (Header W.Chunk) lost ≡ S.out (reading s.ses s.ses.buf.head s.ses.buf.tail (Body (arg_at x)) lost) s.rx s.msg
  unfolding wants
  rest-asked lost room w =
      let c = s.ses.capacity in
      let i = s.ses.buf.head in
      let l = held-length s.rx s.ses.buf (sound-of s g) in
      let there : 8 ≤ s.ses.buf.tail - s.ses.buf.head = omega (arith, w.header.sized) in
      let f = id-seen s g (d.bytes FAIL) there w.header.apart in
      let e = id-seen s g (d.bytes DATA) there w.header.id in
      let n = sees s g arg_at 8 arg-in there in
      turn_goes s (Header W.Chunk) lost g.least there 3 0 (Body (arg_at y)) (chunk-header d c s.rx i f e)
      ∙ turn_asks (dropped s 0) (Body (arg_at y)) lost 2 (omega (arith, w.fits, n)) (omega (arith, w.cut, n)) room
      ∙ rw (add-zero i, n)

module _ (rec rx msg lent out : List ℕ) (h : Stands rec (length rx) (length msg)) (o : out_size ≤ length out)
    (same' : length lent ≡ number_in rec 4) (state : number_in rec 7 ≡ 17) where
  abbrev lost : Bool
  lost = is_one (word_of rec 8)

  awaits : (ses rec rx msg h).pending ≡ Reading (Header W.Chunk) (word_of rec 9) lost
  awaits = pending-at rec rx msg h 17 state

  module _ (k : ℕ) (m : Met rec rx k) (room : number_in rec 3 + k < length rx) (w : Short (dialect_held rec) (came_in rec rx k) (length rx)) where
    abbrev t : St
    t = came rec rx msg h k

    header-stepped : S.out (reading t.ses t.ses.buf.head t.ses.buf.tail (Body (arg_at (held_bytes rx t.ses.buf))) lost) rx msg
        ≡ read_on t (Header W.Chunk) lost
    header-stepped =
        let g = good-came rec rx msg h k m in
        let j = tail-same rec rx msg h in
        sym (rest-asked t g lost (omega (arith, room, j, g.rx)) (rw (head-same rec rx msg h, tail-same rec rx msg h, dialect-same rec rx msg h, g.rx) at w))

    place : S.out (stepped (at (begun (ses rec rx msg h) (number_in rec 4)) (cursor (number_in rec 2) (number_in rec 3 + k))
        (Reading (Body (arg_at (came_in rec rx k))) (number_in rec 2 + (8 + arg_at (came_in rec rx k))) lost)) (R.Read (number_in rec 3 + k) (length rx - (number_in rec 3 + k)))) rx msg
        ≡ S.out (reading t.ses t.ses.buf.head t.ses.buf.tail (Body (arg_at (held_bytes rx t.ses.buf))) lost) rx msg
    unfolding wants
    place = let g = good-came rec rx msg h k m in rw (head-same rec rx msg h, tail-same rec rx msg h, lent_same rec rx msg h, g.rx)

  -- the flag of the step is the record's
  numbers : (n until : ℕ) → step_numbers (Reading (Body n) until lost) ≡ step_of 28 (number_in rec 8) until 0 0 n
  numbers n until =
      let e = number-in rec 8 h.sized in
      rw (e, one-forth (word_of rec 8) (omega (arith, e, h.flag)))

  pub header-tried : (k : ℕ) (t : Bool) (new told : List ℕ) → (t, new, told) ≡ header_done rec rx k out
      → (t, crossed new rx msg told 1) ≡ tried (header_now rec rx msg lent k out) (cross_read rec rx msg lent k out) (crossed rec rx msg out 1)
  unfolding cross_read reply_number
  header-tried k t new told e =
      let x = came_in rec rx k in
      let until = number_in rec 2 + (8 + arg_at x) in
      done-tried rec rx msg out h o (λ s. back_read rec out s (length lent) k) (number_in rec 2) (number_in rec 3 + k) (number_in rec 4) 1
      (step_of 28 (number_in rec 8) until 0 0 (arg_at x)) (Reading (Body (arg_at x)) until lost) (R.Read (number_in rec 3 + k) (length rx - (number_in rec 3 + k)))
      (numbers (arg_at x) until) refl refl (header_came rec rx k) (header_now rec rx msg lent k out) t new told
      (rw (
        eq-eqb (number_in rec 7) 17 state,
        stands-in rec (length rx) (length msg) h,
        eq-eqb (length lent) (number_in rec 4) same',
        le-leb out_size (length out) o,
      ))
      (λ z.
      let (a, w) = (and-eq-true_iff (met_by rec rx k && ltb (number_in rec 3 + k) (length rx)) (body_short (dialect_held rec) x (length rx))).0 z in
      let (b, r) = (and-eq-true_iff (met_by rec rx k) (ltb (number_in rec 3 + k) (length rx))).0 a in
      let m = met_of rec rx k b in
      let l = ltb-true (number_in rec 3 + k) (length rx) r in
      let v = short-of (dialect_held rec) x (length rx) w in
      read-met rec rx msg h lent same' (Header W.Chunk) awaits k m out _ (place k m l v ∙ header-stepped k m l v))
      e
