-- What the buffers hold: a record reads the same in the bytes in view and in the buffer; a text kept; held bytes under a drop, a read and compaction.
-- Assumes nothing.
use Prim.Native.Nat.{ℕ, zero, suc, ◌+◌, ◌-◌, ◌≤◌}
use mathlib.Core.Bool.{true}
use mathlib.Core.List.{List, [], ◌∷◌, ◌++◌}
use mathlib.Core.Path.{◌≡◌, refl, sym, ap, ◌∙◌}
use native.Mathlib.Nat.{zero-add, suc-add}
use native.Mathlib.Omega.{arith}
use borrow.Author.Tests.{leb-true}
use lib.Dec.{leb}
use lib.ListN.{length, take, drop, get_or, length-append, length-drop}
use lib.Seq.{take-nil, take-take, take_at, length-take-le}
use Rattle.protocol.specs.Bytes.{le, number_at, over}
use Rattle.protocol.specs.Records.{id_at, arg_at, stat_at, dent_at, stat2_at, stat2_body, dent2_at}
use Rattle.protocol.proofs.Bytes.{over-length, over-over}
use Rattle.recv_buf.specs.RecvBuf.{cursor, held_count, held_bytes, compacted}
use Rattle.recv_buf.specs.declared.RecvBuf.{RecvBuf}
use Rattle.recv_buf.proofs.Laws.{Sound, held_in_lem, taken_in, taken-drops, filled_in, window-keeps, window-filled, compacted-head, compacted-length, compacted-keeps}
use Rattle.session.specs.declared.Pending.{Pending}
use Rattle.session.specs.State.{St, st, at, Good}
use Rattle.session.specs.Steps.{kept}
use Rattle.session.specs.Sends.{tidied}

-- ---- the first bytes of a list

module _ {ℓ} {A : Type ℓ} where
  pub drop-take : (o n : ℕ) (b : List A) → drop o (take (o + n) b) ≡ take n (drop o b)
  drop-take zero n b = rw zero-add
  drop-take (suc o) n [] = rw (suc-add, take-nil n)
  drop-take (suc o) n (x ∷ b) = rw suc-add (drop-take o n b)

  -- a part of the first t elements is a part of the list
  pub part-take : (o n t : ℕ) (b : List A) → o + n ≤ t → take n (drop o (take t b)) ≡ take n (drop o b)
  part-take o n t b h =
      let e : t ≡ o + (t - o) = omega arith in
      ap (λ (j : ℕ). take n (drop o (take j b))) e ∙ ap (take n) (drop-take o (t - o) b) ∙ take-take n (t - o) (drop o b) (omega arith)

-- ---- records: a field of the first n bytes is the field of them all

pub number-in : (n k off : ℕ) (s : List ℕ) → leb (off + k) n ≡ true → number_at k off (take n s) ≡ number_at k off s
unfolding number_at
number-in n k off s h = ap le (part-take off k n s (leb-true (off + k) n h))

module _ (s : List ℕ) where
  pub id-in : id_at (take 8 s) ≡ id_at s
  id-in = take-take 4 8 s (omega arith)

  pub arg-in : arg_at (take 8 s) ≡ arg_at s
  arg-in = search number-in

  pub stat-in : stat_at (take 16 s) ≡ stat_at s
  unfolding stat_at
  stat-in = search number-in

  pub dent-in : dent_at (take 20 s) ≡ dent_at s
  unfolding dent_at stat_at
  dent-in = search number-in

  pub stat2-in : stat2_at (take 72 s) ≡ stat2_at s
  unfolding stat2_body
  stat2-in = rw (drop-take 4 68 s) (search number-in)

  pub dent2-in : dent2_at (take 76 s) ≡ dent2_at s
  unfolding dent2_at stat2_body
  dent2-in = rw (drop-take 4 72 s) (search number-in)

-- an id is its four bytes
pub four_bytes : (l : List ℕ) → length l ≡ 4 → l ≡ get_or l 0 0 ∷ get_or l 1 0 ∷ get_or l 2 0 ∷ get_or l 3 0 ∷ []
four_bytes [] e = absurd (omega arith)
four_bytes (a ∷ []) e = absurd (omega arith)
four_bytes (a ∷ b ∷ []) e = absurd (omega arith)
four_bytes (a ∷ b ∷ c ∷ []) e = absurd (omega arith)
four_bytes (a ∷ b ∷ c ∷ d ∷ []) e = refl
four_bytes (a ∷ b ∷ c ∷ d ∷ x ∷ l) e = absurd (omega arith)

-- ---- a text of n bytes, kept at the front of the message buffer

module _ (rx msg : List ℕ) (i n : ℕ) (there : i + n ≤ length rx) where
  text-length : length (take n (drop i rx)) ≡ n
  text-length = length-take-le n (drop i rx) (omega (arith, length-drop i rx))

  pub kept-first : take n (kept rx i n msg) ≡ take n (drop i rx)
  unfolding kept
  kept-first = take_at (take n (drop i rx)) (drop n msg) n text-length

  pub kept-length : n ≤ length msg → length (kept rx i n msg) ≡ length msg
  unfolding kept
  kept-length h = simp (length-append, text-length, length-drop) (omega arith)

-- ---- a session that fits its buffers

-- ... fits them wherever else it stands in them
pub good-at : (s : St) (b : RecvBuf) (rx msg : List ℕ) (p : Pending) → Good s → b.head ≤ b.tail → b.tail ≤ s.ses.capacity
    → length rx ≡ length s.rx → length msg ≡ length s.msg → Good (st (at s.ses b p) rx msg)
good-at s b rx msg p g o i x m = record { order = o; inside = i; rx = x ∙ g.rx; least = g.least; aside = g.aside; msg = m ∙ g.msg }

module _ (s : St) (g : Good s) where
  pub sound-of : Sound s.rx s.ses.buf
  sound-of = record { ordered = g.order; within = omega arith }

  -- ... also with nothing pending, or something else
  pub good-pending : (p : Pending) → Good (st (at s.ses s.ses.buf p) s.rx s.msg)
  good-pending p = good-at s s.ses.buf s.rx s.msg p g g.order g.inside refl refl

  -- the bytes in view are those of the buffer from head on
  pub view : (n : ℕ) → n ≤ held_count s.ses.buf → take n (held_bytes s.rx s.ses.buf) ≡ take n (drop s.ses.buf.head s.rx)
  view n h = rw (held_in_lem s.rx s.ses.buf sound-of) (part-take s.ses.buf.head n s.ses.buf.tail s.rx (omega arith))

  pub held-dropped : (n : ℕ) → n ≤ held_count s.ses.buf
      → held_bytes s.rx (cursor (s.ses.buf.head + n) s.ses.buf.tail) ≡ drop n (held_bytes s.rx s.ses.buf)
  held-dropped n h = ap (held_bytes s.rx) (sym (taken_in s.ses.buf n h)) ∙ taken-drops s.rx s.ses.buf sound-of n h

  -- compaction
  pub good-tidied : Good (tidied s)
  good-tidied =
      let e = compacted-head s.rx s.ses.buf sound-of in
      good-at s (compacted s.rx s.ses.buf).1 (compacted s.rx s.ses.buf).0 s.msg _ g (rw e (omega arith)) (rw e (omega arith))
      (compacted-length s.rx s.ses.buf sound-of) refl

  pub held-tidied : held_bytes (tidied s).rx (tidied s).ses.buf ≡ held_bytes s.rx s.ses.buf
  held-tidied = compacted-keeps s.rx s.ses.buf sound-of

-- Bytes v came into the window, and any others lie behind them: v is appended to the held bytes.
module _ (b : List ℕ) (c : RecvBuf) (s : Sound b c) (v junk : List ℕ) (h : c.tail + length v + length junk ≤ length b) where
  pub came-length : length (over b c.tail (v ++ junk)) ≡ length b
  came-length = over-length b c.tail (v ++ junk) (omega (arith, length-append v junk))

  pub held-came : held_bytes (over b c.tail (v ++ junk)) (cursor c.head (c.tail + length v)) ≡ held_bytes b c ++ v
  held-came =
      let l : length (over b c.tail v) ≡ length b = over-length b c.tail v (omega arith) in
      let d : RecvBuf = cursor c.head (c.tail + length v) in
      let p : Sound (over b c.tail v) d = record { ordered = omega (arith, s); within = omega arith } in
      ap (λ (x : List ℕ). held_bytes x d) (sym (over-over b c.tail v (omega arith) junk))
      ∙ window-keeps (over b c.tail v) d p junk (omega arith)
      ∙ rw (filled_in c (length v) (length b) (omega arith)) at (window-filled b c s v (omega arith))
