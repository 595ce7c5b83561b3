-- Laws of `specs/RecvBuf.antt`: the cases of each definition, and what take, fill, compaction and holding do to the held bytes.
-- Assumes nothing.
use mathlib.Core.List.{List, ◌++◌}
use mathlib.Core.Path.{◌≡◌, refl, sym, ap, ◌∙◌}
use Prim.Native.Nat.{ℕ, suc, ◌+◌, ◌-◌, ◌≤◌, ◌<◌}
use native.Mathlib.Decide.{dec_le}
use native.Mathlib.Nat.{lt_of_not-le}
use native.Mathlib.Omega.{arith}
use borrow.Author.Tests.{le-leb, lt-leb, lt-ltb, le-ltb}
use lib.ListN.{length, take, drop, take-append-drop}
use lib.Seq.{length-take-le, drop-append-le, take_at, drop_at, take-add, drop-drop, length_front, slice, length-slice}
use Rattle.protocol.specs.Bytes.{over}
use Rattle.protocol.proofs.Bytes.{over-length, over-before, over-there}
use Rattle.recv_buf.specs.RecvBuf.{cursor, held_count, held_bytes, taken, filled, moved, compacted, holding, Hold, too_large, held, read}
use Rattle.recv_buf.specs.declared.RecvBuf.{RecvBuf}

-- the two cases of `taken` and of `filled`
pub taken_in : (c : RecvBuf) (n : ℕ) → n ≤ held_count c → taken c n ≡ cursor (c.head + n) c.tail
unfolding taken
taken_in c n h = simp (le-leb _ _ h)

pub taken_out : (c : RecvBuf) (n : ℕ) → held_count c < n → taken c n ≡ c
unfolding taken
taken_out c n h = simp (lt-leb _ _ h)

pub filled_in : (c : RecvBuf) (n k : ℕ) → c.tail + n ≤ k → filled c n k ≡ cursor c.head (c.tail + n)
unfolding filled
filled_in c n k h = simp (le-leb _ _ h)

pub filled-out : (c : RecvBuf) (n k : ℕ) → k < c.tail + n → filled c n k ≡ c
unfolding filled
filled-out c n k h = simp (lt-leb _ _ h)

-- the part of a slice from h to t, as code makes it
pub slice-part : (h t : ℕ) (b : List ℕ) → h ≤ t → t ≤ length b → take (t - h) (drop h b) ≡ slice h t b
slice-part h t b o w =
    let k : ℕ = t - h in
    let e : t ≡ h + k = omega arith in
    let l : length (take h b) ≡ h = length-take-le h b (omega arith) in
    sym (ap (λ (j : ℕ). slice h j b) e ∙ rw (take-add h k b) (drop_at (take h b) (take k (drop h b)) h l))

-- a cursor that a session has
pub record Sound (b : List ℕ) (c : RecvBuf) : Type 0 where
  pub ordered : c.head ≤ c.tail
  pub within : c.tail ≤ length b

module _ (b : List ℕ) (c : RecvBuf) (s : Sound b c) where
  -- the held bytes and the compaction of a sound cursor
  pub held_in_lem : held_bytes b c ≡ slice c.head c.tail b
  unfolding held_bytes
  held_in_lem = simp (le-leb _ _ s.ordered, le-leb _ _ s.within)

  pub compacted-in : compacted b c ≡ (moved b c.head c.tail, cursor 0 (held_count c))
  unfolding compacted
  compacted-in = simp (le-leb _ _ s.ordered, le-leb _ _ s.within)

  held-front : length (slice c.head c.tail b) ≡ held_count c
  held-front = length-slice c.head c.tail b s.within

  pub held-length : length (held_bytes b c) ≡ held_count c
  held-length = rw held_in_lem held-front

-- nothing moves where head is 0 already
pub compacted-front : (b : List ℕ) (c : RecvBuf) → c.head ≡ 0 → compacted b c ≡ (b, c)
unfolding compacted
compacted-front b c e = go (dec_le c.tail (length b))
  where
    go : Dec (c.tail ≤ length b) → compacted b c ≡ (b, c)
    go (yes h) =
        let k : held_count c ≡ c.tail = omega arith in
        compacted-in b c (record { ordered = omega arith; within = h })
        ∙ rw (k, e, take-append-drop)
    go (no f) =
        let o : c.head ≤ c.tail = omega arith in
        simp (le-leb _ _ o, lt-leb _ _ (lt_of_not-le f))

-- take drops n of the held bytes
module _ (b : List ℕ) (c : RecvBuf) (s : Sound b c) (n : ℕ) (h : n ≤ held_count c) where
  pub taken-sound : Sound b (taken c n)
  taken-sound = rw (taken_in c n h) (record { ordered = omega arith; within = s.within })

  pub taken-drops : held_bytes b (taken c n) ≡ drop n (held_bytes b c)
  taken-drops = held_in_lem b (taken c n) taken-sound ∙ rw (taken_in c n h, held_in_lem b c s, drop-drop n c.head)

-- fill appends the first n bytes of the window
module _ (b : List ℕ) (c : RecvBuf) (s : Sound b c) (n : ℕ) (h : c.tail + n ≤ length b) where
  pub filled-sound : Sound b (filled c n (length b))
  filled-sound = rw (filled_in c n (length b) h) (record { ordered = omega arith; within = h })

  pub filled-appends : held_bytes b (filled c n (length b)) ≡ held_bytes b c ++ take n (drop c.tail b)
  filled-appends =
      let f : c.head ≤ length (take c.tail b) = rw (length-take-le c.tail b s.within) s.ordered in
      held_in_lem b (filled c n (length b)) filled-sound
      ∙ rw (filled_in c n (length b) h, held_in_lem b c s, take-add c.tail n b, drop-append-le c.head (take c.tail b) (take n (drop c.tail b)) f)

-- bytes that come into the window leave the held bytes as they were, and a fill of as many appends them
module _ (b : List ℕ) (c : RecvBuf) (s : Sound b c) (m : List ℕ) (h : c.tail + length m ≤ length b) where
  over-sound : Sound (over b c.tail m) c
  over-sound = record { ordered = s.ordered; within = rw (over-length b c.tail m h) s.within }

  pub window-keeps : held_bytes (over b c.tail m) c ≡ held_bytes b c
  window-keeps = rw (held_in_lem (over b c.tail m) c over-sound, held_in_lem b c s, over-before b c.tail m h)

  pub window-filled : held_bytes (over b c.tail m) (filled c (length m) (length b)) ≡ held_bytes b c ++ m
  window-filled =
      let e = over-length b c.tail m h in
      rw (rw e at (filled-appends (over b c.tail m) c over-sound (length m) (rw e h)), window-keeps, over-there b c.tail m h)

-- compaction keeps the held bytes, leaves head 0 and alters nothing from the new tail on
module _ (b : List ℕ) (c : RecvBuf) (s : Sound b c) where
  pub compacted-head : (compacted b c).1 ≡ cursor 0 (held_count c)
  compacted-head = ap (λ (p : List ℕ × RecvBuf). p.1) (compacted-in b c s)

  pub compacted-length : length (compacted b c).0 ≡ length b
  compacted-length = rw (compacted-in b c s) (length_front b (slice c.head c.tail b) (held_count c) (held-front b c s ∙ sym (length-take-le _ _ (omega arith))))

  pub compacted-behind : drop (held_count c) (compacted b c).0 ≡ drop (held_count c) b
  compacted-behind = rw (compacted-in b c s) (drop_at (slice c.head c.tail b) _ _ (held-front b c s))

  pub compacted-sound : Sound (compacted b c).0 (compacted b c).1
  compacted-sound = rw compacted-head (record { ordered = omega arith; within = rw compacted-length (omega arith) })

  pub compacted-keeps : held_bytes (compacted b c).0 (compacted b c).1 ≡ held_bytes b c
  compacted-keeps =
      held_in_lem (compacted b c).0 (compacted b c).1 compacted-sound
      ∙ rw (compacted-in b c s, held_in_lem b c s) (take_at (slice c.head c.tail b) (drop (held_count c) b) (held_count c) (held-front b c s))

-- the four cases of `holding`
module _ (b : List ℕ) (c : RecvBuf) (n : ℕ) where
  pub holding-large : length b < n → holding b c n ≡ (b, too_large)
  unfolding holding
  holding-large h = simp (lt-ltb _ _ h)

  pub holding-window : n ≤ length b → held_count c < n → c.tail < length b → holding b c n ≡ (b, read c)
  unfolding holding
  holding-window r h w = simp (le-ltb _ _ r, lt-leb _ _ h, lt-ltb _ _ w)

  pub holding-end : n ≤ length b → held_count c < n → length b ≤ c.tail → holding b c n ≡ ((compacted b c).0, read (compacted b c).1)
  unfolding holding
  holding-end r h w = simp (le-ltb _ _ r, lt-leb _ _ h, le-ltb _ _ w)

  pub holding-held : n ≤ length b → n ≤ held_count c → holding b c n ≡ (b, held)
  unfolding holding
  holding-held r h = simp (le-ltb _ _ r, le-leb _ _ h)

-- what each answer of `hold` means: e and r are the buffer and the cursor afterwards
pub record Needed (b : List ℕ) (c : RecvBuf) (n : ℕ) (e : List ℕ) (r : RecvBuf) : Type 0 where
  pub sound : Sound e r
  pub same : length e ≡ length b
  pub kept : held_bytes e r ≡ held_bytes b c
  pub fewer : length (held_bytes b c) < n
  pub window : r.tail < length e

abbrev pub Meant : List ℕ → RecvBuf → ℕ → List ℕ → Hold → Type 0
Meant b c n e too_large = (e ≡ b) × (length b < n)
Meant b c n e held = (e ≡ b) × (n ≤ length (held_bytes b c))
Meant b c n e (read r) = Needed b c n e r

pub holding-meant : (b : List ℕ) (c : RecvBuf) (n : ℕ) → Sound b c → Meant b c n (holding b c n).0 (holding b c n).1
holding-meant b c n s = large (dec_le n (length b))
  where
    window : n ≤ length b → held_count c < n → Dec (suc c.tail ≤ length b) → Meant b c n (holding b c n).0 (holding b c n).1
    window r h (yes w) = rw (holding-window b c n r h w) (record { sound = s; same = refl; kept = refl; fewer = rw (held-length b c s) h; window = w })
    window r h (no f) =
        rw (holding-end b c n r h (omega (arith, lt_of_not-le f)))
        (record {
          sound = compacted-sound b c s;
          same = compacted-length b c s;
          kept = compacted-keeps b c s;
          fewer = rw (held-length b c s) h;
          window = rw (compacted-head b c s, compacted-length b c s) (omega arith);
        })

    held : n ≤ length b → Dec (n ≤ held_count c) → Meant b c n (holding b c n).0 (holding b c n).1
    held r (yes h) = rw (holding-held b c n r h) (refl, rw (held-length b c s) h)
    held r (no f) = window r (lt_of_not-le f) (dec_le (suc c.tail) (length b))

    large : Dec (n ≤ length b) → Meant b c n (holding b c n).0 (holding b c n).1
    large (yes r) = held r (dec_le n (held_count c))
    large (no f) = rw (holding-large b c n (lt_of_not-le f)) (refl, lt_of_not-le f)
