-- A record whose session stands, by its numbers; and its session, stored with another step. Assumes nothing.
use mathlib.Core.Bool.{Bool, true, false, not, ◌&&◌, and-eq-true_iff, true≢false}
use mathlib.Core.List.{List, ◌++◌}
use mathlib.Core.Path.{◌≡◌, refl, sym, ap, ◌∙◌}
use Prim.Native.Nat.{ℕ, zero, suc, ◌+◌, ◌*◌, ◌%◌, ◌^◌, ◌≤◌, ◌<◌}
use native.Mathlib.Decide.{dec_le}
use native.Mathlib.Nat.{lt_of_not-le, lt_irrefl}
use native.Mathlib.Omega.{arith}
use borrow.Author.Tests.{eq-eqb, ne_eqb, eqb-true, eqb-false, leb-true, not-true}
use lib.Dec.{eqb, leb}
use lib.ListN.{length, drop, drop_of_length-le}
use Rattle.protocol.specs.Bytes.{Bytes, over, put, pick, number_at, whole}
use Rattle.protocol.specs.Ids.{Id, STAT, STA2, LIST, LIS2, SEND, SND2, RECV, RCV2, DATA, DONE, OKAY, FAIL, DENT, DNT2, QUIT}
use Rattle.protocol.specs.Records.{u32_at, u64_at}
use Rattle.protocol.proofs.Bytes.{le4, whole_in, whole_out, put_in}
use Rattle.protocol.proofs.Records.{u64_in}
use Rattle.ids.specs.Ids.{lower, upper, number_of}
use Rattle.boundary.specs.Told.{out_size}
use Rattle.record.specs.Fields.{step_numbers, fields, pending_of, session_of, step_in}
use Rattle.record.specs.Record.{size, words, word_of, stored, loaded}
use Rattle.record.proofs.Numbers.{one-forth, bits-forth}
use Rattle.record.proofs.Words.{word_in, length-words, words_append, numbers_from, words-from}
use Rattle.record_load.proofs.Held as H
use Rattle.record_load.proofs.Held.{holds, held, unheld, held-size}
use Rattle.recv_buf.specs.RecvBuf.{cursor}
use Rattle.session.proofs.Misfit.{fits-misfit, misfit-fits}
use Rattle.session.specs.Calls.{misfit}
use Rattle.session.specs.State.{at, begun, Fits}
use Rattle.session.specs.declared.Pending.{Pending}
use Rattle.session.specs.declared.Session.{Session}
use Rattle.fast_record.specs.Standing.{number_in, standing, idle, fits, Stands, place_of, ids_held, ids_in, moved_numbers}

-- a number that the code reads, past the last too
pub number_read : (rec : List ℕ) (i : ℕ) → length rec ≡ size → whole 8 0 (u64_at 0) rec (8 * i) ≡ number_in rec i
unfolding number_at number_in
number_read rec i h = rw (eq-eqb (length rec) size h) (go (dec_le i 31))
  where
    go : Dec (i ≤ 31) → whole 8 0 (u64_at 0) rec (8 * i) ≡ word_of rec i
    go (yes l) = word_in rec i (omega arith)
    go (no n) =
        let l = lt_of_not-le n in
        whole_out 8 0 (u64_at 0) rec (8 * i) (omega arith) ∙ rw (drop_of_length-le rec {i = 8 * i} (omega arith))

-- a number of a record of the right length
pub number-in : (rec : List ℕ) (i : ℕ) → length rec ≡ size → number_in rec i ≡ word_of rec i
unfolding number_in
number-in rec i h = rw (eq-eqb (length rec) size h)

-- a record in some state has the right length
sized_of : (rec : List ℕ) → number_in rec 7 < 31 → length rec ≡ size
unfolding number_in
sized_of rec h = go (eqb (length rec) size) refl
  where
    go : (b : Bool) → eqb (length rec) size ≡ b → length rec ≡ size
    go true e = eqb-true (length rec) size e
    go false e = absurd (lt_irrefl 31 (rw e at h))

module _ (rec : List ℕ) (x m : ℕ) where
  abbrev s : Session
  s = session_of (word_of rec)

  -- the session fits its buffers where the numbers do
  pub fits-of : Stands rec x m → Fits s x m
  unfolding session_of
  fits-of h =
      let n : (i : ℕ) → number_in rec i ≡ word_of rec i = λ i. number-in rec i h.sized in
      record {
        order = omega (arith, n 2, n 3);
        inside = omega (arith, n 3, n 0);
        rx = h.rx ∙ n 0;
        least = omega (arith, n 0);
        aside = omega (arith, n 0, n 1);
        msg = h.msg ∙ n 1;
      }

  -- ... and has the record's ids
  pub ids-held : Stands rec x m → s.ids ≡ ids_held rec
  unfolding session_of
  ids-held h =
      let n : (i : ℕ) → number_in rec i ≡ word_of rec i = λ i. number-in rec i h.sized in
      rw (n 24, n 25, n 26, n 27, n 28, n 29, n 30, n 31)

  pub held_of : Stands rec x m → holds rec ≡ true
  held_of h =
      let n : (i : ℕ) → number_in rec i ≡ word_of rec i = λ i. number-in rec i h.sized in
      H.held_of rec h.sized (omega (arith, n 5)) (omega (arith, n 6)) (omega (arith, n 7)) (omega (arith, n 8)) h.parts

  pub stands-in : Stands rec x m → standing (loaded rec) x m ≡ true
  unfolding session_of
  stands-in h =
      let e : word_of rec 6 ≡ 0 = sym (number-in rec 6 h.sized) ∙ h.ended in
      rw (← held rec (held_of h), fits-misfit s x m (fits-of h), ne_eqb (word_of rec 6) 1 (λ z. omega arith))

  zero_of : (n : ℕ) → n < 2 → (n ≡ 1 → ⊥) → n ≡ 0
  zero_of zero h z = refl
  zero_of (suc zero) h z = absurd (z refl)
  zero_of (suc (suc n)) h z = absurd (omega arith)

  -- ... and says so
  stands_at : holds rec ≡ true → misfit s x m ≡ false → s.ended ≡ false → Stands rec x m
  unfolding session_of
  stands_at h f e =
      let l = held-size rec h in
      let n : (i : ℕ) → number_in rec i ≡ word_of rec i = λ i. number-in rec i l in
      let k = H.held-known rec h in
      let g = misfit-fits s x m f in
      let z : word_of rec 6 ≡ 1 → ⊥ = eqb-false (word_of rec 6) 1 e in
      record {
        sized = l;
        features = omega (arith, n 5);
        ended = n 6 ∙ zero_of (word_of rec 6) k.1 z;
        state = omega (arith, n 7);
        flag = omega (arith, n 8);
        order = omega (arith, n 2, n 3, g.order);
        inside = omega (arith, n 3, n 0, g.inside);
        rx = g.rx ∙ sym (n 0);
        least = omega (arith, n 0, g.least);
        aside = omega (arith, n 0, n 1, g.aside);
        msg = g.msg ∙ sym (n 1);
        parts = k.4;
      }

  pub stands_of : standing (loaded rec) x m ≡ true → Stands rec x m
  stands_of e = go (holds rec) refl
    where
      go : (b : Bool) → holds rec ≡ b → Stands rec x m
      go true h =
          let (f, d) = (and-eq-true_iff (not (misfit s x m)) (not s.ended)).0 (rw (← held rec h) at e) in
          stands_at h (not-true (misfit s x m) f) (not-true s.ended d)
      go false h = absurd (true≢false (sym (rw (← unheld rec h) at e)))

  pub stands-out : (Stands rec x m → ⊥) → standing (loaded rec) x m ≡ false
  stands-out f = go (standing (loaded rec) x m) refl
    where
      go : (b : Bool) → standing (loaded rec) x m ≡ b → b ≡ false
      go true e = absurd (f (stands_of e))
      go false e = refl

  -- all but the last of its tests
  pub stands-last : number_in rec 7 < 31 → number_in rec 5 < 128 → number_in rec 8 < 2 → number_in rec 3 ≤ number_in rec 0 → number_in rec 2 ≤ number_in rec 3
      → 8 ≤ number_in rec 0 → number_in rec 0 ≤ number_in rec 1 → number_in rec 6 ≡ 0 → x ≡ number_in rec 0 → m ≡ number_in rec 1
      → pick (eqb (length rec) size) (step_in (word_of rec 0) (pending_of (word_of rec))) false ≡ standing (loaded rec) x m
  stands-last t f l i o c a e r g = go (step_in (word_of rec 0) (pending_of (word_of rec))) refl
    where
      z : length rec ≡ size
      z = sized_of rec t

      go : (b : Bool) → step_in (word_of rec 0) (pending_of (word_of rec)) ≡ b
          → pick (eqb (length rec) size) (step_in (word_of rec 0) (pending_of (word_of rec))) false ≡ standing (loaded rec) x m
      go true q =
          rw (eq-eqb (length rec) size z, q)
          (sym (stands-in (record { sized = z; features = f; ended = e; state = t; flag = l; order = o; inside = i; rx = r; least = c; aside = a; msg = g; parts = q })))
      go false q = rw (eq-eqb (length rec) size z, q) (sym (stands-out (λ h. true≢false (sym h.parts ∙ q))))

  -- what a call or a report that is let in may rest on
  pub idle-true : (o : ℕ) → idle rec x m o ≡ true → (number_in rec 7 ≡ 0) × Stands rec x m × (out_size ≤ o)
  idle-true o e =
      let (a, b) = (and-eq-true_iff (eqb (number_in rec 7) 0 && standing (loaded rec) x m) (leb out_size o)).0 e in
      let (c, d) = (and-eq-true_iff (eqb (number_in rec 7) 0) (standing (loaded rec) x m)).0 a in
      (eqb-true (number_in rec 7) 0 c, stands_of d, leb-true out_size o b)

  pub fits-true : (n o : ℕ) → fits rec x m n o ≡ true → Stands rec x m × (n ≡ number_in rec 4) × (out_size ≤ o)
  fits-true n o e =
      let (a, b) = (and-eq-true_iff (standing (loaded rec) x m && eqb n (number_in rec 4)) (leb out_size o)).0 e in
      let (c, d) = (and-eq-true_iff (standing (loaded rec) x m) (eqb n (number_in rec 4))).0 a in
      (stands_of c, eqb-true n (number_in rec 4) d, leb-true out_size o b)

-- ---- an id's number is half of one of the record's

module _ (rec : List ℕ) (l : length rec ≡ size) (bytes : Bytes rec) where
  abbrev four : ℕ → ℕ
  four at = whole 4 0 (u32_at 0) rec at

  four-small : (at : ℕ) → at + 4 ≤ length rec → four at < 0x1_0000_0000
  unfolding number_at
  four-small at h =
      omega (arith, whole_in 4 0 (u32_at 0) rec at h, le4 rec at h, bytes at, bytes (at + 1), bytes (at + 2), bytes (at + 3))

  halves : (i : ℕ) → i ≤ 31 → number_in rec i ≡ four (8 * i) + 0x1_0000_0000 * four (8 * i + 4)
  halves i h = sym (number_read rec i l) ∙ u64_in rec (8 * i) (omega arith)

  lower-at : (i : ℕ) → i ≤ 31 → four (8 * i) ≡ lower (number_in rec i)
  lower-at i h = omega (arith, halves i h, four-small (8 * i) (omega arith))

  upper-at : (i : ℕ) → i ≤ 31 → four (8 * i + 4) ≡ upper (number_in rec i)
  upper-at i h = omega (arith, halves i h, four-small (8 * i) (omega arith))

  pub id-at : (i : Id) → four (place_of i) ≡ number_of (ids_held rec) i
  id-at STAT = lower-at 24 (omega arith)
  id-at STA2 = upper-at 24 (omega arith)
  id-at LIST = lower-at 25 (omega arith)
  id-at LIS2 = upper-at 25 (omega arith)
  id-at SEND = lower-at 26 (omega arith)
  id-at SND2 = upper-at 26 (omega arith)
  id-at RECV = lower-at 27 (omega arith)
  id-at RCV2 = upper-at 27 (omega arith)
  id-at DATA = lower-at 28 (omega arith)
  id-at DONE = upper-at 28 (omega arith)
  id-at OKAY = lower-at 29 (omega arith)
  id-at FAIL = upper-at 29 (omega arith)
  id-at DENT = lower-at 30 (omega arith)
  id-at DNT2 = upper-at 30 (omega arith)
  id-at QUIT = lower-at 31 (omega arith)

-- ... in a record of another length too
module _ (rec : List ℕ) (f : length rec ≡ size → ⊥) where
  other : (i : ℕ) → number_in rec i ≡ 31
  unfolding number_in
  other i = rw (ne_eqb (length rec) size f)

  pub id_other : (i : Id) → pick (eqb (place_of i % 8) 0) 31 0 ≡ number_of (ids_held rec) i
  id_other STAT = rw (other 24)
  id_other STA2 = rw (other 24)
  id_other LIST = rw (other 25)
  id_other LIS2 = rw (other 25)
  id_other SEND = rw (other 26)
  id_other SND2 = rw (other 26)
  id_other RECV = rw (other 27)
  id_other RCV2 = rw (other 27)
  id_other DATA = rw (other 28)
  id_other DONE = rw (other 28)
  id_other OKAY = rw (other 29)
  id_other FAIL = rw (other 29)
  id_other DENT = rw (other 30)
  id_other DNT2 = rw (other 30)
  id_other QUIT = rw (other 31)

-- ---- numbers put in front of the ids

module _ (rec : List ℕ) (bytes : Bytes rec) where
  pub ids_stay : (ns : List ℕ) → length ns ≡ 24 → length rec ≡ size → put rec 0 (words ns) ≡ words (ns ++ ids_in rec)
  unfolding over numbers_from
  ids_stay ns e l =
      let n : (i : ℕ) → number_in rec i ≡ word_of rec i = λ i. number-in rec i l in
      let z : 0 + length (words ns) ≡ 8 * 24 = omega (arith, length-words ns) in
      put_in rec 0 (words ns) (omega (arith, length-words ns))
      ∙ ap (λ (k : ℕ). words ns ++ drop k rec) z
      ∙ ap (λ (r : List ℕ). words ns ++ r) (words-from rec bytes 8 24 (omega arith))
      ∙ sym (words_append ns (ids_in rec) ∙ rw (n 24, n 25, n 26, n 27, n 28, n 29, n 30, n 31))

-- ---- a session's numbers are its record's again

module _ (rec : List ℕ) (x m : ℕ) (h : Stands rec x m) where
  -- the session at another place, with another step
  pub stored_moved : (head tail lent : ℕ) (step : List ℕ) (p : Pending) → step_numbers p ≡ step
      → stored (at (begun (session_of (word_of rec)) lent) (cursor head tail) p) ≡ words (moved_numbers rec head tail lent step)
  unfolding stored fields session_of
  stored_moved head tail lent step p e =
      let n : (i : ℕ) → number_in rec i ≡ word_of rec i = λ i. number-in rec i h.sized in
      let f : word_of rec 5 < 2 ^ 7 = omega (arith, n 5) in
      let b : word_of rec 6 < 2 = omega (arith, n 6) in
      rw (e, n 0, n 1, n 5, n 6, n 24, n 25, n 26, n 27, n 28, n 29, n 30, n 31, one-forth (word_of rec 6) b, bits-forth 7 (word_of rec 5) f)
