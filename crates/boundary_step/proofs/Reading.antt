-- The two ways of a read: only tail moves, or the session is loaded, steps and is stored. Assumes nothing.
use mathlib.Core.Bool.{false}
use mathlib.Core.List.{List, [], ◌∷◌}
use mathlib.Core.Option.{Option, none, some}
use mathlib.Core.Path.{◌≡◌, refl, sym, ap, ◌∙◌}
use Prim.Native.Nat.{ℕ, ◌-◌, ◌≤◌, ◌<◌}
use native.Mathlib.Omega.{arith}
use borrow.Author.Tests.{lt-ltb, le-ltb}
use lib.Dec.{ltb}
use lib.ListN.{length}
use Rattle.protocol.specs.Bytes.{pick, put, bytes_of}
use Rattle.boundary.proofs.Carried.{stays-read}
use Rattle.boundary.specs.Crossing.{crossed, turned_away, on_loaded, back, stays, back_read, cross_read}
use Rattle.boundary.specs.Told.{reply_bytes, out_size}
use Rattle.record.specs.Record.{words, loaded}
use Rattle.session.specs.Reports.{report_read}
use Rattle.session.specs.State.{st, Out}
use Rattle.session.specs.declared.Reply.{Reply}
use Rattle.session.specs.declared.Reply.TheVariants as R
use Rattle.session.specs.declared.Session.{Session}
use Rattle.fast_read.proofs.Tails.{Short, short-of, long_of}
use Rattle.fast_read.specs.Short.{short_in}
use Rattle.boundary_slow_path.specs.Slow.{slow_read}

-- t is the tail that the record's numbers say
module _ (rec rx msg lent out : List ℕ) (k t : ℕ) (e : t ≡ short_in (loaded rec) (length rx) (length msg) (length lent) k) where
  pub short-room : 0 < t → t ≤ length rx
  short-room h =
      let s = short-of (length rx) (length msg) (length lent) k t (loaded rec) e h in
      let f = s.fits in
      let r = s.room in
      omega arith

  -- only tail is stored, and a read of the rest is asked
  pub read_short : out_size ≤ length out → 0 < t → (rec' out' : List ℕ) → rec' ≡ put rec 24 (bytes_of 8 t)
      → out' ≡ put out 0 (words (t ∷ (length rx - t) ∷ [])) → crossed rec' rx msg out' 1 ≡ cross_read rec rx msg lent k out
  unfolding cross_read reply_bytes
  read_short l h rec' out' f g = go (short-of (length rx) (length msg) (length lent) k t (loaded rec) e h)
    where
      go : Short (loaded rec) (length rx) (length msg) (length lent) k t → crossed rec' rx msg out' 1 ≡ cross_read rec rx msg lent k out
      go z =
          let fit = z.fits in
          let asks : R.Read t (length rx - t) ≡ (report_read (st z.ses rx msg) (length lent) k).reply =
          ap (λ (c : ℕ). R.Read t (c - t)) fit.rx
          ∙ ap (λ (i : ℕ). R.Read i (z.ses.capacity - i)) z.tail
          ∙ sym (ap (λ (o : Out). o.reply) (stays-read (st z.ses rx msg) (length lent) k z.short))
          in
          ap (λ (y : List ℕ). crossed y rx msg out' 1) f
          ∙ ap (λ (y : List ℕ). crossed (put rec 24 (bytes_of 8 t)) rx msg y 1) (g ∙ ap (λ (r : Reply). put out 0 (reply_bytes r)) asks)
          ∙ rw (le-ltb (length out) out_size l, z.held, z.short, ← z.tail)

  -- a read that does not leave its need short
  pub slow_read_lem : t ≡ 0 → slow_read rec rx msg lent k out ≡ cross_read rec rx msg lent k out
  unfolding slow_read cross_read
  slow_read_lem h = ap (pick (ltb (length out) out_size) (turned_away rec rx msg out)) (go (loaded rec) e)
    where
      go : (o : Option Session) → t ≡ short_in o (length rx) (length msg) (length lent) k
          → on_loaded rec rx msg out (λ s. back rec out (report_read s (length lent) k)) o ≡ on_loaded rec rx msg out (λ s. back_read rec out s (length lent) k) o
      go none f = refl
      go (some s) f = let i : stays (st s rx msg) (length lent) k ≡ false = long_of (length rx) (length msg) (length lent) k t s f (omega arith) in rw i

-- a slice too short for a reply
pub read-away : (rec rx msg lent out : List ℕ) (k : ℕ) → length out < out_size → slow_read rec rx msg lent k out ≡ cross_read rec rx msg lent k out
unfolding slow_read cross_read
read-away rec rx msg lent out k h = rw (lt-ltb (length out) out_size h)
