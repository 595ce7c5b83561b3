-- What the host has seen, beside the session in the record: it says all that refusals depend on.
-- Assumes nothing.
use Prim.Native.Nat.{ℕ, ◌<◌, ◌^◌}
use mathlib.Core.Bool.{Bool, true, false, ◌||◌, not}
use mathlib.Core.List.{List}
use mathlib.Core.Path.{◌≡◌, refl}
use native.Mathlib.Omega.{arith}
use borrow.Author.Tests.{le-ltb}
use lib.Dec.{eqb}
use lib.ListN.{length}
use Rattle.protocol.specs.Bytes.{Bytes, pick}
use Rattle.protocol.proofs.Bodies.{pick-cases}
use Rattle.protocol.proofs.Bytes.{bytes_drop}
use Rattle.protocol.proofs.Words.{bytes_take}
use Rattle.features.specs.Meaning.{listed}
use Rattle.record.specs.Narrow.{Narrow}
use Rattle.record.specs.Record.{stored}
use Rattle.recv_buf.specs.RecvBuf.{sound, held_bytes}
use Rattle.recv_buf.specs.declared.RecvBuf.{RecvBuf}
use Rattle.session.specs.declared.Pending.{Pending}
use Rattle.session.specs.declared.Session.{Session}
use Rattle.session.specs.Calls.{misfit, is_idle}
use Rattle.session.specs.Host.{Show}
use Rattle.session.specs.State.{St, st, Fits}
use Rattle.session.proofs.Misfit.{misfit-fits}
use Rattle.session.proofs.Turns.{Frame, frame_of}
use Rattle.boundary.proofs.Steps.{Inv, narrow-of, Awaits, idle, reads, writes_rx, writes_lent, writes_bytes, closes, Asked}
use Rattle.boundary_misuse.specs.Misuse.{Seen, pending}

-- ---- a session, whatever it is lent

-- one that was opened: its numbers are as wide as their fields, its cursor lies in its buffer
pub record Own (s : Session) : Type 0 where
  pub narrow : Narrow s
  pub fits : Fits s s.capacity s.message

pub own_of : (s : St) → Inv s → Own s.ses
own_of s x =
    let g = x.good in
    record {
      narrow = narrow-of s x;
      fits = record { order = g.order; inside = g.inside; rx = refl; least = g.least; aside = g.aside; msg = refl };
    }

-- what is held of bytes are bytes
pub bytes-held : (b : List ℕ) (c : RecvBuf) → Bytes b → Bytes (held_bytes b c)
unfolding held_bytes
bytes-held b c h = pick-cases Bytes (sound b c) (λ e. bytes_drop c.head _ (bytes_take c.tail b h)) (λ e i. omega arith)

-- lent buffers that it fits
pub inv-of : (s : Session) (rx msg : List ℕ) → Narrow s → length msg < 2 ^ 63 → Bytes rx → misfit s (length rx) (length msg) ≡ false → Inv (st s rx msg)
inv-of s rx msg n w b e =
    let f = misfit-fits s (length rx) (length msg) e in
    record { good = f; wide = omega (arith, f); lent = n.lent; ids = n.ids; pending = n.pending; bytes = bytes-held rx s.buf b }

-- a session that was opened is misfit where a buffer has another length
pub misfit-own : (s : Session) (x m : ℕ) → Own s → misfit s x m ≡ (not (eqb x s.capacity) || not (eqb m s.message))
unfolding misfit
misfit-own s x m o =
    let f = o.fits in
    rw (
      le-ltb s.buf.tail s.buf.head f.order,
      le-ltb s.capacity s.buf.tail f.inside,
      le-ltb s.capacity 8 f.least,
      le-ltb s.message s.capacity f.aside,
    )
    (go (eqb x s.capacity) (eqb m s.message))
  where
    go : (a b : Bool) → pick a (pick b false true) true ≡ (not a || not b)
    go true true = refl
    go true false = refl
    go false b = refl

-- ---- what was seen of it

abbrev pub seen_of : Frame → Show → Seen
seen_of φ sh =
    record { capacity = φ.capacity; message = φ.message; features = listed φ.features; lent = φ.lent; last = sh; ended = φ.ended }

pub data Knows : Seen → List ℕ → Type 0 where
  knows : (s : Session) (sh : Show) → Own s → Asked s sh → Knows (seen_of (frame_of s) sh) (stored s)

pub pending-is : {t w : ℕ} {p : Pending} {sh : Show} → Awaits t w p sh → pending sh ≡ not (is_idle p)
pending-is idle = refl
pending-is reads = refl
pending-is writes_rx = refl
pending-is writes_lent = refl
pending-is writes_bytes = refl
pending-is closes = refl
