-- A turn of a session that fits its buffers leaves one that fits them, and the turns one after another. Assumes nothing.
use mathlib.Core.Bool.{Bool}
use mathlib.Core.List.{List}
use mathlib.Core.Path.{◌≡◌, refl, sym, ap, ◌∙◌, subst}
use Prim.Native.Nat.{ℕ, suc, ◌+◌, ◌-◌, ◌≤◌, ◌<◌}
use native.Mathlib.Decide.{dec_le}
use native.Mathlib.Nat.{lt_of_not-le}
use native.Mathlib.Omega.{arith}
use borrow.Author.Tests.{lt-ltb, le-ltb}
use Rattle.recv_buf.specs.RecvBuf.{held_count}
use Rattle.session.specs.Phases.{wants}
use Rattle.session.specs.State.{dialect_in, St, st, out, beside, answering, Good}
use Rattle.session.specs.Steps.{asked, HopOut, over, on, hop_out, turned, turn_of, followed, hopped, pumped}
use Rattle.session.specs.declared.Answer.{Answer}
use Rattle.session.specs.declared.Answer.TheVariants.{TooLarge}
use Rattle.session.specs.declared.Hop.{Hop}
use Rattle.session.specs.declared.Hop.TheVariants.{Over, On}
use Rattle.session.specs.declared.Pending.TheVariants.{Idle}
use Rattle.session.specs.declared.Phase.{Phase}
use Rattle.session.specs.declared.Session.{Session}
use Rattle.session.specs.declared.Stepped.{Stepped}
use Rattle.session.specs.declared.Then.{Then}
use Rattle.session.specs.declared.Then.TheVariants.{Stop, Go}
use Rattle.session.specs.declared.Turn.{Turn}
use Rattle.session.proofs.Buf.{good-at, kept-length}
use Rattle.session_phases.proofs.Turns.{turn_in_lem, turn_drops, turn_keeps}
use Rattle.recv_buf.proofs.Laws.{taken_in, compacted-head}

-- the three cases of `hopped`
module _ (s : St) (p : Phase) (lost : Bool) where
  pub hopped-large : s.ses.capacity < wants s.ses.capacity p → hopped s p lost ≡ over (out (answering s.ses TooLarge) s.rx s.msg)
  unfolding hopped
  hopped-large h = simp (lt-ltb _ _ h)

  module _ (fits : wants s.ses.capacity p ≤ s.ses.capacity) where
    pub hopped-asks : held_count s.ses.buf < wants s.ses.capacity p → hopped s p lost ≡ over (beside (asked s.ses s.rx p lost) s.msg)
    unfolding hopped
    hopped-asks h = simp (le-ltb _ _ fits, lt-ltb _ _ h)

    pub hopped-turns : wants s.ses.capacity p ≤ held_count s.ses.buf → hopped s p lost ≡ followed (turned s (turn_of s p)) (turn_of s p).then
    unfolding hopped
    hopped-turns h = simp (le-ltb _ _ fits, le-ltb _ _ h)

-- what the code makes of a turn: the session and the message buffer after it, and then an answer or the next phase
module _ (s : St) (t : Turn) (m : Session) (msg : List ℕ) (p : m ≡ (turned s t).ses) (q : msg ≡ (turned s t).msg) where
  pub turn_stops : (r : Stepped) (a : Answer) → r ≡ answering m a → t.then ≡ Stop a → over (out r s.rx msg) ≡ followed (turned s t) t.then
  turn_stops r a e f = rw (e, p, q, f)

  pub turn_goes : (n : Phase) → t.then ≡ Go n → on (st m s.rx msg) n ≡ followed (turned s t) t.then
  turn_goes n f = rw (p, q, f)

-- the session that goes on fits its buffers
abbrev GoodOn : HopOut → Type 0
GoodOn (over o) = Unit {0}
GoodOn (on s p) = Good s

module _ (s : St) (p : Phase) (lost : Bool) (g : Good s) where
  turned-good : wants s.ses.capacity p ≤ held_count s.ses.buf → Good (turned s (turn_of s p))
  turned-good h =
      let d = turn_drops (dialect_in s.ses) s.ses.capacity p s.rx s.ses.buf.head in
      let k = turn_keeps (dialect_in s.ses) s.ses.capacity p s.rx s.ses.buf.head in
      good-at s _ s.rx (turned s (turn_of s p)).msg Idle g (omega arith) g.inside refl
      (kept-length s.rx s.msg s.ses.buf.head (turn_of s p).keeps (omega arith) (omega arith))

  followed-good : (t : St) (q : Then) → Good t → GoodOn (followed t q)
  followed-good t (Stop a) h = tt
  followed-good t (Go q) h = h

  pub hopped-good : GoodOn (hopped s p lost)
  hopped-good = large (dec_le (wants s.ses.capacity p) s.ses.capacity)
    where
      held : wants s.ses.capacity p ≤ s.ses.capacity → Dec (wants s.ses.capacity p ≤ held_count s.ses.buf) → GoodOn (hopped s p lost)
      held f (yes h) = rw (hopped-turns s p lost f h) (followed-good (turned s (turn_of s p)) (turn_of s p).then (turned-good h))
      held f (no n) = rw (hopped-asks s p lost f (lt_of_not-le n)) tt

      large : Dec (wants s.ses.capacity p ≤ s.ses.capacity) → GoodOn (hopped s p lost)
      large (yes f) = held f (dec_le (wants s.ses.capacity p) (held_count s.ses.buf))
      large (no n) = rw (hopped-large s p lost (lt_of_not-le n)) tt

module _ (s : St) (p : Phase) (lost : Bool) (h : Hop) (rx msg : List ℕ) (e : hop_out h rx msg ≡ hopped s p lost) where
  -- a turn that is not the last
  pub on-good : (m : Session) (q : Phase) → h ≡ On m q → Good s → Good (st m rx msg)
  on-good m q f g = subst GoodOn (sym e ∙ ap (λ (k : Hop). hop_out k rx msg) f) (hopped-good s p lost g)

  -- ... and what follows it, or not, when i turns were taken before
  module _ (i : ℕ) (l : i < 4) where
    step : 4 - i ≡ suc (4 - (i + 1))
    step = omega arith

    pub pump_over : (t : Stepped) → h ≡ Over t → out t rx msg ≡ pumped (4 - i) s p lost
    unfolding pumped
    pump_over t f = rw (step, ← e, f)

    pub pump_on : (m : Session) (q : Phase) → h ≡ On m q → pumped (4 - i) s p lost ≡ pumped (4 - (i + 1)) (st m rx msg) q lost
    unfolding pumped
    pump_on m q f = rw (step, ← e, f)

-- what the goals of `ask`, those of `hop` and those of `pump` come from
pub ruleset compactions = (compacted-head)

pub ruleset turns = (hopped-large, hopped-asks, hopped-turns, turn_stops, turn_goes, turn_in_lem, turn_drops, turn_keeps, taken_in)

pub ruleset pumps = (on-good, pump_over, pump_on)
