-- What a session does between two reports, where it reads on through its phases.
-- Assumes nothing.
use Rattle.std.specs.Prelude.{ℕ, zero, suc, ◌+◌, ◌-◌, Bool, List, ◌++◌, ltb, take, drop}
use Rattle.protocol.specs.Bytes.{pick}
use Rattle.recv_buf.specs.RecvBuf.{cursor, held_count, compacted}
use Rattle.session.specs.declared.Answer.TheVariants as A
use Rattle.session.specs.declared.Hop.{Hop}
use Rattle.session.specs.declared.Hop.TheVariants.{Over, On}
use Rattle.session.specs.declared.Pending.TheVariants.{Idle, Reading}
use Rattle.session.specs.declared.Phase.{Phase}
use Rattle.session.specs.declared.Reply.TheVariants as R
use Rattle.session.specs.declared.Session.{Session}
use Rattle.session.specs.declared.Stepped.{Stepped}
use Rattle.session.specs.declared.Then.{Then}
use Rattle.session.specs.declared.Then.TheVariants.{Stop, Go}
use Rattle.session.specs.declared.Turn.{Turn}
use Rattle.session.specs.Phases.{wants, turn_at}
use Rattle.session.specs.State.{dialect_in, St, st, Out, out, Half, half, beside, stepped, at, answering}

-- ---- reading

-- ask for a read into the free end, to meet the phase's need
abbrev pub reading : Session → ℕ → ℕ → Phase → Bool → Stepped
reading s h t p lost = stepped (at s (cursor h t) (Reading p (h + wants s.capacity p) lost)) (R.Read t (s.capacity - t))

-- ... compacting only where tail meets the end
unfoldable pub asked : Session → List ℕ → Phase → Bool → Half
asked s rx p lost =
    pick (ltb s.buf.tail s.capacity)
    (half (reading s s.buf.head s.buf.tail p lost) rx)
    (half (reading s (compacted rx s.buf).1.head (compacted rx s.buf).1.tail p lost) (compacted rx s.buf).0)

-- the first n bytes of msg become those of rx from i on
unfoldable pub kept : List ℕ → ℕ → ℕ → List ℕ → List ℕ
kept rx i n msg = take n (drop i rx) ++ drop n msg

-- one turn: a step that is over, or a session and the next phase
pub data HopOut : Type 0 where
  over : Out → HopOut
  on : St → Phase → HopOut

abbrev pub hop_out : Hop → List ℕ → List ℕ → HopOut
hop_out (Over t) rx msg = over (out t rx msg)
hop_out (On s p) rx msg = on (st s rx msg) p

-- the state after a turn
abbrev pub turned : St → Turn → St
turned s t =
    st (at s.ses (cursor (s.ses.buf.head + t.drops) s.ses.buf.tail) Idle) s.rx
    (kept s.rx s.ses.buf.head t.keeps s.msg)

abbrev pub followed : St → Then → HopOut
followed s (Stop a) = over (out (answering s.ses a) s.rx s.msg)
followed s (Go p) = on s p

abbrev pub turn_of : St → Phase → Turn
turn_of s p = turn_at (dialect_in s.ses) s.ses.capacity p s.rx s.ses.buf.head

-- need(n): 17, or a read, or the turn
unfoldable pub hopped : St → Phase → Bool → HopOut
hopped s p lost =
    pick (ltb s.ses.capacity (wants s.ses.capacity p))
    (over (out (answering s.ses A.TooLarge) s.rx s.msg))
    (pick (ltb (held_count s.ses.buf) (wants s.ses.capacity p))
    (over (beside (asked s.ses s.rx p lost) s.msg))
    (followed (turned s (turn_of s p)) (turn_of s p).then))

abbrev pub on_hop : (St → Phase → Out) → HopOut → Out
on_hop k (over o) = o
on_hop k (on s p) = k s p

-- at most n turns; four are enough from any phase
unfoldable pub pumped : ℕ → St → Phase → Bool → Out
pumped zero s p lost = beside (asked s.ses s.rx p lost) s.msg
pumped (suc n) s p lost = on_hop (λ s' p'. pumped n s' p' lost) (hopped s p lost)

abbrev pub read_on : St → Phase → Bool → Out
read_on s p lost = pumped 4 s p lost
