-- What holds of what is turned away, of every outcome that is put back, and of a read that only moves tail, holds of every step.
-- Assumes nothing.
use Prim.Native.Nat.{ℕ, ◌+◌, ◌≤◌}
use mathlib.Core.List.{List}
use mathlib.Core.Option.{Option, none, some}
use borrow.Author.Tests.{ltb-false}
use lib.Dec.{ltb}
use lib.ListN.{length}
use Rattle.protocol.specs.Bytes.{bytes_of, put}
use Rattle.protocol.proofs.Bodies.{pick-cases}
use Rattle.record.specs.Record.{loaded}
use Rattle.session.specs.Reports.{report_read, report_wrote, report_fault}
use Rattle.session.specs.State.{St, st, Out}
use Rattle.session.specs.declared.Reply.{Reply}
use Rattle.session.specs.declared.Session.{Session}
use Rattle.boundary.specs.Crossing.{Crossed, crossed, turned_away, back, on_loaded, crossing, request_numbered, call_numbered, unknown_call, cross_start, stays, fault_numbered, cross_read, cross_wrote, cross_fault}
use Rattle.boundary.specs.Told.{reply_bytes, out_size}
use Rattle.boundary_misuse.specs.Misuse.{Act, start, report, has_read, wrote, fault, Event, acted}
use Rattle.boundary_misuse.proofs.Unchanged.{put_back_of}

module _ (rec : List ℕ) (e : Event) (P : Crossed → Type 0) (away : P (turned_away rec e.rx e.msg e.out))
    (put_back : out_size ≤ length e.out → (o : Out) → P (back rec e.out o))
    (stayed : (t : ℕ) (r : Reply) → P (crossed (put rec 24 (bytes_of 8 t)) e.rx e.msg (put e.out 0 (reply_bytes r)) 1)) where
  loaded-all : (k : St → Crossed) → ((s : Session) → P (k (st s e.rx e.msg))) → (o : Option Session) → P (on_loaded rec e.rx e.msg e.out k o)
  loaded-all k f none = away
  loaded-all k f (some s) = f s

  crossing-all : (k : St → Crossed) → (out_size ≤ length e.out → (s : Session) → P (k (st s e.rx e.msg))) → P (crossing rec e.rx e.msg e.out k)
  crossing-all k f = pick-cases P (ltb (length e.out) out_size) (λ _. away) (λ l. loaded-all k (f (ltb-false _ _ l)) (loaded rec))

  pub acted-all : (x : Act) → P (acted rec e x)
  unfolding cross_start cross_read cross_wrote cross_fault
  acted-all (start n a b i) = crossing-all (put_back_of rec e.lent e.out (start n a b i)) (λ l s. put_back l (call_numbered n a b (st s e.rx e.msg) e.lent (request_numbered n a b) (unknown_call (st s e.rx e.msg))))
  acted-all (report (has_read k)) =
      crossing-all (put_back_of rec e.lent e.out (report (has_read k))) (λ l s. let t : St = st s e.rx e.msg in
      pick-cases P (stays t (length e.lent) k) (λ _. stayed (s.buf.tail + k) (report_read t (length e.lent) k).reply) (λ _. put_back l (report_read t (length e.lent) k)))
  acted-all (report wrote) = crossing-all (put_back_of rec e.lent e.out (report wrote)) (λ l s. put_back l (report_wrote (st s e.rx e.msg) e.lent))
  acted-all (report (fault kind code)) = crossing-all (put_back_of rec e.lent e.out (report (fault kind code))) (λ l s. put_back l (report_fault (st s e.rx e.msg) (length e.lent) (fault_numbered kind code)))
