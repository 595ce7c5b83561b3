-- Invariants of `session_pump::pump`. After so many turns the session fits its buffers, and the turns that are left come to what four came to at
-- the start.
use Rattle.std.proofs.Common.{◌≡◌, ◌-◌, length}
use Rattle.session.specs.State.{st, Fits}
use Rattle.session.specs.Steps.{pumped}
use Rattle.session_pump.proofs.pump.Given as goal

abbrev pub invariant-loop : goal.invariant-loop
invariant-loop l = record {
  fits : Fits l.session (length l.rx) (length l.msg);
  same : pumped 4 (st l.fn.s l.fn.rx l.fn.msg) l.fn.p l.fn.lost ≡ pumped (4 - l.counter) (st l.session l.rx l.msg) l.phase l.lost;
}
