-- Answers to goals of `session_pump::pump`.
use Rattle.std.proofs.Common.{◌∙◌, arith}
use Rattle.session_pump.proofs.Hops.{on-good, pump_on}
use Rattle.session_pump.proofs.pump.Goals as goal

pub loop-preserved : goal.loop-preserved
loop-preserved c =
    let l = c.loop in
    let h = c.hop.ensures in
    let e = c.in-On.is in
    record {
      fits = on-good _ _ _ _ _ _ h _ _ e l.invariant.fits;
      same = l.invariant.same ∙ pump_on _ _ _ _ _ _ h l.counter (omega arith) _ _ e;
    }
