-- Answers to goals of `boundary_slow_path::slow_start`.
use Rattle.boundary.specs.Crossing.{request_numbered, call_numbered, unknown_call, cross_start}
use Rattle.boundary_slow_path.proofs.Crossings.{cross_back}
use Rattle.boundary_slow_path.proofs.slow_start.Goals as goal

pub returns : goal.returns
unfolding cross_start
returns c =
    let a = c.args in
    cross_back _ _ _ _ (λ s. call_numbered a.call a.a a.b s a.lent.now (request_numbered a.call a.a a.b) (unknown_call s)) _ c.in-Some.ensures _ c.begin.ensures _ (c.give_back.ensures _ _)
