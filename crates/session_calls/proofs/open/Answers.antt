-- `session_calls::open` meets its contract.
use Rattle.std.proofs.lemmas.Result.{err_from_is_err_and}
use Rattle.session_calls.proofs.Laws.{opened_out}
use Rattle.session_calls.specs.Opening.{opened}
use Rattle.session_calls.proofs.open.Goals as goal

pub returns-in_err-check_open : goal.returns-in_err-check_open
returns-in_err-check_open c =
    let p = err_from_is_err_and c.from_residual.result c.from_residual.ensures.1 in
    rw (p.1, p.2) (opened_out _ _ _ _ _ c.in_err-check_open.ensures)

pub returns : goal.returns
unfolding opened
returns c = simp (← c.in_ok-check_open.ensures, c.fresh.ensures)
