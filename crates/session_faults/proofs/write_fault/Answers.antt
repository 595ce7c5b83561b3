-- `session_faults::write_fault` meets its contract.
use Rattle.std.proofs.Common.{arith}
use Rattle.session.specs.Reports.{write_fault}
use Rattle.session_faults.proofs.write_fault.Goals as goal

pub returns-in-Stat : goal.returns-in-Stat
unfolding write_fault
returns-in-Stat c = grind arith

pub returns-in-Send : goal.returns-in-Send
unfolding write_fault
returns-in-Send c = grind arith

pub returns-in-Quit : goal.returns-in-Quit
unfolding write_fault
returns-in-Quit c = grind (arith, c.quit_fault.ensures c.args.rx.now c.args.msg.now)
