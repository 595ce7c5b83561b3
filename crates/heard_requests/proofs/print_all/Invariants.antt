-- `heard_requests::print_all`: done is at most the length, and each request takes at least one byte.
use Rattle.std.proofs.Common.{length, ◌-◌, ◌≤◌}
use Rattle.heard_requests.proofs.print_all.Given as goal

abbrev pub invariant-loop-done : goal.invariant-loop-done
invariant-loop-done g l = l.done ≤ length l.unread

abbrev pub decreases-loop-done : goal.decreases-loop-done
decreases-loop-done g l = length l.unread - l.done
