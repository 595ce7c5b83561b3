-- `replay_records::decode` is safe and ends: the count stays within out, and each turn takes a byte.
use Rattle.std.proofs.Common.{◌≤◌, length}
use Rattle.replay_records.proofs.decode.Given as goal

abbrev pub invariant-loop-left : goal.invariant-loop-left
invariant-loop-left l = l.n ≤ length l.out

abbrev pub decreases-loop-left : goal.decreases-loop-left
decreases-loop-left l = length l.left
