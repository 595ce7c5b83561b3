-- `replay_records::Rest::unpack`: what was unpacked stays within out, and no more is left than before.
use Rattle.std.proofs.Common.{◌≤◌, length}
use Rattle.replay_records.proofs.Rest.unpack.Given as goal

abbrev pub invariant-loop : goal.invariant-loop
invariant-loop l = (l.len ≤ length l.out) × (length l.self.bytes.now ≤ length l.initial.self.bytes.now)
