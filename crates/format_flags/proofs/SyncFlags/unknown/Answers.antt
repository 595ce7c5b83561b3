-- `format_flags::SyncFlags::unknown` meets its contract.
use mathlib.Core.Path.{refl}
use Rattle.protocol.specs.Flags.{unknown}
use Rattle.format_flags.proofs.SyncFlags.unknown.Goals as goal

pub returns : goal.returns
unfolding unknown
returns c = refl
