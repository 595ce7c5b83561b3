-- `format_flags::SyncFlags::dry_run` meets its contract.
use mathlib.Core.Path.{refl}
use Rattle.protocol.specs.Flags.{dry_run}
use Rattle.format_flags.proofs.SyncFlags.dry_run.Goals as goal

pub returns : goal.returns
unfolding dry_run
returns c = refl
