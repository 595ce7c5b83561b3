-- `format_flags::SyncFlags::several` meets its contract.
use Rattle.protocol.proofs.Flags.{several-ones}
use Rattle.format_flags.proofs.SyncFlags.several.Goals as goal

pub returns : goal.returns
returns c = several-ones c.args.self.0
