-- `format_id::SyncId::from_bytes` meets its contract. The loop's invariant: the id is to be found among those that are left.
use mathlib.Core.Path.{◌≡◌}
use lib.ListN.{drop}
use Rattle.protocol.specs.Ids.{all, published, among}
use Rattle.format_id.proofs.SyncId.from_bytes.Given as goal

abbrev pub invariant-loop-id : goal.invariant-loop-id
invariant-loop-id l = among published (drop l.id-index all) l.b ≡ among published all l.b
