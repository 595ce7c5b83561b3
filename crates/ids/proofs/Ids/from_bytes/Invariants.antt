-- `ids::Ids::from_bytes` meets its contract. The loop's invariant: the id is to be found among those that are left.
use mathlib.Core.Path.{◌≡◌}
use lib.ListN.{drop}
use Rattle.protocol.specs.Ids.{all, among}
use Rattle.ids.specs.Ids.{dialect_of}
use Rattle.ids.proofs.Ids.from_bytes.Given as goal

abbrev pub invariant-loop-id : goal.invariant-loop-id
invariant-loop-id l = among (dialect_of l.fn.self) (drop l.id-index all) l.b ≡ among (dialect_of l.fn.self) all l.b
