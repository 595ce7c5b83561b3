-- `request_path::has_nul` meets its contract. The invariant of its loop: the path has a NUL where one was seen, or has one from the index on.
use mathlib.Core.Bool.{◌||◌}
use mathlib.Core.Path.{◌≡◌}
use lib.ListN.{drop}
use Rattle.protocol.specs.Bytes.{has}
use Rattle.request_path.proofs.has_nul.Given as goal

abbrev pub invariant-loop-b : goal.invariant-loop-b
invariant-loop-b l = has 0 l.path ≡ (l.nul || has 0 (drop l.b-index l.path))
