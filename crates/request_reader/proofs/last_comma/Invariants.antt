-- `request_reader::last_comma` meets its contract. The loop's invariant: no comma stands behind the places that are left.
use mathlib.Core.Option.{none}
use mathlib.Core.Path.{◌≡◌}
use lib.ListN.{drop}
use Rattle.protocol.specs.Requests.{last_comma}
use Rattle.request_reader.proofs.last_comma.Given as goal

abbrev pub invariant-loop-at : goal.invariant-loop-at
invariant-loop-at l = last_comma (drop l.at l.text) ≡ none
