-- `listing::walk` meets its contract. The loop's invariant: the lines laid so far and those of the plain reader's next answers are all that is to be
-- printed. The measure is what is held, and nothing at the end.
use mathlib.Core.Path.{◌≡◌}
use lib.ListN.{length}
use Rattle.listing.specs.Steps.{told}
use Rattle.listing.proofs.Entries.{ahead, Walk, rank_of}
use Rattle.listing.proofs.walk.Given as goal

abbrev pub invariant-loop-number : goal.invariant-loop-number
invariant-loop-number l =
    Walk (length l.initial.rx) (ahead (length l.initial.rx) l.n (told l.initial.heard l.initial.rx l.initial.msg)) l.initial.out l.from l.rx l.msg l.out l.at l.heard × (length l.rx ≡ length l.initial.rx) × (length l.msg ≡ length l.initial.msg)

abbrev pub decreases-loop-number : goal.decreases-loop-number
decreases-loop-number l = rank_of l.heard l.rx l.msg
