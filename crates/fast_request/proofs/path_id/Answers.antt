-- `fast_request::path_id` meets its contract: in each arm the id in the place of its key.
use mathlib.Core.Path.{◌≡◌, refl}
use Prim.Native.Nat.{ℕ, zero, suc, ◌≤◌}
use native.Mathlib.Omega.{arith}
use lib.ListN.{get_or-eq_default}
use Rattle.protocol.specs.Ids.{RECV}
use Rattle.protocol.specs.Messages.{path_id}
use Rattle.record_load.proofs.Arms.{past}
use Rattle.fast_request.specs.Starting.{path_of}
use Rattle.fast_request.proofs.path_id.Goals as goal

-- none of 1 to 4
beyond : (n : ℕ) → (1 ≤ n → 5 ≤ n) → RECV ≡ path_id (path_of n)
beyond zero h = refl
beyond (suc n) h = let l : 5 ≤ suc n = h (omega arith) in rw get_or-eq_default

pub returns-in_default : goal.returns-in_default
returns-in_default c = beyond c.args.call (past c.args.call (Unit {0}) 1 4 c.in_default.in_default-own.rest).1
