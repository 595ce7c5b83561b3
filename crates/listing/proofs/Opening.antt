-- Opening on buffers that it takes: the fresh session of the published ids. Assumes nothing.
use Prim.Native.Nat.{ℕ, ◌≤◌}
use mathlib.Core.List.{[]}
use mathlib.Core.Path.{◌≡◌}
use native.Mathlib.Omega.{arith}
use borrow.Author.Tests.{le-ltb}
use Rattle.protocol.specs.Features.{features_of}
use Rattle.protocol.specs.Ids.{letters}
use Rattle.ids.specs.Ids.{ids_of}
use Rattle.ids.specs.declared.Ids.{Ids}
use Rattle.std.specs.Prelude.{Result, Ok, Err}
use Rattle.session_calls.specs.Opening as O
use Rattle.session_calls.specs.Opening.{opened, opening}
use Rattle.session.specs.Calls.{fresh, open_refusal}
use Rattle.session.specs.Core.{features_from}
use Rattle.session.specs.declared.Misuse.{Misuse}
use Rattle.session.specs.declared.Session.{Session}

module _ (x m : ℕ) (least : 8 ≤ x) (aside : x ≤ m) (ids : Ids) (same : ids ≡ ids_of letters) where
  opens : opened [] ids x m ≡ O.session (fresh x m (features_from (features_of [])) (ids_of letters))
  unfolding opened open_refusal
  opens = rw (le-ltb x 8 least, le-ltb m x aside, same)

  pub session-is : {r : Result Session Misuse} {s : Session} → opening r ≡ opened [] ids x m → r ≡ Ok s → s ≡ fresh x m (features_from (features_of [])) (ids_of letters)
  session-is e f = let g = opens in cc

  pub not-refused : {r : Result Session Misuse} {n : Misuse} → opening r ≡ opened [] ids x m → r ≡ Err n → ⊥
  not-refused e f = let g = opens in let z : ◌≡◌ {A = ℕ} 0 1 = cc in omega arith
