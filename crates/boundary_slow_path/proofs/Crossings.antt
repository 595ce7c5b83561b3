-- The two cases of a crossing: turned away, or a step of the session that is put back. Assumes nothing.
use mathlib.Core.Bool.{Bool, true, false}
use mathlib.Core.List.{List}
use mathlib.Core.Option.{Option, none, some, none-ne-some}
use mathlib.Core.Path.{◌≡◌, refl, sym, ap, ◌∙◌}
use Prim.Native.Nat.{ℕ}
use lib.Dec.{ltb}
use lib.ListN.{length}
use Rattle.protocol.specs.Bytes.{pick}
use Rattle.boundary.specs.Crossing.{Crossed, turned_away, on_loaded, back, crossing}
use Rattle.boundary.specs.Told.{out_size}
use Rattle.boundary_write_back.proofs.Laws.{back-into}
use Rattle.boundary_write_back.specs.Back.{back_into}
use Rattle.record.specs.Record.{loaded}
use Rattle.record_load.proofs.Held.{loaded-size}
use Rattle.session.specs.State.{St, st, Out}
use Rattle.session.specs.declared.Session.{Session}

-- a crossing is the step of what is entered
as_entered : (short : Bool) (l : Option Session) (rec rx msg out : List ℕ) (k : St → Crossed)
    → pick short (turned_away rec rx msg out) (on_loaded rec rx msg out k l) ≡ on_loaded rec rx msg out k (pick short none l)
as_entered true l rec rx msg out k = refl
as_entered false l rec rx msg out k = refl

entered-loaded : (short : Bool) (l : Option Session) (s : Session) → some s ≡ pick short none l → some s ≡ l
entered-loaded true l s e = absurd (none-ne-some s (sym e))
entered-loaded false l s e = e

module _ (rec rx msg out : List ℕ) where
  abbrev entry : Option Session
  entry = pick (ltb (length out) out_size) none (loaded rec)

  pub cross_away : (k : St → Crossed) → none ≡ entry → turned_away rec rx msg out ≡ crossing rec rx msg out k
  cross_away k e =
      ap (on_loaded rec rx msg out k) e ∙ sym (as_entered (ltb (length out) out_size) (loaded rec) rec rx msg out k)

  pub cross_back : (k : St → Out) (s : Session) → some s ≡ entry → (o : Out) → o ≡ k (st s rx msg) → (y : Crossed) → y ≡ back_into rec out o
      → y ≡ crossing rec rx msg out (λ s. back rec out (k s))
  cross_back k s e o g y b =
      b
      ∙ back-into rec out o (loaded-size rec s (entered-loaded (ltb (length out) out_size) (loaded rec) s e))
      ∙ ap (back rec out) g
      ∙ ap (on_loaded rec rx msg out (λ s. back rec out (k s))) e
      ∙ sym (as_entered (ltb (length out) out_size) (loaded rec) rec rx msg out (λ s. back rec out (k s)))
