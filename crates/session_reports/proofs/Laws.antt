-- A report of what is not pending. Assumes nothing.
use Prim.Native.Nat.{ℕ}
use mathlib.Core.Bool.{Bool}
use mathlib.Core.List.{List}
use mathlib.Core.Path.{◌≡◌, refl}
use Rattle.request.specs.declared.Request.{Request}
use Rattle.session.specs.Reports.{refused_out, read_at, wrote_at}
use Rattle.session.specs.State.{St}
use Rattle.session.specs.declared.Pending.{Pending}
use Rattle.session.specs.declared.Pending.TheVariants.{Idle, Reading, Writing, Closing}
use Rattle.session.specs.declared.Phase.{Phase}

pub read-other : (s : St) (k : ℕ) (p : Pending) → ((phase : Phase) (until : ℕ) (lost : Bool) → p ≡ Reading phase until lost → ⊥) → refused_out s 5 ≡ read_at p s k
unfolding read_at
read-other s k Idle h = refl
read-other s k (Reading phase until lost) h = absurd (h phase until lost refl)
read-other s k (Writing q from piece) h = refl
read-other s k (Closing failed code) h = refl

pub wrote-other : (s : St) (lent : List ℕ) (p : Pending) → ((q : Request) (from piece : ℕ) → p ≡ Writing q from piece → ⊥)
    → ((failed : Bool) (code : ℕ) → p ≡ Closing failed code → ⊥) → refused_out s 5 ≡ wrote_at p s lent
unfolding wrote_at
wrote-other s lent Idle h k = refl
wrote-other s lent (Reading phase until lost) h k = refl
wrote-other s lent (Writing q from piece) h k = absurd (h q from piece refl)
wrote-other s lent (Closing failed code) h k = absurd (k failed code refl)
