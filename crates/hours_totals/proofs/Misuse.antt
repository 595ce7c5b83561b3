-- Which openings the exported functions refuse, and that a refusal leaves any record unchanged. Assumes nothing.
use Prim.Native.Nat.{ℕ}
use mathlib.Core.Bool.{Bool, true, false, true≢false, not}
use mathlib.Core.List.{List, []}
use mathlib.Core.Option.{Option, none, some}
use mathlib.Core.Path.{◌≡◌, refl, sym, ap, subst, ◌∙◌}
use native.Mathlib.Omega.{arith}
use borrow.Author.Tests.{eq-eqb, ne_eqb, eqb-true}
use lib.Dec.{eqb, ltb}
use lib.ListN.{length, take}
use lib.Seq.{length-take-le}
use Rattle.protocol.specs.Answers.{Answer, refused, number}
use Rattle.protocol.specs.Bytes.{pick}
use Rattle.protocol.specs.Refusal.{or_else, refuse, is_none}
use Rattle.id_table.specs.Settings.{lent_in}
use Rattle.id_table.specs.Lent.{Lent}
use Rattle.id_table.specs.Lent as L
use Rattle.boundary.specs.Crossing.{OpenCrossed}
use Rattle.boundary_misuse.specs.Claim.{Opens}
use Rattle.boundary_misuse.specs.Misuse.{table_refused, open_refused}
use Rattle.boundary_misuse.proofs.Misuse.{call-numbers, lent-some}
use Rattle.hours.specs.Settings.{bad_hours, hours_bytes_in, is_hours}
use Rattle.totals.specs.Crossing.{record_size, total_open}
use Rattle.totals.proofs.Claim as T
use Rattle.hours_totals.specs.Claim.{open_refused_by, TimedMisuse}
use Rattle.hours_totals.specs.Crossing.{timed_size, open_timed, timed_open}
use Rattle.hours_totals.proofs.Steps.{done, refused-same}

-- the number of a refusal; 0 for none
abbrev number_of : Option Answer → ℕ
number_of none = 0
number_of (some a) = number a

module _ (rec settings banner : List ℕ) (c m : ℕ) where
  abbrev front : List ℕ
  front = pick (eqb (length rec) timed_size) (take record_size rec) []

  front-size : eqb (length front) record_size ≡ eqb (length rec) timed_size
  front-size = go (eqb (length rec) timed_size) refl
    where
      go : (b : Bool) → eqb (length rec) timed_size ≡ b → eqb (length (pick b (take record_size rec) [])) record_size ≡ b
      go true e = let f = eqb-true (length rec) timed_size e in eq-eqb _ record_size (length-take-le record_size rec (omega (arith, f)))
      go false e = refl

  -- no refusal of an opening has the number 0
  not_none : (a : Answer) → open_refused timed_size rec settings c m ≡ some a → number a ≡ 0 → ⊥
  not_none a = go (ltb c 8) (ltb m c) (eqb (length rec) timed_size) (lent_in settings) refl
    where
      go : (p q d : Bool) (t : Lent) → lent_in settings ≡ t
          → or_else (refuse p (refused 1)) (or_else (refuse q (refused 2)) (or_else (refuse (not d) (refused 3)) (table_refused t))) ≡ some a → number a ≡ 0 → ⊥
      go true q d t e f z = absurd (omega (arith, ap number_of f, z))
      go false true d t e f z = absurd (omega (arith, ap number_of f, z))
      go false false false t e f z = absurd (omega (arith, ap number_of f, z))
      go false false true (L.Ids t) e f z = absurd (true≢false (ap is_none f))
      go false false true (L.Refused n) e f z = lent-some settings n e (ap number_of f ∙ z)

  carry : (r : Option Answer) (o : OpenCrossed) (i : Bool) → ((a : Answer) → r ≡ some a → number a ≡ 0 → ⊥) → Opens r front o → is_hours (hours_bytes_in settings) ≡ i
      → Opens (or_else r (refuse (not i) (refused bad_hours))) rec (open_timed rec settings o)
  carry none o true f p e = rw (eq-eqb o.number 0 p, e)
  carry none o false f p e = rw (eq-eqb o.number 0 p, e) (refl, refl)
  carry (some a) o i f (p, q) e = rw (ne_eqb o.number 0 (λ z. f a refl (sym p ∙ z))) (p, refl)

  opens : Opens (open_refused_by rec settings c m) rec (timed_open rec settings banner c m)
  unfolding timed_open
  opens =
      carry (open_refused timed_size rec settings c m) (total_open front settings banner c m) (is_hours (hours_bytes_in settings)) not_none
      (subst (λ (b : Bool). Opens (or_else (refuse (ltb c 8) (refused 1)) (or_else (refuse (ltb m c) (refused 2)) (or_else (refuse (not b) (refused 3)) (table_refused (lent_in settings))))) front
      (total_open front settings banner c m)) front-size ((T.misuse).opens front settings banner c m)) refl

pub timed-misuse : TimedMisuse
timed-misuse = record { calls = call-numbers; opens = opens; unchanged = λ rec b e w h. refused-same rec e b w _ (done rec e) h }
