-- What every step of the session inside keeps: its bytes keep their length, and where one of 1 to 11 is told nothing is asked, and they stay.
-- Assumes nothing.
use Prim.Native.Nat.{ℕ, ◌/◌, ◌%◌}
use mathlib.Core.Bool.{Bool, true, false, true≢false, and-eq-true_iff}
use mathlib.Core.List.{List}
use mathlib.Core.Path.{◌≡◌, refl, sym, ◌∙◌}
use native.Mathlib.Omega.{arith}
use borrow.Author.Tests.{ltb-true}
use lib.Dec.{eqb, ltb}
use lib.ListN.{length}
use Rattle.protocol.specs.Bytes.{pick, bytes_of}
use Rattle.protocol.specs.Features as P
use Rattle.protocol.proofs.Bodies.{pick-cases}
use Rattle.protocol.proofs.Bytes.{put-length}
use Rattle.id_table.specs.Settings.{lent_in}
use Rattle.id_table.specs.Lent.{Lent}
use Rattle.id_table.specs.Lent as L
use Rattle.record.specs.Record.{stored, size}
use Rattle.record.proofs.Stored.{stored-length}
use Rattle.session.specs.Calls.{fresh, open_refusal}
use Rattle.session.specs.Core.{features_from}
use Rattle.session.specs.declared.Reply.{Reply}
use Rattle.session.specs.declared.Reply.TheVariants as R
use Rattle.boundary.specs.Crossing.{Crossed, is_refusal, OpenCrossed, opened_with, cross_open}
use Rattle.boundary.specs.Told.{reply_number}
use Rattle.boundary_misuse.specs.Misuse.{Act, Event, acted}
use Rattle.boundary_misuse.proofs.Unchanged.{told-number}
use Rattle.totals.specs.Crossing.{refuses}
use Rattle.totals.proofs.Steps.{acted-all}

pub record Sized (x : List ℕ) (c : Crossed) : Type 0 where
  pub size_same : length c.rec ≡ size
  pub tells : refuses c.number ≡ true → c.number % 256 ≡ 0
  pub same : refuses c.number ≡ true → c.rec ≡ x

-- an answer's number stands above 256, what is asked below
number-tells : (r : Reply) → refuses (reply_number r) ≡ true → reply_number r % 256 ≡ 0
unfolding reply_number
number-tells (R.Told a) e = omega arith
number-tells (R.Read at len) e = absurd (true≢false (sym e))
number-tells (R.WriteRx at len) e = absurd (true≢false (sym e))
number-tells (R.WriteLent at len) e = absurd (true≢false (sym e))
number-tells (R.WriteBytes p) e = absurd (true≢false (sym e))
number-tells R.Close e = absurd (true≢false (sym e))

-- a reply that is no refusal has none of the numbers 1 to 11
pub unrefused : (r : Reply) → is_refusal r ≡ false → refuses (reply_number r) ≡ false
unrefused r g = go (refuses (reply_number r)) refl
  where
    n : ℕ
    n = reply_number r

    go : (b : Bool) → refuses n ≡ b → b ≡ false
    go false f = refl
    go true f =
        let (a, b) = (and-eq-true_iff (ltb 0 (n / 256)) (ltb (n / 256) 12)).0 f in
        let z : n % 256 ≡ 0 = number-tells r f in
        let t = told-number r g (n / 256) (omega arith) (ltb-true 0 (n / 256) a) in
        absurd (omega (arith, t.0, ltb-true (n / 256) 12 b))

refused-back : (r : Reply) (x y : List ℕ) → refuses (reply_number r) ≡ true → pick (is_refusal r) x y ≡ x
refused-back r x y z = pick-cases (λ (l : List ℕ). l ≡ x) (is_refusal r) (λ _. refl) (λ e. absurd (true≢false (sym z ∙ unrefused r e)))

pub acted-sized : (x : List ℕ) → length x ≡ size → (e : Event) (a : Act) → Sized x (acted x e a)
acted-sized x l e =
    acted-all x e (Sized x) (record { size_same = l; tells = λ _. refl; same = λ _. refl })
    (λ _ o. record {
      size_same = pick-cases (λ (r : List ℕ). length r ≡ size) (is_refusal o.reply) (λ _. l) (λ _. stored-length o.st.ses);
      tells = number-tells o.reply;
      same = refused-back o.reply x (stored o.st.ses);
    })
    (λ t r. record { size_same = put-length x 24 (bytes_of 8 t) ∙ l; tells = λ z. absurd (true≢false (sym z)); same = λ z. absurd (true≢false (sym z)) })

-- a session that is opened
pub open_size : (rec settings banner : List ℕ) (c m : ℕ) → length rec ≡ size → length (cross_open rec settings banner c m).rec ≡ size
unfolding cross_open
open_size rec settings banner c m e =
    pick-cases S (ltb 0 (open_refusal c m)) (λ _. e) (λ _. pick-cases S (eqb (length rec) size) (λ _. go (lent_in settings)) (λ _. e))
  where
    S : OpenCrossed → Type 0
    S o = length o.rec ≡ size

    go : (t : Lent) → S (opened_with rec (features_from (P.features_of banner)) c m t)
    go (L.Ids t) = stored-length (fresh c m (features_from (P.features_of banner)) t)
    go (L.Refused n) = e
