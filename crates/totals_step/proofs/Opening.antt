-- The cases of opening into a record with totals. Assumes nothing.
use Rattle.std.proofs.Common.{◌≡◌, ℕ, eqb, ltb, List, [], ◌++◌, length, take, drop, sym, refl, ap, ◌∙◌, subst, ap₂, arith, take-append-drop, ltb-true, eq-eqb, ne_eqb}
use Rattle.protocol.specs.Bytes.{number_at}
use Rattle.protocol.specs.Features as P
use Rattle.protocol.proofs.Bodies.{pick-cases}
use Rattle.boundary.specs.Crossing.{OpenCrossed, opened_with, cross_open}
use Rattle.boundary_misuse.proofs.Misuse.{lent-some}
use Rattle.boundary_step.specs.Opened.{open_crossed}
use Rattle.id_table.specs.Settings.{lent_in}
use Rattle.id_table.specs.Lent.{Lent}
use Rattle.id_table.specs.Lent as L
use Rattle.record.specs.Record.{size, word_of, stored}
use Rattle.record.specs.Fields.{fields}
use Rattle.session.specs.Calls.{open_refusal}
use Rattle.session.specs.Core.{features_from}
use Rattle.totals.specs.Crossing.{record_size, totalling, open_totals, total_open}

module _ (rec settings banner : List ℕ) (rx msg : ℕ) where
  -- a refusal leaves the record
  kept : ((cross_open rec settings banner rx msg).number ≡ 0 → ⊥) → (cross_open rec settings banner rx msg).rec ≡ rec
  unfolding cross_open
  kept =
      pick-cases S (ltb 0 (open_refusal rx msg)) (λ _ _. refl)
      (λ _. pick-cases S (eqb (length rec) size) (λ _. go (lent_in settings)) (λ _ _. refl))
    where
      S : OpenCrossed → Type 0
      S o = (o.number ≡ 0 → ⊥) → o.rec ≡ rec

      go : (t : Lent) → S (opened_with rec (features_from (P.features_of banner)) rx msg t)
      go (L.Ids t) f = absurd (f refl)
      go (L.Refused n) f = refl

-- a session that is opened holds nothing
holds-none : (rec settings banner : List ℕ) (rx msg : ℕ) → (cross_open rec settings banner rx msg).number ≡ 0
    → word_of (cross_open rec settings banner rx msg).rec 2 ≡ word_of (cross_open rec settings banner rx msg).rec 3
unfolding cross_open stored fields number_at
holds-none rec settings banner rx msg =
    pick-cases H (ltb 0 (open_refusal rx msg)) (λ e z. absurd (omega (arith, ltb-true 0 (open_refusal rx msg) e)))
    (λ _. pick-cases H (eqb (length rec) size) (λ _. go (lent_in settings) refl) (λ _ z. absurd (omega arith)))
  where
    H : OpenCrossed → Type 0
    H o = o.number ≡ 0 → word_of o.rec 2 ≡ word_of o.rec 3

    go : (t : Lent) → lent_in settings ≡ t → H (opened_with rec (features_from (P.features_of banner)) rx msg t)
    go (L.Ids t) e z = refl
    go (L.Refused n) e z = absurd (lent-some settings n e z)

-- into no record none is opened
pub unopened : (settings banner : List ℕ) (rx msg : ℕ) → (cross_open [] settings banner rx msg).number ≡ 0 → ⊥
unfolding cross_open
unopened settings banner rx msg =
    pick-cases (λ (o : OpenCrossed). o.number ≡ 0 → ⊥) (ltb 0 (open_refusal rx msg)) (λ h e. omega (arith, ltb-true 0 (open_refusal rx msg) h)) (λ _ e. omega arith)

module _ (rec settings banner : List ℕ) (rx msg : ℕ) {l : List ℕ} {n : ℕ} where
  -- refused, in a part that is the front of the record or nothing
  refused : (k : ℕ) (part : List ℕ) → part ++ drop k rec ≡ rec → open_crossed l n ≡ cross_open part settings banner rx msg → (n ≡ 0 → ⊥)
      → open_crossed (l ++ drop k rec) n ≡ open_totals rec (cross_open part settings banner rx msg)
  refused k part w e f =
      let o = cross_open part settings banner rx msg in
      let number : n ≡ o.number = ap (λ (z : OpenCrossed). z.number) e in
      let z : o.number ≡ 0 → ⊥ = λ g. f (number ∙ g) in
      let same : l ++ drop k rec ≡ rec = ap (λ (z : OpenCrossed). z.rec ++ drop k rec) e ∙ ap (λ (z : List ℕ). z ++ drop k rec) (kept part settings banner rx msg z) ∙ w in
      rw (ne_eqb o.number 0 z) (ap₂ open_crossed same number)

  pub open_other : (length rec ≡ record_size → ⊥) → open_crossed l n ≡ cross_open (take 0 rec) settings banner rx msg
      → open_crossed (l ++ drop 0 rec) n ≡ total_open rec settings banner rx msg
  unfolding total_open
  open_other h e =
      rw (ne_eqb (length rec) record_size h)
      (refused 0 [] refl e (λ g. unopened settings banner rx msg (sym (ap (λ (z : OpenCrossed). z.number) e) ∙ g)))

  module _ (h : length rec ≡ record_size) (e : open_crossed l n ≡ cross_open (take size rec) settings banner rx msg) where
    pub open_refused_lem : (n ≡ 0 → ⊥) → open_crossed (l ++ drop size rec) n ≡ total_open rec settings banner rx msg
    unfolding total_open
    open_refused_lem f = rw (eq-eqb (length rec) record_size h) (refused size (take size rec) (take-append-drop size rec) e f)

    pub open_in : {y : List ℕ} → n ≡ 0 → y ≡ totalling l 0 0 0 0 → open_crossed y 0 ≡ total_open rec settings banner rx msg
    unfolding total_open
    open_in f g = rw (eq-eqb (length rec) record_size h, ← e, eq-eqb n 0 f) (ap (λ (z : List ℕ). open_crossed z 0) g)

    pub open_none : n ≡ 0 → word_of l 2 ≡ word_of l 3
    open_none f =
        subst (λ (o : OpenCrossed). word_of o.rec 2 ≡ word_of o.rec 3) (sym e)
        (holds-none (take size rec) settings banner rx msg (sym (ap (λ (z : OpenCrossed). z.number) e) ∙ f))
