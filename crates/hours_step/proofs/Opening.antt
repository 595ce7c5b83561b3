-- The cases of opening into a record with hours. Assumes nothing.
use Prim.Native.Nat.{ℕ}
use mathlib.Core.Bool.{Bool, true, false, true≢false, ◌&&◌, not, and-true, and-eq-true_iff}
use mathlib.Core.List.{List, [], ◌++◌}
use mathlib.Core.Path.{◌≡◌, refl, sym, ap, ap₂, ◌∙◌}
use native.Mathlib.Omega.{arith}
use borrow.Author.Tests.{eq-eqb, ne_eqb, eqb-true, ltb-true}
use lib.Dec.{eqb, ltb}
use lib.ListN.{length, take, drop, take-append-drop, length-drop}
use lib.Seq.{length-take-le}
use Rattle.protocol.specs.Bytes.{pick, put}
use Rattle.protocol.specs.Features as P
use Rattle.protocol.proofs.Bodies.{pick-cases}
use Rattle.record.specs.Record.{size}
use Rattle.record.proofs.Words.{put_whole}
use Rattle.boundary.specs.Crossing.{OpenCrossed, opened_with, cross_open}
use Rattle.boundary_misuse.proofs.Misuse.{lent-some}
use Rattle.boundary_step.specs.Opened.{open_crossed}
use Rattle.hours.specs.Settings.{hours_size, hours_place, hours_bytes_in, is_hours}
use Rattle.hours_totals.specs.Crossing.{timed_size, open_timed, timed_open}
use Rattle.hours_step.specs.Opening.{refused_table, refused_anyway}
use Rattle.id_table.specs.Settings.{settings_size, lent_in}
use Rattle.id_table.specs.Lent.{Lent}
use Rattle.id_table.specs.Lent as L
use Rattle.id_table.proofs.Laws.{id-tables}
use Rattle.session.specs.Calls.{open_refusal}
use Rattle.session.specs.Core.{features_from}
use Rattle.totals.specs.Crossing.{record_size, open_totals, total_open}
use Rattle.totals_step.proofs.Behind.{put-behind}
use Rattle.totals_step.proofs.Opening.{unopened}

module _ (settings banner : List ℕ) (rx msg : ℕ) where
  -- a refusal leaves the record
  kept : (rec : List ℕ) → ((total_open rec settings banner rx msg).number ≡ 0 → ⊥) → (total_open rec settings banner rx msg).rec ≡ rec
  unfolding total_open
  kept rec =
      let o = cross_open (pick (eqb (length rec) record_size) (take size rec) []) settings banner rx msg in
      pick-cases (λ (z : OpenCrossed). (z.number ≡ 0 → ⊥) → z.rec ≡ rec) (eqb o.number 0) (λ _ f. absurd (f refl)) (λ _ f. refl)

  -- a session is opened in it
  opened : (rec : List ℕ) → (total_open rec settings banner rx msg).number ≡ 0
      → (cross_open (pick (eqb (length rec) record_size) (take size rec) []) settings banner rx msg).number ≡ 0
  unfolding total_open
  opened rec =
      let o = cross_open (pick (eqb (length rec) record_size) (take size rec) []) settings banner rx msg in
      pick-cases (λ (z : OpenCrossed). z.number ≡ 0 → o.number ≡ 0) (eqb o.number 0) (λ e _. eqb-true o.number 0 e) (λ _ f. f)

  -- into no record none is opened
  none-opened : (total_open [] settings banner rx msg).number ≡ 0 → ⊥
  none-opened e = unopened settings banner rx msg (opened [] e)

  -- settings that a session opens with have their length
  own-size : (x : List ℕ) → (cross_open x settings banner rx msg).number ≡ 0 → length settings ≡ settings_size
  unfolding cross_open
  own-size x =
      pick-cases H (ltb 0 (open_refusal rx msg)) (λ e z. absurd (omega (arith, ltb-true 0 (open_refusal rx msg) e)))
      (λ _. pick-cases H (eqb (length x) size) (λ _. go (lent_in settings) refl) (λ _ z. absurd (omega arith)))
    where
      H : OpenCrossed → Type 0
      H o = o.number ≡ 0 → length settings ≡ settings_size

      go : (t : Lent) → lent_in settings ≡ t → H (opened_with x (features_from (P.features_of banner)) rx msg t)
      go (L.Ids t) e z = (id-tables.lends settings t e).size
      go (L.Refused n) e z = absurd (lent-some settings n e z)

  pub settings-size : (rec : List ℕ) → (total_open rec settings banner rx msg).number ≡ 0 → length settings ≡ settings_size
  settings-size rec e = own-size _ (opened rec e)

module _ (rec settings banner : List ℕ) (rx msg : ℕ) where
  module _ {l : List ℕ} {n : ℕ} where
    -- refused, in a part that is the front of the record or nothing
    refused : (k : ℕ) (part : List ℕ) → part ++ drop k rec ≡ rec → open_crossed l n ≡ total_open part settings banner rx msg → (n ≡ 0 → ⊥)
        → open_crossed (l ++ drop k rec) n ≡ open_timed rec settings (total_open part settings banner rx msg)
    refused k part w e f =
        let o = total_open part settings banner rx msg in
        let number : n ≡ o.number = ap (λ (z : OpenCrossed). z.number) e in
        let z : o.number ≡ 0 → ⊥ = λ g. f (number ∙ g) in
        let same : l ++ drop k rec ≡ rec = ap (λ (z : OpenCrossed). z.rec ++ drop k rec) e ∙ ap (λ (z : List ℕ). z ++ drop k rec) (kept settings banner rx msg part z) ∙ w in
        rw (ne_eqb o.number 0 z) (ap₂ open_crossed same number)

    pub open_other : (length rec ≡ timed_size → ⊥) → open_crossed l n ≡ total_open (take 0 rec) settings banner rx msg
        → open_crossed (l ++ drop 0 rec) n ≡ timed_open rec settings banner rx msg
    unfolding timed_open
    open_other h e =
        rw (ne_eqb (length rec) timed_size h)
        (refused 0 [] refl e (λ g. none-opened settings banner rx msg (sym (ap (λ (z : OpenCrossed). z.number) e) ∙ g)))

    module _ (h : length rec ≡ timed_size) (e : open_crossed l n ≡ total_open (take record_size rec) settings banner rx msg) where
      pub open_refused_lem : (n ≡ 0 → ⊥) → open_crossed (l ++ drop record_size rec) n ≡ timed_open rec settings banner rx msg
      unfolding timed_open
      open_refused_lem f = rw (eq-eqb (length rec) timed_size h) (refused record_size (take record_size rec) (take-append-drop record_size rec) e f)

      pub sized : n ≡ 0 → length settings ≡ settings_size
      sized f = settings-size settings banner rx msg (take record_size rec) (sym (ap (λ (z : OpenCrossed). z.number) e) ∙ f)

      -- the hours are put behind it
      pub open_in : {y : List ℕ} → n ≡ 0 → length l ≡ record_size → eqb (length settings) settings_size && not (is_hours (hours_bytes_in settings)) ≡ false
          → y ≡ put (l ++ drop record_size rec) record_size (hours_bytes_in settings) → open_crossed y 0 ≡ timed_open rec settings banner rx msg
      unfolding timed_open
      open_in {y} f k g p =
          let s : length settings ≡ settings_size = sized f in
          let d : length (drop hours_place settings) ≡ 68 = omega (arith, length-drop hours_place settings, s) in
          let w : length (hours_bytes_in settings) ≡ hours_size = length-take-le hours_size (drop hours_place settings) (omega (arith, d)) in
          let b : length (drop record_size rec) ≡ hours_size = omega (arith, length-drop record_size rec, h) in
          let q : y ≡ l ++ hours_bytes_in settings =
          p
          ∙ put-behind l (drop record_size rec) (hours_bytes_in settings) 0 record_size (omega (arith, k)) (omega (arith, w, b))
          ∙ ap (λ (z : List ℕ). l ++ z) (put_whole (drop record_size rec) (hours_bytes_in settings) (b ∙ sym w)) in
          rw (eq-eqb (length rec) timed_size h, ← e, eq-eqb n 0 f, fine s (is_hours (hours_bytes_in settings)) g) (ap (λ (z : List ℕ). open_crossed z 0) q)
        where
          fine : length settings ≡ settings_size → (i : Bool) → eqb (length settings) settings_size && not i ≡ false → i ≡ true
          fine s true g = refl
          fine s false g = absurd (true≢false (sym (eq-eqb (length settings) settings_size s) ∙ sym (and-true (eqb (length settings) settings_size)) ∙ g))

  -- other hours: what is refused anyway, or 24
  module _ (h : length rec ≡ timed_size) (lacks : eqb (length settings) settings_size && not (is_hours (hours_bytes_in settings)) ≡ true) where
    no-hours : is_hours (hours_bytes_in settings) ≡ false
    no-hours = go (is_hours (hours_bytes_in settings)) ((and-eq-true_iff (eqb (length settings) settings_size) (not (is_hours (hours_bytes_in settings)))).0 lacks).1
      where
        go : (b : Bool) → not b ≡ true → b ≡ false
        go true e = absurd (true≢false (sym e))
        go false e = refl

    pub open_lacking : {n : ℕ} → n ≡ refused_anyway settings rx msg → open_crossed rec n ≡ timed_open rec settings banner rx msg
    unfolding timed_open total_open cross_open refused_anyway
    open_lacking e =
        ap (open_crossed rec) e
        ∙ rw (eq-eqb (length rec) timed_size h, eq-eqb (length (take record_size rec)) record_size (length-take-le record_size rec (omega (arith, h))))
        (whole (open_refusal rx msg) (ltb 0 (open_refusal rx msg)) refl (lent_in settings) refl)
      where
        x : List ℕ
        x = take size (take record_size rec)

        full : length x ≡ size
        full = length-take-le size (take record_size rec) (omega (arith, h, length-take-le record_size rec (omega (arith, h))))

        Same : OpenCrossed → (number : ℕ) → Type 0
        Same o m = open_crossed rec m ≡ open_timed rec settings (open_totals (take record_size rec) o)

        -- a refusal goes through
        through : (o : OpenCrossed) → (o.number ≡ 0 → ⊥) → Same o o.number
        through o z = rw (ne_eqb o.number 0 z) (rw (ne_eqb o.number 0 z))

        whole : (k : ℕ) (b : Bool) → ltb 0 k ≡ b → (t : Lent) → lent_in settings ≡ t
            → Same (pick b (open_crossed x k) (pick (eqb (length x) size) (opened_with x (features_from (P.features_of banner)) rx msg t) (open_crossed x 3))) (pick b k (refused_table t))
        whole k true p t q = through (open_crossed x k) (λ z. omega (arith, ltb-true 0 k p))
        whole k false p (L.Ids t) q = rw (eq-eqb (length x) size full, no-hours)
        whole k false p (L.Refused n) q = rw (eq-eqb (length x) size full) (through (open_crossed x n) (lent-some settings n q))
