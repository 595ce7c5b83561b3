-- The cases of a step on a record with totals: turned away, refused, over a limit, taken. Assumes nothing.
use Rattle.std.proofs.Common.{◌≡◌, ℕ, ◌<◌, ◌≤◌, Bool, true, false, not, ◌&&◌, ◌||◌, leb, List, [], ◌∷◌, ◌++◌, length, drop, sym, refl, ap, ◌∙◌, subst, ap₂, true≢false, lt_of_not-le, lt-ltb, eq-eqb, ne_eqb, le-leb, leb-false}
use mathlib.Core.Bool.{and-false, and-true, or-true, and-eq-true_iff}
use native.Mathlib.Decide.{dec_le}
use borrow.Author.Tests.{lt-leb}
use Rattle.protocol.specs.Bytes.{put}
use Rattle.record.specs.Record.{size, words}
use Rattle.boundary.specs.Crossing.{Crossed, crossed, turned_away, cross_start, cross_read, cross_wrote, cross_fault}
use Rattle.boundary.specs.Heard.{heard}
use Rattle.boundary.specs.Told.{out_size, reply_number, reply_bytes}
use Rattle.boundary_parts.specs.Bounds.{InBounds, named}
use Rattle.totals.specs.Crossing.{record_size, asked_of, limit, refuses, counted, piece_asked, totalling, with_totals, totalled, wrong_length, on_record}
use Rattle.totals_step.specs.Settled.{room_for, Stands}

-- too short a slice for a reply
module _ (rec rx msg lent : List ℕ) (out : List ℕ) (h : length out < out_size) where
  pub short-start : (n a b : ℕ) → turned_away rec rx msg out ≡ cross_start rec rx msg lent n a b out
  unfolding cross_start
  short-start n a b = rw (lt-ltb (length out) out_size h)

  pub short-read : (k : ℕ) → turned_away rec rx msg out ≡ cross_read rec rx msg lent k out
  unfolding cross_read
  short-read k = rw (lt-ltb (length out) out_size h)

  pub short-wrote : turned_away rec rx msg out ≡ cross_wrote rec rx msg lent out
  unfolding cross_wrote
  short-wrote = rw (lt-ltb (length out) out_size h)

  pub short-fault : (kind code : ℕ) → turned_away rec rx msg out ≡ cross_fault rec rx msg lent kind code out
  unfolding cross_fault
  short-fault kind code = rw (lt-ltb (length out) out_size h)

-- a step that such a slice would have turned away
module _ (rec rx msg out : List ℕ) (c : Crossed) (short : length out < out_size → turned_away rec rx msg out ≡ c) where
  -- it was not refused: there is room for its reply
  pub room-taken : {x rx' msg' out' : List ℕ} {k : ℕ} → crossed x rx' msg' out' k ≡ c → refuses k ≡ false → out_size ≤ length out
  room-taken e f = go (dec_le out_size (length out))
    where
      go : Dec (out_size ≤ length out) → out_size ≤ length out
      go (yes h) = h
      go (no g) = absurd (true≢false (ap (λ (z : Crossed). refuses z.number) (short (lt_of_not-le g) ∙ sym e) ∙ f))

  -- what the session takes where there is room
  pub room-takes : (t : Bool) → (out_size ≤ length out → t ≡ not (refuses c.number)) → room_for (length out) t ≡ not (refuses c.number)
  room-takes t f = go (dec_le out_size (length out))
    where
      go : Dec (out_size ≤ length out) → room_for (length out) t ≡ not (refuses c.number)
      go (yes h) = rw (le-leb out_size (length out) h) (f h)
      go (no g) = let h = lt_of_not-le g in rw (lt-leb out_size (length out) h, ← short h)

module _ (rec rx msg out : List ℕ) where
  pub other_length : {o : List ℕ} {n : ℕ} (c : Crossed) → (length rec ≡ record_size → ⊥) → (n ≡ wrong_length) × (o ≡ counted wrong_length 0 out)
      → crossed rec rx msg o n ≡ on_record rec rx msg out c
  other_length c h (e, f) = rw (ne_eqb (length rec) record_size h) (ap₂ (λ (l : List ℕ) (m : ℕ). crossed rec rx msg l m) f e)

  -- a step on a record of that length, whose session's step is c; r, n and i are to stand behind it
  module _ (r n i : ℕ) (here : length rec ≡ record_size) (c : Crossed) where
    module _ {x rx' msg' out' : List ℕ} {k : ℕ} (e : crossed x rx' msg' out' k ≡ c) where
      settled-by : with_totals rec r n i (crossed x rx' msg' out' k) ≡ on_record rec rx msg out (with_totals rec r n i c)
      settled-by = rw (eq-eqb (length rec) record_size here) (ap (with_totals rec r n i) e)

      -- a refusal leaves the numbers behind
      refused : {o : List ℕ} {m : ℕ} → refuses k ≡ true → (m ≡ k) × (o ≡ counted k 0 out') → crossed (x ++ drop size rec) rx' msg' o m ≡ with_totals rec r n i (crossed x rx' msg' out' k)
      refused f (g, h) = rw f (ap₂ (λ (l : List ℕ) (m : ℕ). crossed (x ++ drop size rec) rx' msg' l m) h g)

      pub settled-refused : {o : List ℕ} {m : ℕ} → refuses k ≡ true → (m ≡ k) × (o ≡ counted k 0 out') → crossed (x ++ drop size rec) rx' msg' o m ≡ on_record rec rx msg out (with_totals rec r n i c)
      settled-refused f g = refused f g ∙ settled-by

      -- a step that is taken
      taken : {y o : List ℕ} {j : ℕ} → refuses k ≡ false → y ≡ totalling x r n (piece_asked (heard k out' rx' msg') (asked_of rec)) i → j ≡ i → o ≡ counted k j out'
          → crossed y rx' msg' o k ≡ with_totals rec r n i (crossed x rx' msg' out' k)
      taken f g q h = rw f (ap₂ (λ (l m : List ℕ). crossed l rx' msg' m k) g (h ∙ ap (λ (m : ℕ). counted k m out') q))

      pub settled-taken : {y o : List ℕ} {j : ℕ} → refuses k ≡ false → y ≡ totalling x r n (piece_asked (heard k out' rx' msg') (asked_of rec)) i → j ≡ i → o ≡ counted k j out'
          → crossed y rx' msg' o k ≡ on_record rec rx msg out (with_totals rec r n i c)
      settled-taken f g q h = taken f g q h ∙ settled-by

    -- ---- 21: not for what is refused, nor where all of them stay below the limit

    abbrev over : Bool
    over = leb limit r || (leb limit n || leb limit i)

    unless : (not (refuses c.number) && over) ≡ false
        → on_record rec rx msg out (with_totals rec r n i c) ≡ on_record rec rx msg out (totalled rec rx msg out r n i c)
    unless f = rw f

    if_refused : refuses c.number ≡ true → on_record rec rx msg out (with_totals rec r n i c) ≡ on_record rec rx msg out (totalled rec rx msg out r n i c)
    if_refused f = unless (rw f)

    if_below : r < limit → n < limit → i < limit → on_record rec rx msg out (with_totals rec r n i c) ≡ on_record rec rx msg out (totalled rec rx msg out r n i c)
    if_below p q s = unless (rw (lt-leb limit r p, lt-leb limit n q, lt-leb limit i s) (and-false (not (refuses c.number))))

    module _ {x rx' msg' out' : List ℕ} {k : ℕ} (e : crossed x rx' msg' out' k ≡ c) where
      same-refusal : refuses c.number ≡ refuses k
      same-refusal = ap (λ (z : Crossed). refuses z.number) (sym e)

      pub totalled-refused : {o : List ℕ} {m : ℕ} → refuses k ≡ true → (m ≡ k) × (o ≡ counted k 0 out') → crossed (x ++ drop size rec) rx' msg' o m ≡ on_record rec rx msg out (totalled rec rx msg out r n i c)
      totalled-refused f g = settled-refused e f g ∙ if_refused (same-refusal ∙ f)

      pub totalled-taken : {y o : List ℕ} {j : ℕ} → refuses k ≡ false → r < limit → n < limit → i < limit → y ≡ totalling x r n (piece_asked (heard k out' rx' msg') (asked_of rec)) i
          → j ≡ i → o ≡ counted k j out' → crossed y rx' msg' o k ≡ on_record rec rx msg out (totalled rec rx msg out r n i c)
      totalled-taken f p q s g j h = settled-taken e f g j h ∙ if_below p q s

      -- what was found not to be passed by what the session takes
      pub stays-below : {t : Bool} (b : Bool) → t ≡ not (refuses c.number) → b && t ≡ false → refuses k ≡ false → b ≡ false
      stays-below {t} b g f h = sym (and-true b) ∙ (rw (g ∙ ap not (same-refusal ∙ h)) at f)

    -- the report is one that the session takes
    pub told : {t : Bool} {o : List ℕ} {m : ℕ} (b : Bool) → t ≡ not (refuses c.number) → b && t ≡ true → (b ≡ true → over ≡ true) → (m ≡ 5376) × (o ≡ counted 5376 0 (put out 0 (words (7 ∷ 0 ∷ 0 ∷ []))))
        → crossed rec rx msg o m ≡ on_record rec rx msg out (totalled rec rx msg out r n i c)
    unfolding reply_bytes reply_number
    told {t} b e f g (p, q) =
        let (d, h) = (and-eq-true_iff b t).0 f in
        ap₂ (λ (l : List ℕ) (j : ℕ). crossed rec rx msg l j) q p ∙ rw (eq-eqb (length rec) record_size here, ← e, h, g d)

-- the first or the last of three is not below
pub either : (r n k : ℕ) → (leb limit r || leb limit k) ≡ true → (leb limit r || (leb limit n || leb limit k)) ≡ true
either r n k e = go (leb limit r) (leb limit n) (leb limit k) e
  where
    go : (a b c : Bool) → (a || c) ≡ true → (a || (b || c)) ≡ true
    go true b c f = refl
    go false b c f = rw f (or-true b)

-- two numbers are below
pub or_below : (r k : ℕ) → (leb limit r || leb limit k) ≡ false → (r < limit) × (k < limit)
or_below r k e = go (leb limit r) (leb limit k) refl refl e
  where
    go : (a b : Bool) → leb limit r ≡ a → leb limit k ≡ b → (a || b) ≡ false → (r < limit) × (k < limit)
    go true b x y f = absurd (true≢false f)
    go false true x y f = absurd (true≢false f)
    go false false x y f = (leb-false limit r x, leb-false limit k y)

-- where a step's parts are inside, what it asks to be written is
pub stands : {x rx msg out : List ℕ} {k : ℕ} (lent : List ℕ) (c : Crossed) → crossed x rx msg out k ≡ c → InBounds lent c → Stands k out
unfolding named
stands lent c e h f = rw f at (subst (InBounds lent) (sym e) h)
