-- A read that leaves its need short: when it is one, by the record's numbers. Assumes nothing.
use mathlib.Core.Bool.{Bool, true, false, not, ◌&&◌, true≢false}
use mathlib.Core.List.{List, [], ◌∷◌, ◌++◌, map}
use mathlib.Core.Option.{Option, none, some}
use mathlib.Core.Path.{◌≡◌, refl, sym, ap, subst, ◌∙◌}
use Prim.Native.Nat.{ℕ, zero, suc, ◌+◌, ◌-◌, ◌≤◌, ◌<◌}
use native.Mathlib.Omega.{arith}
use borrow.Author.Tests.{eq-eqb, ne_eqb}
use lib.Dec.{eqb, ltb, leb}
use lib.ListN.{length, get_or, get_or-append}
use lib.Seq.{get_or-append-add}
use Rattle.protocol.specs.Bytes.{pick}
use Rattle.boundary.specs.Crossing.{stays_at}
use Rattle.record.specs.Fields.{is_one, low, requests, phases, pendings, pending_of, session_of}
use Rattle.record.specs.Record.{word_of, loaded}
use Rattle.record_load.proofs.Held.{holds, held, unheld, held-size}
use Rattle.request.specs.declared.Request.{Request}
use Rattle.session.proofs.Misfit.{fits-misfit}
use Rattle.session.specs.Calls.{misfit, is_idle}
use Rattle.session.specs.Reports.{report_refusal}
use Rattle.session.specs.declared.Pending.{Pending}
use Rattle.session.specs.declared.Pending.TheVariants.{Idle, Reading, Writing, Closing}
use Rattle.session.specs.declared.Phase.{Phase}
use Rattle.session.specs.declared.Session.{Session}
use Rattle.fast_record.specs.Standing.{number_in, standing, Stands}
use Rattle.fast_record.proofs.Laws.{number-in, fits-of, held_of}
use Rattle.fast_read.specs.Short.{tail_at, short_tail, short_in}

-- ---- the pending step of a state: 13 and up are reading

module _ (w : ℕ → ℕ) (s : Session) (k : ℕ) where
  abbrev short : Bool
  short = ltb 0 k && leb k (s.capacity - s.buf.tail) && ltb (s.buf.tail + k) (w 9) && ltb (s.buf.tail + k) s.capacity

  -- states 0 to 12, and 13 to 30
  abbrev others : List Pending
  others = Idle ∷ map (λ q. Writing q (w 10) (w 11)) (requests w) ++ Closing (is_one (w 8)) (low (w 12)) ∷ []

  abbrev readers : List Pending
  readers = map (λ p. Reading p (w 9) (is_one (w 8))) (phases w)

  none_stays : (qs : List Request) (i : ℕ) → stays_at (get_or (map (λ q. Writing q (w 10) (w 11)) qs ++ Closing (is_one (w 8)) (low (w 12)) ∷ []) i Idle) s k ≡ false
  none_stays [] zero = refl
  none_stays [] (suc i) = refl
  none_stays (q ∷ qs) zero = refl
  none_stays (q ∷ qs) (suc i) = none_stays qs i

  others-wait : (i : ℕ) → stays_at (get_or others i Idle) s k ≡ false
  others-wait zero = refl
  others-wait (suc i) = none_stays (requests w) i

  waiting : w 7 < 13 → stays_at (pending_of w) s k ≡ false
  waiting h = ap (λ (p : Pending). stays_at p s k) (get_or-append others readers Idle (w 7) h) ∙ others-wait (w 7)

  abbrev Reads : Pending → Type 0
  Reads p = (is_idle p ≡ false) × (stays_at p s k ≡ short)

  all_read : (ps : List Phase) (j : ℕ) → j < length ps → Reads (get_or (map (λ p. Reading p (w 9) (is_one (w 8))) ps) j Idle)
  all_read [] j h = absurd (omega arith)
  all_read (p ∷ ps) zero h = (refl, refl)
  all_read (p ∷ ps) (suc j) h = all_read ps j (omega arith)

  reading : 13 ≤ w 7 → w 7 < 31 → Reads (pending_of w)
  reading h l =
      let e : 13 + (w 7 - 13) ≡ w 7 = omega arith in
      let j : w 7 - 13 < 18 = omega arith in
      subst (λ (i : ℕ). Reads (get_or (pendings w) i Idle)) e
      (rw (get_or-append-add others readers (w 7 - 13) Idle) (all_read (phases w) (w 7 - 13) j))

-- ---- refusals

ended-out : (i l : Bool) → eqb (pick i (pick true 6 5) (pick l (pick true 6 0) 3)) 0 ≡ false
ended-out true l = ne_eqb 6 0 (omega arith)
ended-out false true = ne_eqb 6 0 (omega arith)
ended-out false false = ne_eqb 3 0 (omega arith)

lent_out : (i e : Bool) → eqb (pick i (pick e 6 5) 3) 0 ≡ false
lent_out true true = ne_eqb 6 0 (omega arith)
lent_out true false = ne_eqb 5 0 (omega arith)
lent_out false e = ne_eqb 3 0 (omega arith)

module _ (s : Session) (x m n k : ℕ) where
  refused : eqb (report_refusal s x m n) 0 ≡ false → 0 ≡ short_tail s x m n k
  refused e = rw e

  short-misfit : misfit s x m ≡ true → 0 ≡ short_tail s x m n k
  unfolding report_refusal
  short-misfit e = refused (rw e (ne_eqb 3 0 (omega arith)))

  module _ (fit : misfit s x m ≡ false) where
    short-ended : s.ended ≡ true → 0 ≡ short_tail s x m n k
    unfolding report_refusal
    short-ended e = refused (rw (fit, e) (ended-out (is_idle s.pending) (eqb n s.lent)))

    short-lent : eqb n s.lent ≡ false → 0 ≡ short_tail s x m n k
    unfolding report_refusal
    short-lent e = refused (rw (fit, e) (lent_out (is_idle s.pending) s.ended))

    -- neither of them: what the pending step says
    short-at : is_idle s.pending ≡ false → s.ended ≡ false → eqb n s.lent ≡ true → (b : Bool) → stays_at s.pending s k ≡ b
        → pick b (s.buf.tail + k) 0 ≡ short_tail s x m n k
    unfolding report_refusal
    short-at i e l b y = simp (fit, i, e, l, y)

  short-waiting : stays_at s.pending s k ≡ false → 0 ≡ short_tail s x m n k
  short-waiting y = go (eqb (report_refusal s x m n) 0)
    where
      go : (b : Bool) → 0 ≡ pick (b && stays_at s.pending s k) (s.buf.tail + k) 0
      go true = rw y
      go false = refl

at_words : {c t u c' t' u' : ℕ} (k : ℕ) → c ≡ c' → t ≡ t' → u ≡ u' → tail_at c t u k ≡ tail_at c' t' u' k
at_words k p q r = rw (p, q, r)

-- no session that stands
module _ (x m n k : ℕ) where
  pub unfit : (o : Option Session) → standing o x m ≡ false → 0 ≡ short_in o x m n k
  unfit none e = refl
  unfit (some s) e = go (misfit s x m) s.ended refl refl e
    where
      go : (b c : Bool) → misfit s x m ≡ b → s.ended ≡ c → not b && not c ≡ false → 0 ≡ short_tail s x m n k
      go true c f g h = short-misfit s x m n k f
      go false true f g h = short-ended s x m n k f g
      go false false f g h = absurd (true≢false h)

-- ---- a record's numbers

module _ (rec : List ℕ) (x m n k : ℕ) where
  abbrev w : ℕ → ℕ
  w = word_of rec

  at : (o : Option Session) (t : ℕ) → o ≡ loaded rec → t ≡ short_in o x m n k → t ≡ short_in (loaded rec) x m n k
  at o t f h = h ∙ ap (λ (q : Option Session). short_in q x m n k) f

  -- another step than a read is pending
  pub awaits_other : number_in rec 7 < 13 → 0 ≡ short_in (loaded rec) x m n k
  unfolding session_of
  awaits_other l = go (holds rec) refl
    where
      go : (b : Bool) → holds rec ≡ b → 0 ≡ short_in (loaded rec) x m n k
      go false h = at _ 0 (unheld rec h) refl
      go true h = at _ 0 (held rec h) (short-waiting (session_of w) x m n k (waiting w (session_of w) k (subst (λ (i : ℕ). i < 13) (number-in rec 7 (held-size rec h)) l)))

  module _ (h : Stands rec x m) where
    fit : misfit (session_of w) x m ≡ false
    fit = fits-misfit (session_of w) x m (fits-of rec x m h)

    eq : (i : ℕ) → number_in rec i ≡ w i
    eq i = number-in rec i h.sized

    pub lent_other : (n ≡ number_in rec 4 → ⊥) → 0 ≡ short_in (loaded rec) x m n k
    unfolding session_of
    lent_other d = at _ 0 (held rec (held_of rec x m h)) (short-lent (session_of w) x m n k fit (ne_eqb n (w 4) (λ e. d (e ∙ sym (eq 4)))))

    -- a read is
    pub awaits_read_lem : 13 ≤ number_in rec 7 → n ≡ number_in rec 4 → (c t u : ℕ) → c ≡ number_in rec 0 → t ≡ number_in rec 3 → u ≡ number_in rec 9
        → tail_at c t u k ≡ short_in (loaded rec) x m n k
    unfolding session_of
    awaits_read_lem l e c t u p q r =
        let (i, y) = reading w (session_of w) k (omega (arith, eq 7)) (omega (arith, eq 7, h.state)) in
        at _ _ (held rec (held_of rec x m h))
        (at_words k (p ∙ eq 0) (q ∙ eq 3) (r ∙ eq 9)
        ∙ short-at (session_of w) x m n k fit i (ne_eqb (w 6) 1 (λ z. omega (arith, eq 6, h.ended))) (eq-eqb n (w 4) (e ∙ eq 4)) (short w (session_of w) k) y)
