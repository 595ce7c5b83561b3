-- The card of the exported functions, from that of the session with totals: a push start outside the hours is 25 and leaves all as it was, and every other event is
-- one of the session with totals.
-- Assumes nothing.
use Prim.Native.Nat.{ℕ, ◌/◌, ◌%◌, ◌<◌}
use mathlib.Core.Bool.{Bool, true, false, true≢false, ◌&&◌, not, and-eq-true_iff}
use mathlib.Core.List.{List, [], ◌∷◌, ◌++◌}
use mathlib.Core.Logic.{◌⊎◌, inl, inr}
use mathlib.Core.Option.{Option, none, some}
use mathlib.Core.Path.{◌≡◌, refl, sym, ap, ◌∙◌, subst}
use native.Mathlib.Omega.{arith}
use borrow.Author.Tests.{eq-eqb, ne_eqb, eqb-true, eqb-false, ltb-true}
use lib.Dec.{eqb, ltb}
use lib.ListN.{length, take, drop, take-append-drop, length-append, length-drop}
use lib.Seq.{take_at, drop_at}
use Rattle.protocol.specs.Answers.{Answer, refused}
use Rattle.protocol.specs.Bytes.{pick, put}
use Rattle.protocol.specs.Hours.{Hours, lets}
use Rattle.protocol.specs.Refusal.{or_else, refuse, is_none, closed_hours}
use Rattle.protocol.proofs.Bodies.{pick-cases}
use Rattle.protocol.proofs.Bytes.{put-length}
use Rattle.record.specs.Record.{word_of}
use Rattle.record.proofs.States.{above, first}
use Rattle.boundary.specs.Crossing.{Crossed, OpenCrossed}
use Rattle.boundary.specs.Heard.{answer_heard, heard}
use Rattle.boundary.specs.Told.{reply_number, reply_bytes}
use Rattle.boundary.proofs.Reports.{NarrowRefusal, lets as lets_in_lem, by_number, by_feature}
use Rattle.boundary_misuse.specs.Claim.{heard_of, follow}
use Rattle.boundary_misuse.specs.Misuse.{Act, start, report, has_read, wrote, fault, Event, Wide, AllWide, acted_by, done_by, Seen, opened, call_of, refusal}
use Rattle.boundary_misuse.proofs.Table.{table-narrow}
use Rattle.hours.specs.Settings.{hours_size, hours_bytes_in, is_hours}
use Rattle.hours.specs.Slots.{hours_of}
use Rattle.totals.specs.Card.{total_by, Sums, no_sums, adds, sums_after, Shows, passes, pushes, closed_to, refused_by, AnswersBy, EveryMoment}
use Rattle.totals.specs.Crossing.{record_size, overflowed, refuses, total_open}
use Rattle.totals.specs.System.{total_functions}
use Rattle.totals.proofs.Beside.{counted-at}
use Rattle.totals.proofs.Card.{never_closed, refuses-low, opened-length, card}
use Rattle.totals.proofs.Claim.{total-tells}
use Rattle.hours_totals.specs.Claim.{hours_lent, TimedCard}
use Rattle.hours_totals.specs.Crossing.{timed_size, hours_at, beside, closed_reply, closed_now, starts_push, timed_open, timed_start, timed_read, timed_wrote, timed_fault}
use Rattle.hours_totals.specs.System.{timed_functions}
use Rattle.hours_totals.proofs.Steps.{front-word, inner-length, front-after, behind-after}

-- the calls numbered 7 and 8 push
push_called : (a b : ℕ) (p : List ℕ) (n : ℕ) → pushes (call_of n a b p) ≡ starts_push n
push_called a b p =
    first 15 (λ n. pushes (call_of n a b p) ≡ starts_push n)
    (refl, (refl, (refl, (refl, (refl, (refl, (refl, (refl, (refl, (refl, (refl, (refl, (refl, (refl, (refl, tt)))))))))))))))
    (λ n. rw (ne_eqb (above 15 n) 7 (omega arith), ne_eqb (above 15 n) 8 (omega arith)))

-- ---- one event, on a record that has hours h

module _ (h : Option Hours) (s : Seen) (t : Sums) (rec : List ℕ) (here : length rec ≡ timed_size) (kept : hours_at rec ≡ h) (e : Event) where
  abbrev front : List ℕ
  front = take record_size rec

  abbrev c : Crossed
  c = total_by front e

  abbrev t' : Sums
  t' = adds s t e.act

  -- what the table refuses is refused by one of the numbers 1 to 11, and nothing else is
  by-table : (r : Option Answer) → NarrowRefusal r → (p : Bool) → AnswersBy (or_else r (refuse p (refused overflowed))) t'.reads front e c
      → refuses c.number ≡ not (is_none r)
  by-table r (by_number {n = n} i) p a = refuses-low c.number n a.0.0 i.0 i.1.0
  by-table r (by_feature {n = n} i) p a = refuses-low c.number 10 a.0.0 (omega arith) (omega arith)
  by-table r lets_in_lem true a = rw a.0.0
  by-table r lets_in_lem false a = go (refuses c.number) refl
    where
      go : (b : Bool) → refuses c.number ≡ b → b ≡ false
      go false f = refl
      go true f =
          let (p, q) = (and-eq-true_iff (ltb 0 (c.number / 256)) (ltb (c.number / 256) 12)).0 f in
          let z : c.number % 256 ≡ 0 = total-tells front e f in
          absurd (omega (arith, (a.0 (c.number / 256) (omega (arith, z)) (ltb-true 0 (c.number / 256) p)).0, ltb-true (c.number / 256) 12 q))

  refused-when : AnswersBy (refused_by none s t e) t'.reads front e c → refuses c.number ≡ not (is_none (refusal s e))
  refused-when a =
      by-table (refusal s e) (table-narrow s e e.act) (passes t')
      (subst (λ (y : Option Answer). AnswersBy (or_else (refusal s e) (or_else y (refuse (passes t') (refused overflowed)))) t'.reads front e c) (never_closed e e.act) a)

  -- it is one of the session with totals, or turned away
  abbrev Turn : (r q : Option Answer) → Act → Type 0
  Turn r q x =
      ((or_else r (or_else (closed_to h e x) q) ≡ or_else r (or_else (closed_to none e x) q)) × (acted_by timed_functions rec e x ≡ beside rec (acted_by total_functions front e x)))
      ⊎ ((or_else r (or_else (closed_to h e x) q) ≡ some (refused closed_hours)) × (acted_by timed_functions rec e x ≡ closed_now rec e.rx e.msg e.out))

  turn : (r q : Option Answer) (x : Act) → refuses (acted_by total_functions front e x).number ≡ not (is_none r) → Turn r q x
  unfolding timed_start timed_read timed_wrote timed_fault
  turn r q (start n a b i) f =
      rw (eq-eqb (length rec) timed_size here, kept, push_called a b e.lent n, f) (go (lets h i) (starts_push n) r)
    where
      y : Crossed
      y = acted_by total_functions front e (start n a b i)

      go : (l p : Bool) (r : Option Answer)
          → ((or_else r (or_else (refuse (not l && p) (refused closed_hours)) q) ≡ or_else r q) × (pick (not l && (p && not (not (is_none r)))) (closed_now rec e.rx e.msg e.out) (beside rec y) ≡ beside rec y))
          ⊎ ((or_else r (or_else (refuse (not l && p) (refused closed_hours)) q) ≡ some (refused closed_hours)) × (pick (not l && (p && not (not (is_none r)))) (closed_now rec e.rx e.msg e.out) (beside rec y) ≡ closed_now rec e.rx e.msg e.out))
      go true p r = inl (refl, refl)
      go false false r = inl (refl, refl)
      go false true (some a) = inl (refl, refl)
      go false true none = inr (refl, refl)
  turn r q (report (has_read k)) f = inl (refl, rw (eq-eqb (length rec) timed_size here))
  turn r q (report wrote) f = inl (refl, rw (eq-eqb (length rec) timed_size here))
  turn r q (report (fault kind code)) f = inl (refl, rw (eq-eqb (length rec) timed_size here))

  -- ---- what is answered

  beside-answers : (r : Option Answer) (k : ℕ) → AnswersBy r k front e c → AnswersBy r k rec e (beside rec c)
  beside-answers none k a = a
  beside-answers (some x) k ((p, q, (u, v, w)), z) =
      ((p, q, (ap (λ (l : List ℕ). l ++ drop record_size rec) u ∙ take-append-drop record_size rec, v, w)), z)

  closed-answers : (k : ℕ) → AnswersBy (some (refused closed_hours)) k rec e (closed_now rec e.rx e.msg e.out)
  unfolding reply_number heard answer_heard
  closed-answers k =
      ((refl, refl, (refl, refl, refl)), λ room. counted-at (reply_number closed_reply) 0 (put e.out 0 (reply_bytes closed_reply)) (omega arith) refl (omega (arith, put-length e.out 0 (reply_bytes closed_reply))))

-- ---- what the record shows

shows-on : (capacity : ℕ) (t : Sums) (rec : List ℕ) → Event → Shows capacity t (take record_size rec) → Shows capacity t rec
shows-on capacity t rec e k =
    let w : (i : ℕ) → i < 37 → word_of rec i ≡ word_of (take record_size rec) i = λ i l. sym (front-word rec e i l) in
    record {
      received = w 32 (omega arith) ∙ k.received;
      written = w 34 (omega arith) ∙ k.written;
      reads = w 36 (omega arith) ∙ k.reads;
      consumed = λ rx l. rw (w 32 (omega arith), w 33 (omega arith), w 2 (omega arith), w 3 (omega arith)) (k.consumed rx l);
    }

-- ---- every list of events

-- what is known of the session with totals at a moment
abbrev Always : Seen → Sums → List ℕ → Type 0
Always s t x = (es : List Event) → AllWide es → EveryMoment total_functions none s t x es

any : Event
any = record { act = report wrote; lent = []; rx = []; msg = []; out = [] }

-- an event, and those behind it
module _ (h : Option Hours) (s : Seen) (t : Sums) (rec : List ℕ) (e : Event) (es : List Event) (here : length rec ≡ timed_size) (kept : hours_at rec ≡ h) where
  abbrev x : List ℕ
  x = take record_size rec

  abbrev sums : Sums
  sums = adds s t e.act

  abbrev Rest : Option Answer → Crossed → Type 0
  Rest r y = AnswersBy r sums.reads rec e y × EveryMoment timed_functions h (follow r s e (heard_of y)) (sums_after r t sums) y.rec es

  -- what is known of the session with totals behind the event
  abbrev After : List ℕ → Type 0
  After l = Always (follow (refused_by none s t e) s e (heard_of (total_by x e))) (sums_after (refused_by none s t e) t sums) l

  event-holds : Always s t x → Wide e
      → ((s : Seen) (t : Sums) (rec : List ℕ) → length rec ≡ timed_size → hours_at rec ≡ h → Always s t (take record_size rec) → EveryMoment timed_functions h s t rec es)
      → Rest (refused_by h s t e) (done_by timed_functions rec e)
  event-holds k w later = go (turn h s t rec here kept e (refusal s e) (refuse (passes sums) (refused overflowed)) e.act (refused-when h s t rec here kept e answered))
    where
      answered : AnswersBy (refused_by none s t e) sums.reads x e (total_by x e)
      answered = (k (e ∷ []) (w, tt)).1.0

      after : After (total_by x e).rec
      after es' v' = (k (e ∷ es') (w, v')).1.1

      go : Turn h s t rec here kept e (refusal s e) (refuse (passes sums) (refused overflowed)) e.act → Rest (refused_by h s t e) (done_by timed_functions rec e)
      go (inl (p, q)) =
          rw (p, q) (
            beside-answers h s t rec here kept e (refused_by none s t e) sums.reads answered,
            later _ _ (beside rec (total_by x e)).rec
                (length-append (total_by x e).rec (drop record_size rec) ∙ omega (arith, inner-length rec e here, length-drop record_size rec, here))
                (ap hours_of (behind-after rec e here) ∙ kept)
                (subst After (sym (front-after rec e here)) after),
          )
      go (inr (p, q)) = rw (p, q) (closed-answers h s t rec here kept e sums.reads, later s t rec here kept k)

every_moment : (h : Option Hours) (s : Seen) (t : Sums) (rec : List ℕ) (es : List Event) → length rec ≡ timed_size → hours_at rec ≡ h → Always s t (take record_size rec) → AllWide es
    → EveryMoment timed_functions h s t rec es
every_moment h s t rec [] here kept k v = shows-on s.capacity t rec any (k [] tt)
every_moment h s t rec (e ∷ es) here kept k (w, v) =
    (shows-on s.capacity t rec e (k [] tt), event-holds h s t rec e es here kept k w (λ s t rec p q k. every_moment h s t rec es p q k v))

-- ---- from the opening on

module _ (rec settings banner : List ℕ) (c m : ℕ) where
  abbrev o : OpenCrossed
  o = total_open (pick (eqb (length rec) timed_size) (take record_size rec) []) settings banner c m

  -- a session with totals was opened, and the hours are those of the settings
  record Opened (y : OpenCrossed) : Type 0 where
    number : o.number ≡ 0
    fine : is_hours (hours_bytes_in settings) ≡ true
    is : y.rec ≡ o.rec ++ hours_bytes_in settings

  opened-is : (timed_open rec settings banner c m).number ≡ 0 → Opened (timed_open rec settings banner c m)
  unfolding timed_open
  opened-is = go (eqb o.number 0) (is_hours (hours_bytes_in settings)) refl refl
    where
      go : (a b : Bool) → eqb o.number 0 ≡ a → is_hours (hours_bytes_in settings) ≡ b
          → let y : OpenCrossed = pick a (pick b (record { rec = o.rec ++ hours_bytes_in settings; number = 0 }) (record { rec = rec; number = 24 })) (record { rec = rec; number = o.number }) in
          y.number ≡ 0 → Opened y
      go true true p q z = record { number = eqb-true o.number 0 p; fine = q; is = refl }
      go true false p q z = absurd (omega (arith, z))
      go false b p q z = absurd (eqb-false o.number 0 p z)

-- bytes of hours are 32
hours-length : (b : List ℕ) → is_hours b ≡ true → length b ≡ hours_size
unfolding is_hours
hours-length b = pick-cases (λ (t : Bool). t ≡ true → length b ≡ hours_size) (eqb (length b) hours_size) (λ e _. eqb-true (length b) hours_size e) (λ _ f. absurd (true≢false (sym f)))

pub timed-card : TimedCard
timed-card rec settings banner c m wide z es v =
    let p = opened-is rec settings banner c m z in
    let l : length (o rec settings banner c m).rec ≡ record_size = opened-length _ settings banner c m wide p.number in
    subst (λ (y : List ℕ). EveryMoment timed_functions (hours_lent settings) (opened banner c m) no_sums y es) (sym p.is)
    (every_moment (hours_lent settings) (opened banner c m) no_sums ((o rec settings banner c m).rec ++ hours_bytes_in settings) es
    (length-append (o rec settings banner c m).rec (hours_bytes_in settings) ∙ omega (arith, l, hours-length (hours_bytes_in settings) p.fine))
    (ap hours_of (drop_at (o rec settings banner c m).rec (hours_bytes_in settings) record_size l))
    (subst (λ (y : List ℕ). Always (opened banner c m) no_sums y) (sym (take_at (o rec settings banner c m).rec (hours_bytes_in settings) record_size l))
    (card _ settings banner c m wide p.number)) v)
