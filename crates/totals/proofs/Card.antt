-- The record shows what the host adds up, and what is refused is refused by misuse's table, and then by 21: event by event, from what misuse knows of
-- the session inside.
-- Assumes nothing.
use Prim.Native.Nat.{ℕ, ◌+◌, ◌-◌, ◌*◌, ◌/◌, ◌%◌, ◌≤◌, ◌<◌, ◌^◌}
use mathlib.Core.Bool.{Bool, true, false, true≢false, ◌||◌, not, and-eq-true_iff}
use mathlib.Core.List.{List, [], ◌∷◌, ◌++◌}
use mathlib.Core.Option.{Option, none, some}
use mathlib.Core.Path.{◌≡◌, refl, sym, ap, ◌∙◌, subst}
use native.Mathlib.Omega.{arith}
use borrow.Author.Tests.{lt-ltb, ltb-true, leb-false, eq-eqb, eqb-true}
use lib.Dec.{eqb, leb, ltb}
use lib.ListN.{length, take, drop, length-append}
use Rattle.protocol.specs.Answers.{Answer, refused, missing}
use Rattle.protocol.specs.Bytes.{pick, put}
use Rattle.protocol.proofs.Bytes.{put-length}
use Rattle.protocol.specs.Records.{u64_at}
use Rattle.protocol.specs.Refusal.{or_else, refuse}
use Rattle.protocol.proofs.Bodies.{pick-cases}
use Rattle.record.specs.Record.{words, word_of, size}
use Rattle.record.proofs.Stored.{stored-length}
use Rattle.record.proofs.Words.{length-words}
use Rattle.session.specs.Host.{Show, told, read, write_rx, write_lent, write_bytes, close}
use Rattle.session_layer.specs.Layer.{asked, Writes}
use Rattle.boundary.specs.Crossing.{Crossed, crossed, OpenCrossed, cross_open}
use Rattle.boundary.specs.Heard.{answer_heard, heard}
use Rattle.boundary.specs.Told.{reply_number, reply_bytes, out_size}
use Rattle.boundary.proofs.Reports.{NarrowRefusal, lets, by_number, by_feature}
use Rattle.boundary_misuse.specs.Claim.{heard_of, Answers, seen_after, follow}
use Rattle.boundary_misuse.specs.Misuse.{Act, start, report, has_read, wrote, fault, Event, Wide, AllWide, acted_by, acted, Seen, opened, misfits, other_lent, awaited, outside, refused_at, refusal}
use Rattle.boundary_misuse.proofs.Known.{Knows, knows}
use Rattle.boundary_misuse.proofs.Misuse.{IsSome, known_step, opened-known}
use Rattle.boundary_misuse.proofs.Table.{table-narrow}
use Rattle.totals.specs.System.{total_functions}
use Rattle.totals.specs.Card.{total_by, Sums, no_sums, adds, sums_after, Shows, passes, closed_to, refused_by, AnswersBy, EveryMoment, CardClaim}
use Rattle.totals.specs.Crossing.{record_size, limit, overflowed, received_of, consumed_of, written_of, asked_of, reads_of, count_at, counted, overflow_reply, refuses, piece_asked, totalling, with_totals, overflowing, totalled, total_open, total_start, total_read, total_wrote, total_fault}
use Rattle.totals.proofs.Asks.{acted-small}
use Rattle.totals.proofs.Behind.{held_of, totalling-is, in_front_lem, whole-size, whole-inner, whole-own, whole-received, whole-consumed, whole-written, whole-asked, whole-reads}
use Rattle.totals.proofs.Beside.{heard-counted, counted-at, out-kept}
use Rattle.totals.proofs.Consumed.{gain, held-event, held-counted, known-order, event-number, open_held}
use Rattle.totals.proofs.Layer.{asks-same, fitting}
use Rattle.totals.proofs.Sizes.{acted-sized}

-- ---- refusals by their numbers

-- where there are no hours no moment is refused
pub never_closed : (e : Event) (a : Act) → closed_to none e a ≡ none
never_closed e (start n a b i) = refl
never_closed e (report r) = refl

pub refuses-low : (n m : ℕ) → n ≡ 256 * m → 0 < m → m < 12 → refuses n ≡ true
refuses-low n m e p q =
    let y : n / 256 ≡ m = omega arith in
    (and-eq-true_iff (ltb 0 (n / 256)) (ltb (n / 256) 12)).1 (lt-ltb 0 (n / 256) (omega arith), lt-ltb (n / 256) 12 (omega arith))

or-false : (a b : Bool) → (a || b) ≡ false → (a ≡ false) × (b ≡ false)
or-false true b e = absurd (true≢false e)
or-false false b e = (refl, e)

last-is : (s : Seen) (e : Event) (a : Act) (sh : Show) → (seen_after s e a sh).last ≡ sh
last-is s e (start n x y i) sh = refl
last-is s e (report r) sh = refl

-- a write report that is let in stands where a write or the close was asked
wrote-awaits : (sh : Show) (a b : Bool) → or_else (refuse a (refused 3))
    (or_else (refuse b (refused 6)) (or_else (refuse (not (awaited sh wrote)) (refused 5)) (refuse (outside sh wrote) (refused 11)))) ≡ none → Writes sh
wrote-awaits (told x) true b z = subst IsSome z tt
wrote-awaits (told x) false true z = subst IsSome z tt
wrote-awaits (told x) false false z = subst IsSome z tt
wrote-awaits (read at len) true b z = subst IsSome z tt
wrote-awaits (read at len) false true z = subst IsSome z tt
wrote-awaits (read at len) false false z = subst IsSome z tt
wrote-awaits (write_rx at len) a b z = tt
wrote-awaits (write_lent at len) a b z = tt
wrote-awaits (write_bytes x) a b z = tt
wrote-awaits close a b z = tt

-- ---- the record

known-size : {v : Seen} {x : List ℕ} → Knows v x → length x ≡ size
known-size (knows s sh own asked) = stored-length s

-- what it is where this was seen, and these are the sums; a piece's length is only kept for a write
record Holds (s : Seen) (t : Sums) (rec : List ℕ) : Type 0 where
  x : List ℕ
  a : ℕ
  is : rec ≡ x ++ words (t.received ∷ (t.received - held_of x) ∷ t.written ∷ a ∷ t.reads ∷ [])
  sized : length x ≡ size
  received : t.received < limit
  written : t.written < limit
  reads : t.reads < limit
  recalls : Writes s.last → a ≡ asked s.last
  asking : asked s.last < limit
  knows : Knows s x
  held : held_of x ≤ t.received

module _ (s : Seen) (t : Sums) (rec : List ℕ) (h : Holds s t rec) where
  abbrev d : ℕ
  d = t.received - held_of h.x

  rec-size : length rec ≡ record_size
  rec-size = ap length h.is ∙ whole-size h.x h.sized t.received d t.written h.a t.reads

  rec-inner : take size rec ≡ h.x
  rec-inner = ap (take size) h.is ∙ whole-inner h.x h.sized t.received d t.written h.a t.reads

  rec-own : h.x ++ drop size rec ≡ rec
  rec-own = ap (λ (y : List ℕ). h.x ++ drop size y) h.is ∙ ap (λ (y : List ℕ). h.x ++ y) (whole-own h.x h.sized t.received d t.written h.a t.reads) ∙ sym h.is

  rec-received : received_of rec ≡ t.received
  rec-received = ap received_of h.is ∙ whole-received h.x h.sized t.received d t.written h.a t.reads h.received

  rec-written : written_of rec ≡ t.written
  rec-written = ap written_of h.is ∙ whole-written h.x h.sized t.received d t.written h.a t.reads h.written

  rec-reads : reads_of rec ≡ t.reads
  rec-reads = ap reads_of h.is ∙ whole-reads h.x h.sized t.received d t.written h.a t.reads h.reads

  rec-asked : Writes s.last → asked_of rec ≡ asked s.last
  rec-asked w =
      let e : h.a ≡ asked s.last = h.recalls w in
      ap asked_of h.is ∙ whole-asked h.x h.sized t.received d t.written h.a t.reads (omega (arith, h.asking)) ∙ e

  rec-word : (i : ℕ) → i < 32 → word_of rec i ≡ word_of h.x i
  rec-word i l = ap (λ (y : List ℕ). word_of y i) h.is ∙ in_front_lem h.x (words (t.received ∷ d ∷ t.written ∷ h.a ∷ t.reads ∷ [])) h.sized i l

  shows : Shows s.capacity t rec
  shows =
      let c : consumed_of rec ≡ d = ap consumed_of h.is ∙ whole-consumed h.x h.sized t.received d t.written h.a t.reads (omega (arith, h.received)) in
      record {
        received = rec-received;
        written = rec-written;
        reads = rec-reads;
        consumed = λ rx l. rw (rec-word 2 (omega arith), rec-word 3 (omega arith)) (omega (arith, rec-received, c, h.held, held-counted s h.x rx h.knows l));
      }

  -- ---- one event

  module _ (e : Event) (w : Wide e) where
    abbrev c : Crossed
    c = acted h.x e e.act

    abbrev t' : Sums
    t' = adds s t e.act

    abbrev from : Act → ℕ
    from a = (adds s t a).received

    -- what a write report adds, whether or not it is refused
    abbrev to : Act → ℕ
    to (start n a b i) = t.written
    to (report (has_read k)) = t.written
    to (report wrote) = t.written + asked_of rec
    to (report (fault kind code)) = t.written

    abbrev reads : Act → ℕ
    reads a = (adds s t a).reads

    abbrev made : Act → Crossed
    made a = totalled rec e.rx e.msg e.out (from a) (to a) (reads a) (acted h.x e a)

    -- a call and a fault add nothing, and so never pass the limit
    still-within : (k : ℕ) → k < limit → (y : Crossed) → with_totals rec t.received t.written k y ≡ totalled rec e.rx e.msg e.out t.received t.written k y
    still-within k l y = sym (fitting (not (refuses y.number)) t.received t.written k _ _ h.received h.written l)

    made-is : (a : Act) → acted_by total_functions rec e a ≡ made a
    unfolding total_start total_read total_wrote total_fault
    made-is (start n a b i) = rw (eq-eqb (length rec) record_size rec-size, rec-inner, rec-received, rec-written) (still-within 0 (omega arith) (acted h.x e (start n a b i)))
    made-is (report (has_read k)) = rw (eq-eqb (length rec) record_size rec-size, rec-inner, rec-received, rec-written, rec-reads)
    made-is (report wrote) = rw (eq-eqb (length rec) record_size rec-size, rec-inner, rec-received, rec-written, rec-reads)
    made-is (report (fault kind code)) = rw (eq-eqb (length rec) record_size rec-size, rec-inner, rec-received, rec-written, rec-reads) (still-within t.reads h.reads (acted h.x e (report (fault kind code))))

    -- what is claimed of it, and that the record holds what is seen and added up afterwards
    abbrev Result : Option Answer → Crossed → Type 0
    Result r y = AnswersBy r t'.reads rec e y × Holds (follow r s e (heard_of y)) (sums_after r t t') y.rec

    -- refused inside
    refused-is : refuses c.number ≡ true → made e.act ≡ crossed (c.rec ++ drop size rec) c.rx c.msg (counted c.number 0 c.out) c.number
    refused-is f = rw f

    refused-result : (a : Answer) → refuses c.number ≡ true → Answers (some a) h.x e c → Result (some a) (made e.act)
    refused-result a f (n, heard, (r, x, m)) =
        let i : c.rec ++ drop size rec ≡ rec = ap (λ (z : List ℕ). z ++ drop size rec) r ∙ rec-own in
        let at : out_size ≤ length e.out → u64_at count_at (counted c.number 0 c.out) ≡ 0 =
        λ l. counted-at c.number 0 c.out (omega arith) ((acted-sized h.x h.sized e e.act).tells f) (omega (arith, out-kept h.x e e.act)) in
        subst (Result (some a)) (sym (refused-is f)) (((n, heard-counted c.number 0 c.out c.rx c.msg ∙ heard, (i, x, m)), at), subst (Holds s t) (sym i) h)

    -- let in
    gains : (a : Act) → from a ≡ t.received + gain a
    gains (start n a b i) = omega arith
    gains (report (has_read k)) = omega arith
    gains (report wrote) = omega arith
    gains (report (fault kind code)) = omega arith

    module _ (z : refusal s e ≡ none) (g : Knows (seen_after s e e.act (heard_of c)) c.rec) where
      in_number : refuses c.number ≡ false
      in_number = go (refuses c.number) refl
        where
          go : (b : Bool) → refuses c.number ≡ b → b ≡ false
          go false f = refl
          go true f =
              let (a, b) = (and-eq-true_iff (ltb 0 (c.number / 256)) (ltb (c.number / 256) 12)).0 f in
              let y : c.number % 256 ≡ 0 = (acted-sized h.x h.sized e e.act).tells f in
              let p : 0 < c.number / 256 = ltb-true 0 (c.number / 256) a in
              let n = event-number s h.x e h.knows w z (c.number / 256) (omega arith) p in
              absurd (omega (arith, n.0, ltb-true (c.number / 256) 12 b))

      -- then a write report adds what was asked
      to_is : (a : Act) → e.act ≡ a → to a ≡ (adds s t a).written
      to_is (start n a b i) f = refl
      to_is (report (has_read k)) f = refl
      to_is (report wrote) f =
          let awaits : Writes s.last = wrote-awaits s.last (misfits s e || other_lent s e) s.ended (ap (refused_at s e) (sym f) ∙ z) in
          ap (λ (n : ℕ). t.written + n) (rec-asked awaits)
      to_is (report (fault kind code)) f = refl

      abbrev by : Bool → Crossed
      by p =
          pick p (overflowing rec e.rx e.msg e.out)
          (crossed (totalling c.rec t'.received t'.written (piece_asked (heard_of c) (asked_of rec)) t'.reads) c.rx c.msg (counted c.number t'.reads c.out) c.number)

      in_is : made e.act ≡ by (passes t')
      in_is = rw (in_number, to_is e.act refl)

      -- 21
      over-result : Result (some (refused overflowed)) (by true)
      unfolding heard answer_heard reply_number
      over-result =
          let o : List ℕ = put e.out 0 (reply_bytes overflow_reply) in
          let at : out_size ≤ length e.out → u64_at count_at (counted 5376 0 o) ≡ 0 = λ l. counted-at 5376 0 o (omega arith) refl (omega (arith, put-length e.out 0 (reply_bytes overflow_reply))) in
          (((refl, heard-counted 5376 0 o e.rx e.msg, (refl, refl, refl)), at), h)

      in_held : held_of c.rec ≤ t'.received
      in_held = omega (arith, held-event s h.x e h.knows w z, h.held, gains e.act)

      -- the totals are those added up
      in_result : t'.received < limit → t'.written < limit → t'.reads < limit → Result none (by false)
      in_result p q j =
          let l : (seen_after s e e.act (heard_of c)).last ≡ heard_of c = last-is s e e.act (heard_of c) in
          subst (λ (sh : Show). AnswersBy none t'.reads rec e (by false) × Holds (seen_after s e e.act sh) t' (by false).rec)
          (sym (heard-counted c.number t'.reads c.out c.rx c.msg)) (
            (event-number s h.x e h.knows w z, λ y f. counted-at c.number t'.reads c.out j f (omega (arith, out-kept h.x e e.act))),
            record {
              x = c.rec;
              a = piece_asked (heard_of c) (asked_of rec);
              is = totalling-is c.rec t'.received t'.written (piece_asked (heard_of c) (asked_of rec)) t'.reads (known-order g) in_held;
              sized = (acted-sized h.x h.sized e e.act).size_same;
              received = p;
              written = q;
              reads = j;
              recalls = rw l (asks-same (heard_of c) (asked_of rec));
              asking = rw l (acted-small h.x e w.out e.act);
              knows = g;
              held = in_held;
            },
          )

      let_in-result : (p : Bool) → passes t' ≡ p → Result (refuse p (refused overflowed)) (by p)
      let_in-result true f = over-result
      let_in-result false f =
          let (a, b) = or-false (leb limit t'.received) (leb limit t'.written || leb limit t'.reads) f in
          let (b₁, b₂) = or-false (leb limit t'.written) (leb limit t'.reads) b in
          in_result (leb-false limit t'.received a) (leb-false limit t'.written b₁) (leb-false limit t'.reads b₂)

    -- by what the table says
    tabled : (r : Option Answer) → NarrowRefusal r → refusal s e ≡ r → Answers r h.x e c → Knows (follow r s e (heard_of c)) c.rec
        → Result (or_else r (refuse (passes t') (refused overflowed))) (made e.act)
    tabled r (by_number {n = n} i) z a k = refused-result (refused n) (refuses-low c.number n a.0 i.0 i.1.0) a
    tabled r (by_feature {n = n} i) z a k = refused-result (missing n) (refuses-low c.number 10 a.0 (omega arith) (omega arith)) a
    tabled r lets z a k = subst (Result (refuse (passes t') (refused overflowed))) (sym (in_is z k)) (let_in-result z k (passes t') refl)

    event : Result (refused_by none s t e) (total_by rec e)
    event =
        subst (Result (refused_by none s t e)) (sym (made-is e.act))
        (rw (never_closed e e.act)
        (let (a, k) = known_step s h.x e h.knows w in tabled (refusal s e) (table-narrow s e e.act) refl a k))

-- ---- every list of them

every_moment : (s : Seen) (t : Sums) (rec : List ℕ) (es : List Event) → Holds s t rec → AllWide es → EveryMoment total_functions none s t rec es
every_moment s t rec [] h v = shows s t rec h
every_moment s t rec (e ∷ es) h (w, v) = let (a, k) = event s t rec h e w in (
  shows s t rec h,
  (
    a,
    every_moment
        (follow (refused_by none s t e) s e (heard_of (total_by rec e))) (sums_after (refused_by none s t e) t (adds s t e.act)) (total_by rec e).rec es k v,
  ),
)

-- ---- from the opening on

module _ (rec settings banner : List ℕ) (c m : ℕ) (wide : m < 2 ^ 63) where
  abbrev inside : List ℕ
  inside = pick (eqb (length rec) record_size) (take size rec) []

  abbrev o : OpenCrossed
  o = cross_open inside settings banner c m

  number_is : (total_open rec settings banner c m).number ≡ 0 → o.number ≡ 0
  unfolding total_open
  number_is = pick-cases (λ (y : OpenCrossed). y.number ≡ 0 → o.number ≡ 0) (eqb o.number 0) (λ e _. eqb-true o.number 0 e) (λ _ z. z)

  rec-is : o.number ≡ 0 → (total_open rec settings banner c m).rec ≡ totalling o.rec 0 0 0 0
  unfolding total_open
  rec-is z = rw (eq-eqb o.number 0 z)

  opened-holds : o.number ≡ 0 → Holds (opened banner c m) no_sums (total_open rec settings banner c m).rec
  opened-holds z =
      record {
        x = o.rec;
        a = 0;
        is = rec-is z ∙ totalling-is o.rec 0 0 0 0 (known-order (opened-known inside settings banner c m wide z)) held_none;
        sized = known-size (opened-known inside settings banner c m wide z);
        received = omega arith;
        written = omega arith;
        reads = omega arith;
        recalls = λ w. absurd w;
        asking = omega arith;
        knows = opened-known inside settings banner c m wide z;
        held = held_none;
      }
    where
      held_none : held_of o.rec ≤ 0
      held_none = omega (arith, open_held inside settings banner c m z)

  pub opened-length : (total_open rec settings banner c m).number ≡ 0 → length (total_open rec settings banner c m).rec ≡ record_size
  opened-length z =
      let k : length o.rec ≡ size = known-size (opened-known inside settings banner c m wide (number_is z)) in
      ap length (rec-is (number_is z)) ∙ length-append o.rec _ ∙ omega (arith, k, length-words (0 ∷ (limit + 0 + word_of o.rec 2 - word_of o.rec 3) ∷ 0 ∷ 0 ∷ 0 ∷ []))

pub card : CardClaim total_functions total_open (λ settings. none)
card rec settings banner c m wide z es v =
    every_moment (opened banner c m) no_sums _ es (opened-holds rec settings banner c m wide (number_is rec settings banner c m wide z)) v
