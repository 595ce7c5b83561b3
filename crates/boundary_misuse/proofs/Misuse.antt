-- The session in its record: from the opening on, event after event, its steps refuse by the table and by nothing else.
-- Assumes nothing.
use Prim.Native.Nat.{ℕ, ◌≤◌, ◌<◌, ◌^◌}
use mathlib.Core.Bool.{Bool, true, false, ◌&&◌}
use mathlib.Core.List.{List, map}
use mathlib.Core.Option.{Option, none, some}
use mathlib.Core.Path.{◌≡◌, refl, sym, ap, ◌∙◌, subst}
use native.Mathlib.Omega.{arith}
use borrow.Author.Tests.{le-ltb, ltb-false}
use lib.Dec.{eqb, ltb}
use lib.ListN.{length}
use Rattle.protocol.specs.Answers as P
use Rattle.protocol.specs.Answers.{Answer, refused}
use Rattle.protocol.specs.Bytes.{Bytes, pick}
use Rattle.protocol.specs.Calls.{v1, v2, Call, call, next_entry, next_chunk}
use Rattle.protocol.specs.Features.{features_of}
use Rattle.protocol.specs.Ids.{all}
use Rattle.protocol.specs.Messages.{stat, sta2, list, lis2, recv, ask, rcv2, send, snd2, chunk, done, quit}
use Rattle.id_table.specs.IdsFile as F
use Rattle.id_table.specs.IdsFile.{count, bad_form, equal_values, ids, are_values, two_equal, checked}
use Rattle.id_table.specs.Settings.{settings_size, misplaced as wrong_length, table_in, lent, lent_in}
use Rattle.id_table.specs.Lent.{Lent}
use Rattle.id_table.specs.Lent as L
use Rattle.id_table.proofs.Laws.{id-tables}
use Rattle.ids.specs.declared.Ids.{Ids}
use Rattle.record.specs.Narrow.{U32, U64, NarrowIds}
use Rattle.record.specs.Record.{stored, size}
use Rattle.session.specs.declared.Answer.TheVariants as A
use Rattle.session.specs.declared.Reply.TheVariants as R
use Rattle.session.specs.declared.Session.{Session}
use Rattle.session.specs.Calls.{fresh, open_refusal, misfit}
use Rattle.session.specs.Core.{features_from}
use Rattle.session.specs.Host.{Show, told, Step, Spare, lent_of}
use Rattle.session.specs.Shown.{paper}
use Rattle.session.specs.State.{St, st, Out}
use Rattle.session.proofs.Demand3.{features-listed}
use Rattle.session.proofs.Turns.{Frame, frame_of}
use Rattle.boundary.specs.Boundary.{call_number, first_number, flag_number, step_of}
use Rattle.boundary.specs.Crossing.{Crossed, turned_away, is_refusal, back, OpenCrossed, opened_with, cross_open, request_numbered, call_numbered, unknown_call, cross_start, cross_read, cross_wrote, cross_fault}
use Rattle.boundary.specs.Heard.{answer_heard, heard}
use Rattle.boundary.specs.Told.{reply_number, out_size}
use Rattle.boundary.proofs.Carried.{image, loads, back-image, read_back_lem}
use Rattle.boundary.proofs.Demand3.{ids-narrow}
use Rattle.boundary.proofs.Heard.{heard-told}
use Rattle.boundary.proofs.Reports.{NarrowRefusal, lets, by_number, by_feature}
use Rattle.boundary.proofs.Steps.{Inv, Asked, idle, fine}
use Rattle.boundary_misuse.specs.Misuse.{HostReport, has_read, wrote, fault, Act, start, report, Event, WideAct, Wide, crossed_by, Seen, opened, misfits, call_of, numbered, refusal}
use Rattle.boundary_misuse.specs.Claim.{heard_of, Answers, seen_after, follow}
use Rattle.boundary_misuse.proofs.Known.{Own, own_of, misfit-own, seen_of, Knows, knows, pending-is}
use Rattle.boundary_misuse.proofs.Unchanged.{put_back_of, not-refused}
use Rattle.boundary_misuse.proofs.Table.{Comes, numbered-narrow, behind, behind-narrow, begins, calls, after, misplaced, later, later-narrow, reported, reports}

-- ---- one event

-- what is claimed of it, and that what is seen afterwards is what the session then is
abbrev Holds : Seen → List ℕ → Event → Option Answer → Crossed → Type 0
Holds v rec e r c = Answers r rec e c × Knows (follow r v e (heard_of c)) c.rec

abbrev pub IsSome : Option Answer → Type 0
IsSome none = ⊥
IsSome (some a) = Unit {0}

module _ (s : Session) (sh : Show) (own : Own s) (asked : Asked s sh) (lent rx msg out : List ℕ) where
  abbrev v : Seen
  v = seen_of (frame_of s) sh

  abbrev here : St
  here = st s rx msg

  abbrev ev : Act → Event
  ev x = record { act = x; lent = lent; rx = rx; msg = msg; out = out }

  -- a slice that is too short for a reply
  module _ (brief : ltb (length out) out_size ≡ true) where
    away : (x : Act) → crossed_by (stored s) (ev x) ≡ turned_away (stored s) rx msg out
    unfolding cross_start cross_read cross_wrote cross_fault
    away (start n a b t) = rw brief
    away (report (has_read k)) = rw brief
    away (report wrote) = rw brief
    away (report (fault kind code)) = rw brief

    three : (x : Act) → refusal v (ev x) ≡ some (refused 3)
    three (start n a b t) = rw brief
    three (report r) = rw brief

    short-holds : (x : Act) → Holds v (stored s) (ev x) (refusal v (ev x)) (crossed_by (stored s) (ev x))
    unfolding heard answer_heard
    short-holds x = rw (three x, away x) ((refl, refl, (refl, refl, refl)), knows s sh own asked)

  module _ (room : out_size ≤ length out) (short : U64 (length lent)) (few : length msg < 2 ^ 63) (bytes : Bytes rx) where
    -- the table's tests are the session's
    fits-same : (x : Act) → misfits v (ev x) ≡ misfit s (length rx) (length msg)
    fits-same x = rw (le-ltb (length out) out_size room, misfit-own s (length rx) (length msg) own)

    -- a step that comes out by the table
    module _ (x : Act) (φ : Frame) (o : Out) (after : (y : Show) → seen_after v (ev x) x y ≡ seen_of φ y) where
      comes-holds : (r : Option Answer) → NarrowRefusal r → Comes r φ here o → Holds v (stored s) (ev x) r (back (stored s) out o)
      unfolding reply_number paper
      comes-holds r lets g =
          let i : step_of (back (stored s) out o) ≡ image o = back-image here out room o (fine s g) in (
            not-refused o.reply g.given,
            subst (λ (y : Seen). Knows y (back (stored s) out o).rec) (sym (after (heard_of (back (stored s) out o))))
                (subst (λ (y : Step (List ℕ)). Knows (seen_of φ y.show) y.x) (sym i)
                (subst (λ (ψ : Frame). Knows (seen_of ψ (image o).show) (stored o.st.ses)) g.frame
                (knows o.st.ses (image o).show (own_of o.st g.inv) g.asked))),
          )
      comes-holds r (by_number {n = n} h) g =
          subst (λ (y : Out). Holds v (stored s) (ev x) r (back (stored s) out y)) (sym g)
          ((refl, heard-told out room 0 0 (omega arith) (omega arith) rx msg (R.Told (A.Refused n)) h.1, (refl, refl, refl)), knows s sh own asked)
      comes-holds r (by_feature {n = n} h) g =
          subst (λ (y : Out). Holds v (stored s) (ev x) r (back (stored s) out y)) (sym g)
          ((refl, heard-told out room 0 0 (omega arith) (omega arith) rx msg (R.Told (A.Missing n)) h, (refl, refl, refl)), knows s sh own asked)

      holds : (c : Crossed) (r : Option Answer) → c ≡ back (stored s) out o → refusal v (ev x) ≡ r → NarrowRefusal r → Comes r φ here o
          → Holds v (stored s) (ev x) (refusal v (ev x)) c
      holds c r i t n g =
          subst (Holds v (stored s) (ev x) (refusal v (ev x))) (sym i)
          (subst (λ (y : Option Answer). Holds v (stored s) (ev x) y (back (stored s) out o)) (sym t) (comes-holds r n g))

    -- a call
    call-table : (n a b t : ℕ) → refusal v (ev (start n a b t)) ≡ behind s lent rx msg (numbered v (call_of n a b lent))
    call-table n a b t = rw (fits-same (start n a b t), pending-is asked)

    call-holds : (n a b t : ℕ) → U32 a → U32 b
        → Holds v (stored s) (ev (start n a b t)) (refusal v (ev (start n a b t))) (crossed_by (stored s) (ev (start n a b t)))
    unfolding cross_start
    call-holds n a b t p q =
        holds (start n a b t) (begins s lent rx msg) _ (λ y. refl) _ _ (loads here own.narrow out room (put_back_of (stored s) lent out (start n a b t))) (call-table n a b t)
        (behind-narrow s lent rx msg _ (numbered-narrow v (call_of n a b lent))) (calls s lent rx msg own.narrow short few bytes sh a b p q n)

    -- a report
    report-table : (r : HostReport) → refusal v (ev (report r)) ≡ later s lent rx msg (misplaced sh r)
    report-table r = rw (fits-same (report r), pending-is asked)

    report-crosses : (r : HostReport) → crossed_by (stored s) (ev (report r)) ≡ back (stored s) out (reported s lent rx msg r)
    unfolding cross_read cross_wrote cross_fault
    report-crosses (has_read k) = loads here own.narrow out room (put_back_of (stored s) lent out (report (has_read k))) ∙ read_back_lem here out (length lent) k
    report-crosses wrote = loads here own.narrow out room (put_back_of (stored s) lent out (report wrote))
    report-crosses (fault kind code) = loads here own.narrow out room (put_back_of (stored s) lent out (report (fault kind code)))

    event-holds : (x : Act) → WideAct x → Holds v (stored s) (ev x) (refusal v (ev x)) (crossed_by (stored s) (ev x))
    event-holds (start n a b t) (p, (q, _)) = call-holds n a b t p q
    event-holds (report r) w =
        holds (report r) (after s sh) _ (λ y. refl) _ _ (report-crosses r) (report-table r)
        (later-narrow s lent rx msg sh r) (reports s lent rx msg own.narrow short few bytes sh asked r w)

    -- what is put back; a step that is let in keeps the session's numbers, and is no refusal
    abbrev pub out_of : Act → Out
    out_of (start n a b t) = call_numbered n a b here lent (request_numbered n a b) (unknown_call here)
    out_of (report r) = reported s lent rx msg r

    pub crosses : (x : Act) → crossed_by (stored s) (ev x) ≡ back (stored s) out (out_of x)
    unfolding cross_start
    crosses (start n a b t) = loads here own.narrow out room (put_back_of (stored s) lent out (start n a b t))
    crosses (report r) = report-crosses r

    pub let_in : (x : Act) → WideAct x → refusal v (ev x) ≡ none → Inv (out_of x).st × (is_refusal (out_of x).reply ≡ false)
    let_in (start n a b t) (p, (q, _)) z =
        let g : Comes none (begins s lent rx msg) here (out_of (start n a b t)) =
        subst (λ (r : Option Answer). Comes r (begins s lent rx msg) here (out_of (start n a b t))) (sym (call-table n a b t) ∙ z) (calls s lent rx msg own.narrow short few bytes sh a b p q n) in
        (g.inv, g.given)
    let_in (report r) w z =
        let g : Comes none (after s sh) here (out_of (report r)) =
        subst (λ (y : Option Answer). Comes y (after s sh) here (out_of (report r))) (sym (report-table r) ∙ z) (reports s lent rx msg own.narrow short few bytes sh asked r w) in
        (g.inv, g.given)

  -- a step that is let in has room for its reply
  pub room_of : (x : Act) → refusal v (ev x) ≡ none → out_size ≤ length out
  room_of x z = go (ltb (length out) out_size) refl
    where
      go : (b : Bool) → ltb (length out) out_size ≡ b → out_size ≤ length out
      go true e = absurd (subst IsSome (sym (three e x) ∙ z) tt)
      go false e = ltb-false _ _ e

  any_holds : (x : Act) → WideAct x → U64 (length lent) → length msg < 2 ^ 63 → Bytes rx → Holds v (stored s) (ev x) (refusal v (ev x)) (crossed_by (stored s) (ev x))
  any_holds x w short few bytes = go (ltb (length out) out_size) refl
    where
      go : (b : Bool) → ltb (length out) out_size ≡ b → Holds v (stored s) (ev x) (refusal v (ev x)) (crossed_by (stored s) (ev x))
      go true e = short-holds e x
      go false e = event-holds (ltb-false _ _ e) short few bytes x w

-- one event, of what is known
pub known_step : (v : Seen) (rec : List ℕ) (e : Event) → Knows v rec → Wide e
    → Answers (refusal v e) rec e (crossed_by rec e) × Knows (follow (refusal v e) v e (heard_of (crossed_by rec e))) (crossed_by rec e).rec
known_step v rec e (knows s sh own asked) w =
    any_holds s sh own asked e.lent e.rx e.msg e.out e.act w.act (omega (arith, w.lent)) w.msg w.rx

-- ---- from the opening on

-- settings are refused with a number that is not 0
number_of : Lent → ℕ
number_of (L.Ids t) = 1
number_of (L.Refused n) = n

pub lent-some : (s : List ℕ) (n : ℕ) → lent_in s ≡ L.Refused n → n ≡ 0 → ⊥
unfolding lent_in checked number_of
lent-some s n e z = go (eqb (length s) settings_size) (eqb (length vs) count && are_values vs) (two_equal vs) e
  where
    vs : List (List ℕ)
    vs = map (table_in s) all

    go : (a b d : Bool) → pick a (lent (table_in s) (pick b (pick d (F.refused equal_values) (ids vs)) (F.refused bad_form))) (L.Refused wrong_length) ≡ L.Refused n → ⊥
    go true true true f = absurd (omega (arith, ap number_of f))
    go true true false f = absurd (omega (arith, ap number_of f))
    go true false d f = absurd (omega (arith, ap number_of f))
    go false b d f = absurd (omega (arith, ap number_of f))

abbrev pub opens : (rec banner : List ℕ) (c m : ℕ) (a b d : Bool) → Lent → OpenCrossed
opens rec banner c m a b d t =
    pick (ltb 0 (pick a 1 (pick b 2 0))) (record { rec = rec; number = pick a 1 (pick b 2 0) })
    (pick d (opened_with rec (features_from (features_of banner)) c m t) (record { rec = rec; number = 3 }))

module _ (rec settings banner : List ℕ) (c m : ℕ) (wide : m < 2 ^ 63) where
  abbrev new : Ids → Session
  new t = fresh c m (features_from (features_of banner)) t

  own_new : (t : Ids) → NarrowIds t → 8 ≤ c → c ≤ m → Own (new t)
  own_new t n l r =
      record {
        narrow = record { capacity = omega arith; message = omega arith; head = omega arith; tail = omega arith; lent = omega arith; ids = n; pending = tt };
        fits = record { order = omega arith; inside = omega arith; rx = refl; least = l; aside = r; msg = refl };
      }

  -- the numbers of a table that is lent have 64 bits
  lent-narrow : (t : Ids) → lent_in settings ≡ L.Ids t → NarrowIds t
  lent-narrow t e = let x = id-tables.lends settings t e in subst NarrowIds (sym x.table) (ids-narrow (table_in settings) x.legal)

  pub opened-known : (cross_open rec settings banner c m).number ≡ 0 → Knows (opened banner c m) (cross_open rec settings banner c m).rec
  unfolding cross_open open_refusal
  opened-known = go (ltb c 8) (ltb m c) (eqb (length rec) size) (lent_in settings) refl refl refl
    where
      go : (a b d : Bool) (t : Lent) → ltb c 8 ≡ a → ltb m c ≡ b → lent_in settings ≡ t → (opens rec banner c m a b d t).number ≡ 0
          → Knows (opened banner c m) (opens rec banner c m a b d t).rec
      go true b d t p q e z = absurd (omega arith)
      go false true d t p q e z = absurd (omega arith)
      go false false false t p q e z = absurd (omega arith)
      go false false true (L.Refused n) p q e z = absurd (lent-some settings n e z)
      go false false true (L.Ids t) p q e z =
          subst (λ (fs : List Bool). Knows (record { capacity = c; message = m; features = fs; lent = 0; last = told P.done; ended = false }) (stored (new t)))
          (features-listed banner) (knows (new t) (told P.done) (own_new t (lent-narrow t e) (ltb-false _ _ p) (ltb-false _ _ q)) idle)

-- ---- the numbers of the calls

pub call-numbers : (z : Spare) (q : Call) → call_of (call_number q) (first_number z q) (flag_number z q) (lent_of z q) ≡ some q
call-numbers z (call (ask stat p)) = refl
call-numbers z (call (ask sta2 p)) = refl
call-numbers z (call (ask list p)) = refl
call-numbers z (call (ask lis2 p)) = refl
call-numbers z (call (ask recv p)) = refl
call-numbers z (call (rcv2 p f)) = refl
call-numbers z (call (send p m)) = refl
call-numbers z (call (snd2 p m f)) = refl
call-numbers z (call (chunk x)) = refl
call-numbers z (call (done t)) = refl
call-numbers z (call quit) = refl
call-numbers z (next_entry v1) = refl
call-numbers z (next_entry v2) = refl
call-numbers z next_chunk = refl
