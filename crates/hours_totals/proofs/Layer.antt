-- The exported functions do what the session behind the gate does: so they are a layer around it.
-- Assumes nothing.
use Prim.Native.Nat.{ℕ, ◌+◌, ◌*◌, ◌≤◌, ◌<◌}
use mathlib.Core.Bool.{Bool, true, false, ◌&&◌, not}
use mathlib.Core.List.{List, ◌++◌}
use mathlib.Core.Path.{◌≡◌, refl, sym, ap, ◌∙◌, subst}
use native.Mathlib.Omega.{arith}
use borrow.Author.Tests.{eq-eqb, le-leb, eqb-true}
use lib.Dec.{eqb}
use lib.ListN.{length, take, drop, length-append}
use lib.Seq.{take_at, drop_at, length-take-le}
use Rattle.protocol.specs.Answers.{Answer, refused}
use Rattle.protocol.specs.Bytes.{pick, put, number_at}
use Rattle.protocol.specs.Calls.{v1, v2, Call, call, next_entry, next_chunk, Made}
use Rattle.protocol.specs.Hours.{Kept, lets}
use Rattle.protocol.specs.Messages.{stat, sta2, list, lis2, recv, ask, rcv2, send, snd2, chunk, quit}
use Rattle.protocol.specs.Messages as M
use Rattle.protocol.specs.Refusal.{is_push, closed_hours, outside}
use Rattle.protocol.proofs.Bodies.{pick-cases}
use Rattle.protocol.proofs.Bytes.{put-length}
use Rattle.id_table.specs.Settings.{settings_of}
use Rattle.hours.specs.Settings.{settings_with}
use Rattle.hours.specs.Slots.{hours_bytes, hours_of}
use Rattle.hours.proofs.Laws.{hours-files}
use Rattle.hours.proofs.Slots.{slots}
use Rattle.id_table.proofs.Laws.{id-tables}
use Rattle.record.specs.Record.{word_of, size}
use Rattle.session.specs.Demand3.{Opening}
use Rattle.session.specs.Gate as G
use Rattle.session.specs.Gate.{Timed, timed, keeping, gated_start, gate, gated}
use Rattle.session.specs.Host.{Show, told, read, Spare, Step}
use Rattle.session.proofs.Buf.{number-in}
use Rattle.session_layer.specs.Layer.{Account, starting, under, Around}
use Rattle.boundary.specs.Boundary.{call_number, end_kind, end_code, recorded, boundary}
use Rattle.boundary.specs.Crossing.{Crossed, OpenCrossed, cross_open}
use Rattle.boundary.specs.Heard.{answer_heard, heard}
use Rattle.boundary.specs.Told.{reply_number, reply_bytes, out_size}
use Rattle.totals.specs.Crossing.{record_size, limit, refuses, total_open, total_read, total_wrote, total_fault}
use Rattle.totals.specs.System.{start_by, total_functions}
use Rattle.totals.proofs.Beside.{counted-at}
use Rattle.totals.proofs.Crosses.{Tells, Crosses, Follows, engine-layer}
use Rattle.totals.proofs.Layer.{Keeps, here_size, totals-follow, start-number, same_number, opened-keeps}
use Rattle.hours_totals.specs.Crossing.{timed_size, hours_at, beside, closed_reply, closed_now, starts_push, on_timed, timed_open, timed_start, timed_read, timed_wrote, timed_fault}
use Rattle.hours_totals.specs.System.{timed_functions, timed_totals}

-- ---- the relation

-- the record is that of a session with totals, and behind it the hours
pub record TimedKeeps (l : Account) (sh : Show) (y : List ℕ) (k : Timed (List ℕ)) : Type 0 where
  pub front : List ℕ
  pub is : y ≡ front ++ hours_bytes k.hours
  pub legal : Kept k.hours
  pub keeps : Keeps l sh front k.x

module _ (l : Account) (sh : Show) (y : List ℕ) (k : Timed (List ℕ)) (r : TimedKeeps l sh y k) where
  front-size : length r.front ≡ record_size
  front-size = here_size l sh r.front k.x r.keeps

  front-is : take record_size y ≡ r.front
  front-is = ap (take record_size) r.is ∙ take_at r.front (hours_bytes k.hours) record_size front-size

  behind-is : drop record_size y ≡ hours_bytes k.hours
  behind-is = ap (drop record_size) r.is ∙ drop_at r.front (hours_bytes k.hours) record_size front-size

  hours-is : hours_at y ≡ k.hours
  hours-is = ap hours_of behind-is ∙ slots.bytes_back k.hours r.legal

  whole-size : length y ≡ timed_size
  whole-size = ap length r.is ∙ length-append r.front (hours_bytes k.hours) ∙ omega (arith, front-size, slots.thirty_two k.hours)

  -- the numbers of a session with totals
  pub front-word : (i : ℕ) → i < 37 → word_of y i ≡ word_of r.front i
  front-word i h = sym (number-in record_size 8 (8 * i) y (le-leb (8 * i + 8) record_size (omega arith))) ∙ ap (number_at 8 (8 * i)) front-is

  -- ---- a step

  on-timed : (rx msg out : List ℕ) (c : Crossed) → on_timed y rx msg out c ≡ c
  on-timed rx msg out c = rw (eq-eqb (length y) timed_size whole-size)

  -- a step of the session with totals
  beside-crosses : (l' : Account) (c : Crossed) (s : Step (List ℕ)) (rx msg out : List ℕ) → Crosses Keeps l' c s
      → Crosses TimedKeeps l' (on_timed y rx msg out (beside y c)) (keeping k.hours s)
  beside-crosses l' c s rx msg out x =
      subst (λ (d : Crossed). Crosses TimedKeeps l' d (keeping k.hours s)) (sym (on-timed rx msg out (beside y c)))
      (record {
        step = ap (under (c.rec ++ drop record_size y)) x.step;
        keeps = record { front = c.rec; is = ap (λ (d : List ℕ). c.rec ++ d) behind-is; legal = r.legal; keeps = x.keeps };
        tells = x.tells;
      })

-- a start that is turned away: 25 is told with no reads, and all stays
abbrev shut : Show
shut = told (refused closed_hours)

keeps-still : (l : Account) (a : Answer) (y x : List ℕ) → Keeps l (told a) y x → Keeps (starting shut l) shut y x
keeps-still l a y x k =
    record { a = k.a; is = k.is; sized = k.sized; all = k.all; few = k.few; below = k.below; reads = k.reads; recalls = λ w. absurd w }

closed-tells : (l : Account) (y rx msg out : List ℕ) → out_size ≤ length out → Tells l shut (closed_now y rx msg out)
unfolding reply_number
closed-tells l y rx msg out room f =
    counted-at (reply_number closed_reply) 0 (put out 0 (reply_bytes closed_reply)) (omega arith) refl (omega (arith, put-length out 0 (reply_bytes closed_reply)))

module _ (l : Account) (a : Answer) (y : List ℕ) (k : Timed (List ℕ)) (r : TimedKeeps l (told a) y k) where
  closed-crosses : (rx msg out : List ℕ) → out_size ≤ length out
      → Crosses TimedKeeps (starting shut l) (on_timed y rx msg out (closed_now y rx msg out)) (keeping k.hours (record { x = k.x; rx = rx; msg = msg; show = shut }))
  unfolding heard answer_heard reply_number
  closed-crosses rx msg out room =
      subst (λ (d : Crossed). Crosses TimedKeeps (starting shut l) d (keeping k.hours (record { x = k.x; rx = rx; msg = msg; show = shut })))
      (sym (on-timed l (told a) y k r rx msg out (closed_now y rx msg out)))
      (record {
        step = refl;
        keeps = record { front = r.front; is = r.is; legal = r.legal; keeps = keeps-still l a r.front k.x r.keeps };
        tells = closed-tells (starting shut l) y rx msg out room;
      })

  -- whether it is turned away
  module _ (rx msg : List ℕ) (m : Made) (z : Spare) where
    abbrev c : Crossed
    c = start_by total_functions r.front rx msg m z

    abbrev s : Step (List ℕ)
    s = recorded.start k.x rx msg m z

    same_test : not (lets (hours_at y) m.moment) && (starts_push (call_number m.call) && not (refuses c.number)) ≡ outside k.hours m && not (G.refuses s.show)
    same_test =
        rw (hours-is l (told a) y k r, starts-push m.call, start-number l (told a) r.front k.x r.keeps rx msg m z)
        (and_assoc (not (lets k.hours m.moment)) (is_push m.call) (not (G.refuses s.show)))
      where
        starts-push : (q : Call) → starts_push (call_number q) ≡ is_push q
        starts-push (call (ask stat p)) = refl
        starts-push (call (ask sta2 p)) = refl
        starts-push (call (ask list p)) = refl
        starts-push (call (ask lis2 p)) = refl
        starts-push (call (ask recv p)) = refl
        starts-push (call (rcv2 p f)) = refl
        starts-push (call (send p i)) = refl
        starts-push (call (snd2 p i f)) = refl
        starts-push (call (chunk x)) = refl
        starts-push (call (M.done t)) = refl
        starts-push (call quit) = refl
        starts-push (next_entry v1) = refl
        starts-push (next_entry v2) = refl
        starts-push next_chunk = refl

        and_assoc : (a b c : Bool) → a && (b && c) ≡ (a && b) && c
        and_assoc true b c = refl
        and_assoc false b c = refl

    start-crosses : out_size ≤ length z.out → Crosses Keeps (starting s.show l) c s
        → Crosses TimedKeeps (starting (gated_start recorded k.hours k.x rx msg m z).show l) (start_by timed_functions y rx msg m z) (keeping k.hours (gated_start recorded k.hours k.x rx msg m z))
    unfolding timed_start
    start-crosses room x = rw (front-is l (told a) y k r, same_test) (go (outside k.hours m && not (G.refuses s.show)))
      where
        away : Step (List ℕ)
        away = record { x = k.x; rx = rx; msg = msg; show = shut }

        go : (b : Bool) → Crosses TimedKeeps (starting (pick b away s).show l) (on_timed y rx msg z.out (pick b (closed_now y rx msg z.out) (beside y c))) (keeping k.hours (pick b away s))
        go true = closed-crosses rx msg z.out room
        go false = beside-crosses l (told a) y k r (starting s.show l) c s rx msg z.out x

pub timed-follow : Follows TimedKeeps limit timed_functions (gate recorded) timed_totals.lends
unfolding timed_read timed_wrote timed_fault
timed-follow =
    record {
      holds = λ l sh y k r rx. rw (front-word l sh y k r 2 (omega arith), front-word l sh y k r 3 (omega arith)) (totals-follow.holds l sh r.front k.x r.keeps rx);
      tail = λ l sh y k r. front-word l sh y k r 3 (omega arith) ∙ totals-follow.tail l sh r.front k.x r.keeps;
      start = λ l a y k r rx msg m z ok. start-crosses l a y k r rx msg m z ok.0 (totals-follow.start l a r.front k.x r.keeps rx msg m z ok);
      on_read = λ l at len y k r rx msg lent n z ok p q b u.
          rw (front-is l (read at len) y k r)
          (beside-crosses l (read at len) y k r _ (total_read r.front rx msg lent n z.out) (recorded.on_read k.x rx msg lent n z) rx msg z.out
          (totals-follow.on_read l at len r.front k.x r.keeps rx msg lent n z ok p q b u));
      on_wrote = λ l sh y k r w f rx msg lent z ok u.
          rw (front-is l sh y k r)
          (beside-crosses l sh y k r _ (total_wrote r.front rx msg lent z.out) (recorded.on_wrote k.x rx msg lent z) rx msg z.out
          (totals-follow.on_wrote l sh r.front k.x r.keeps w f rx msg lent z ok u));
      on_fault = λ l sh y k r w rx msg lent e z ok u.
          rw (front-is l sh y k r)
          (beside-crosses l sh y k r _ (total_fault r.front rx msg lent (end_kind z e) (end_code z e) z.out) (recorded.on_fault k.x rx msg lent e z) rx msg z.out
          (totals-follow.on_fault l sh r.front k.x r.keeps w rx msg lent e z ok u));
    }

-- ---- opening

front_length : (y : List ℕ) → length y ≡ timed_size → length (take record_size y) ≡ record_size
front_length y p = length-take-le record_size y (omega (arith, p))

module _ (y : List ℕ) (p : length y ≡ timed_size) (o : Opening) (rx msg : List ℕ) where
  abbrev front : List ℕ
  front = take record_size y

  abbrev settings : List ℕ
  settings = settings_with o.table o.hours

  abbrev T : OpenCrossed
  T = total_open front (settings_of o.table) o.banner (length rx) (length msg)

  opened-as : timed_open y settings o.banner (length rx) (length msg) ≡ pick (eqb T.number 0) (record { rec = T.rec ++ hours_bytes o.hours; number = 0 }) (record { rec = y; number = T.number })
  unfolding timed_open total_open cross_open
  opened-as =
      rw (
        eq-eqb (length y) timed_size p,
        hours-files.with_table o.table o.legal o.hours ∙ sym (id-tables.opens o.table o.legal),
        hours-files.carried o.table o.legal o.hours,
        hours-files.lent o.hours o.kept,
      )

  opened-number : (timed_open y settings o.banner (length rx) (length msg)).number ≡ (cross_open (take size front) (settings_of o.table) o.banner (length rx) (length msg)).number
  opened-number =
      ap (λ (z : OpenCrossed). z.number) opened-as
      ∙ pick-cases (λ (z : OpenCrossed). z.number ≡ T.number) (eqb T.number 0) (λ e. sym (eqb-true T.number 0 e)) (λ _. refl)
      ∙ same_number front (front_length y p) o rx msg

pub timed-around : Around limit timed_totals (gated boundary) TimedKeeps
timed-around =
    record {
      layer = engine-layer TimedKeeps limit timed_functions (gate recorded) timed_totals.lends timed-follow (λ rec. rec) (λ c. c.rec) TimedKeeps (λ l sh y k r. r) (λ l sh c k r t. r);
      inner = λ y. timed (hours_at y) (take size (take record_size y));
      place = λ y p. length-take-le size (take record_size y) (omega (arith, front_length y p));
      lends = λ z h. h;
      number = λ y p o rx msg. opened-number y p o rx msg;
      opens = λ y p o rx msg incoming e b.
          let t = same_number (take record_size y) (front_length y p) o rx msg ∙ e in
          rw (e, opened-as y p o rx msg, t)
          (record {
            front = (total_open (take record_size y) (settings_of o.table) o.banner (length rx) (length msg)).rec;
            is = refl;
            legal = o.kept;
            keeps = opened-keeps (take record_size y) (front_length y p) o rx msg incoming e b;
          });
    }
