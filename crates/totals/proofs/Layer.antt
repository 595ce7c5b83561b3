-- The functions on a record with totals follow the session: each step is the step of the session inside, as long as fewer bytes than the limit come
-- and are written; and the reads stand in a reply.
-- Assumes nothing.
use Prim.Native.Nat.{ℕ, ◌+◌, ◌-◌, ◌%◌, ◌≤◌, ◌<◌}
use mathlib.Core.Bool.{Bool, true, false, ◌&&◌, ◌||◌, not}
use mathlib.Core.List.{List, [], ◌∷◌, ◌++◌}
use mathlib.Core.Path.{◌≡◌, refl, sym, ap, ◌∙◌, subst}
use native.Mathlib.Omega.{arith}
use borrow.Author.Tests.{eq-eqb, eqb-true, lt-leb}
use lib.Dec.{eqb, leb}
use lib.ListN.{length, take, drop, length-drop}
use lib.Seq.{length-take-le}
use Rattle.protocol.specs.Answers.{done}
use Rattle.protocol.specs.Bytes.{pick}
use Rattle.protocol.specs.Calls.{Made}
use Rattle.protocol.proofs.Bodies.{pick-cases}
use Rattle.id_table.specs.Settings.{settings_of}
use Rattle.record.specs.Record.{words, word_of, size}
use Rattle.session.specs.Demand3.{Opening}
use Rattle.session.specs.Gate as G
use Rattle.session.specs.Host.{Show, told, read, write_rx, write_lent, write_bytes, close, Spare, lent_of}
use Rattle.session_layer.specs.Layer.{asked, Writes, Asks, tells_refusal, Account, starting, reading, writing, at_opening}
use Rattle.boundary.specs.Boundary.{call_number, first_number, flag_number, end_kind, end_code, step_of, recorded}
use Rattle.boundary.specs.Crossing.{Crossed, OpenCrossed, cross_open, cross_start, cross_read, cross_wrote, cross_fault}
use Rattle.boundary.specs.Heard.{heard}
use Rattle.boundary.specs.Told.{out_size}
use Rattle.boundary_misuse.specs.Misuse.{Act, start, report, has_read, wrote, fault, Event, acted}
use Rattle.totals.specs.Crossing.{record_size, received_of, consumed_of, written_of, asked_of, reads_of, limit, refuses, piece_asked, totalling, with_totals, overflowing, totalled, on_record, open_totals, total_open, total_start, total_read, total_wrote, total_fault}
use Rattle.totals.specs.System.{start_by, total_functions, totals}
use Rattle.totals.proofs.Behind.{held_of, totalling-is, whole-size, whole-inner, whole-own, whole-received, whole-consumed, whole-written, whole-asked, whole-reads, in_front_lem}
use Rattle.totals.proofs.Beside.{heard-counted, counted-at, out-kept}
use Rattle.totals.proofs.Crosses.{Tells, Crosses, Follows}
use Rattle.totals.proofs.Refused.{heard-refuses, heard-refused, unrefused-show}
use Rattle.totals.proofs.Sizes.{Sized, acted-sized, open_size}
use Rattle.totals.proofs.Starts.{start-open}

-- ---- the relation

-- what is asked is what is kept of it
pub asks-same : (sh : Show) (n : ℕ) → Writes sh → piece_asked sh n ≡ asked sh
asks-same (told a) n w = absurd w
asks-same (read at len) n w = absurd w
asks-same (write_rx at len) n w = refl
asks-same (write_lent at len) n w = refl
asks-same (write_bytes b) n w = refl
asks-same close n w = refl

-- nothing is asked where a refusal is heard
told-refused : (n : ℕ) (out rx msg : List ℕ) → n % 256 ≡ 0 → Writes (heard n out rx msg) → ⊥
unfolding heard
told-refused n out rx msg e = rw (eq-eqb (n % 256) 0 e) (λ w. w)

-- where nothing is asked an answer is told
tells-number : (n : ℕ) (out rx msg : List ℕ) → (Asks (heard n out rx msg) → ⊥) → n % 256 ≡ 0
unfolding heard
tells-number n out rx msg =
    pick-cases S (eqb (n % 256) 0) (λ e _. eqb-true (n % 256) 0 e)
    (λ _. pick-cases S (eqb (n % 256) 1) (λ _ f. absurd (f tt))
    (λ _. pick-cases S (eqb (n % 256) 2) (λ _ f. absurd (f tt))
    (λ _. pick-cases S (eqb (n % 256) 3) (λ _ f. absurd (f tt)) (λ _. pick-cases S (eqb (n % 256) 4) (λ _ f. absurd (f tt)) (λ _ f. absurd (f tt))))))
  where
    S : Show → Type 0
    S sh = (Asks sh → ⊥) → n % 256 ≡ 0

-- the totals and the reads are below the limit
pub fitting : (b : Bool) (r n k : ℕ) (o s : Crossed) → r < limit → n < limit → k < limit → pick (b && (leb limit r || (leb limit n || leb limit k))) o s ≡ s
fitting true r n k o s p q z = rw (lt-leb limit r p, lt-leb limit n q, lt-leb limit k z)
fitting false r n k o s p q z = refl

-- the record is the session's bytes, and behind them what the account has
pub record Keeps (l : Account) (sh : Show) (y x : List ℕ) : Type 0 where
  pub a : ℕ
  pub is : y ≡ totalling x l.received l.written a l.reads
  pub sized : length x ≡ size
  pub all : l.received + length l.left ≡ l.coming
  pub few : l.coming < limit
  pub below : l.written < limit
  -- no more reads than bytes
  pub reads : l.reads ≤ l.received
  pub recalls : Writes sh → a ≡ asked sh

-- ---- a step

module _ (l : Account) (sh : Show) (y x : List ℕ) (k : Keeps l sh y x) where
  abbrev d : ℕ
  d = limit + l.received + word_of x 2 - word_of x 3

  pub here_size : length y ≡ record_size
  here_size = ap length k.is ∙ whole-size x k.sized l.received d l.written k.a l.reads

  here_inner : take size y ≡ x
  here_inner = ap (take size) k.is ∙ whole-inner x k.sized l.received d l.written k.a l.reads

  here_own : x ++ drop size y ≡ y
  here_own =
      ap (λ (z : List ℕ). x ++ drop size z) k.is ∙ ap (λ (z : List ℕ). x ++ z) (whole-own x k.sized l.received d l.written k.a l.reads) ∙ sym k.is

  pub here_received : received_of y ≡ l.received
  here_received = ap received_of k.is ∙ whole-received x k.sized l.received d l.written k.a l.reads (omega (arith, k.all, k.few))

  pub here_written : written_of y ≡ l.written
  here_written = ap written_of k.is ∙ whole-written x k.sized l.received d l.written k.a l.reads k.below

  here_asked : k.a < limit → asked_of y ≡ k.a
  here_asked h = ap asked_of k.is ∙ whole-asked x k.sized l.received d l.written k.a l.reads h

  pub here_reads : reads_of y ≡ l.reads
  here_reads = ap reads_of k.is ∙ whole-reads x k.sized l.received d l.written k.a l.reads (omega (arith, k.reads, k.all, k.few))

  pub here_word : (i : ℕ) → i < 32 → word_of y i ≡ word_of x i
  here_word i h = ap (λ (z : List ℕ). word_of z i) k.is ∙ in_front_lem x (words (l.received ∷ d ∷ l.written ∷ k.a ∷ l.reads ∷ [])) k.sized i h

  -- what is held, and no more than was received, is not yet consumed
  pub here_consumed : word_of x 2 ≤ word_of x 3 → held_of x ≤ l.received → consumed_of y ≡ l.received - held_of x
  here_consumed h i =
      ap consumed_of (k.is ∙ totalling-is x l.received l.written k.a l.reads h i)
      ∙ whole-consumed x k.sized l.received (l.received - held_of x) l.written k.a l.reads (omega (arith, k.all, k.few))

  -- c is the step inside, in a slice that holds a reply; it is refused where its number says so
  module _ (c : Crossed) (e : Sized x c) (room : out_size ≤ length c.out) (rx msg out : List ℕ)
      (says-refused : tells_refusal (heard c.number c.out c.rx c.msg) ≡ refuses c.number) where
    abbrev says : Show
    says = heard c.number c.out c.rx c.msg

    -- r', n' and i' are to stand behind it, and so the account l' has them, unless it is refused
    module _ (l' : Account) (r' n' i' : ℕ) (all : l'.received + length l'.left ≡ l'.coming) (few : l'.coming < limit) (below : l'.written < limit)
        (reads : l'.reads ≤ l'.received) where
      abbrev kept : Bool → List ℕ
      kept b = pick b (c.rec ++ drop size y) (totalling c.rec r' n' (piece_asked says (asked_of y)) i')

      put-behind : refuses c.number ≡ false → r' ≡ l'.received → n' ≡ l'.written → i' ≡ l'.reads → Keeps l' says (kept (refuses c.number)) c.rec
      put-behind f p q r =
          record {
            a = piece_asked says (asked_of y);
            is = rw (f, p, q, r);
            sized = e.size_same;
            all = all;
            few = few;
            below = below;
            reads = reads;
            recalls = asks-same says (asked_of y);
          }

      tells-count : i' < limit → pick (refuses c.number) 0 i' ≡ pick (refuses c.number) 0 l'.reads → Tells l' says (with_totals y r' n' i' c)
      tells-count h same f =
          let k : ℕ = pick (refuses c.number) 0 i' in
          let fits : k < limit = pick-cases (λ (j : ℕ). j < limit) (refuses c.number) (λ _. omega arith) (λ _. h) in
          counted-at c.number k c.out fits (tells-number c.number c.out c.rx c.msg f) room ∙ same
          ∙ ap (λ (b : Bool). pick b 0 l'.reads) (sym says-refused)

      settled-crosses : Keeps l' says (kept (refuses c.number)) c.rec → Tells l' says (with_totals y r' n' i' c)
          → Crosses Keeps l' (on_record y rx msg out (with_totals y r' n' i' c)) (step_of c)
      settled-crosses keeps tells =
          let C : Crossed = with_totals y r' n' i' c in
          subst (λ (d : Crossed). Crosses Keeps l' d (step_of c)) (sym (on-record C))
          (record {
            step = ap (λ (sh : Show). record { x = C.rec; rx = c.rx; msg = c.msg; show = sh }) (heard-counted c.number (pick (refuses c.number) 0 i') c.out c.rx c.msg);
            keeps = keeps;
            tells = tells;
          })
        where
          on-record : (d : Crossed) → on_record y rx msg out d ≡ d
          on-record d = rw (eq-eqb (length y) record_size here_size)

      -- a report that the session does not refuse
      reported-crosses : tells_refusal says ≡ false → r' ≡ l'.received → n' ≡ l'.written → i' ≡ l'.reads
          → Crosses Keeps l' (on_record y rx msg out (with_totals y r' n' i' c)) (step_of c)
      reported-crosses z p q r =
          settled-crosses (put-behind (sym says-refused ∙ z) p q r) (tells-count (omega (arith, r, reads, all, few)) (ap (pick (refuses c.number) 0) r))

      totalled-crosses : tells_refusal says ≡ false → r' ≡ l'.received → n' ≡ l'.written → i' ≡ l'.reads
          → Crosses Keeps l' (on_record y rx msg out (totalled y rx msg out r' n' i' c)) (step_of c)
      totalled-crosses z p q r =
          rw (fitting (not (refuses c.number)) r' n' i' (overflowing y rx msg out) (with_totals y r' n' i' c) (omega (arith, p, all, few)) (omega (arith, q)) (omega (arith, r, reads, all, few)))
          (reported-crosses z p q r)

    -- a call: refused, all stays as it was; else it begins with no reads
    start-keeps : (b : Bool) → refuses c.number ≡ b
        → Keeps (starting says l) says (pick b (c.rec ++ drop size y) (totalling c.rec l.received l.written (piece_asked says (asked_of y)) 0)) c.rec
    start-keeps true f =
        let z : tells_refusal says ≡ true = says-refused ∙ f in
        record {
          a = k.a;
          is = rw (z, e.same f) (here_own ∙ k.is);
          sized = e.size_same;
          all = k.all;
          few = k.few;
          below = k.below;
          reads = rw z k.reads;
          recalls = λ w. absurd (told-refused c.number c.out c.rx c.msg (e.tells f) w);
        }
    start-keeps false f =
        let z : tells_refusal says ≡ false = says-refused ∙ f in
        record {
          a = piece_asked says (asked_of y);
          is = rw z refl;
          sized = e.size_same;
          all = k.all;
          few = k.few;
          below = k.below;
          reads = rw z (omega arith);
          recalls = asks-same says (asked_of y);
        }

    start-reads : (b : Bool) → refuses c.number ≡ b → pick b 0 0 ≡ pick b 0 (starting says l).reads
    start-reads true f = refl
    start-reads false f = rw (says-refused ∙ f) refl

-- ---- steps of the session inside

abbrev made : (rx msg lent out : List ℕ) → Act → Event
made rx msg lent out a = record { act = a; lent = lent; rx = rx; msg = msg; out = out }

inside : (x rx msg lent out : List ℕ) → length x ≡ size → (a : Act) → Sized x (acted x (made rx msg lent out a) a)
inside x rx msg lent out l a = acted-sized x l (made rx msg lent out a) a

-- .. in a slice as long as the one that was lent
roomy : (x rx msg lent out : List ℕ) → out_size ≤ length out → (a : Act) → out_size ≤ length (acted x (made rx msg lent out a) a).out
roomy x rx msg lent out h a = omega (arith, out-kept x (made rx msg lent out a) a)

-- a start tells no 25
start-refused : (x rx msg lent : List ℕ) (n a b : ℕ) (out : List ℕ) → length x ≡ size
    → let c = cross_start x rx msg lent n a b out in tells_refusal (heard c.number c.out c.rx c.msg) ≡ refuses c.number
start-refused x rx msg lent n a b out l =
    let c : Crossed = cross_start x rx msg lent n a b out in
    heard-refused c.number c.out c.rx c.msg (inside x rx msg lent out l (start n a b 0)).tells (start-open x rx msg lent n a b out)

-- what is no refusal has no refusal's number
report-refused : (c : Crossed) → (refuses c.number ≡ true → c.number % 256 ≡ 0) → tells_refusal (heard c.number c.out c.rx c.msg) ≡ false
    → tells_refusal (heard c.number c.out c.rx c.msg) ≡ refuses c.number
report-refused c tells z = z ∙ sym (sym (heard-refuses c.number c.out c.rx c.msg tells) ∙ unrefused-show (heard c.number c.out c.rx c.msg) z)

pub totals-follow : Follows Keeps limit total_functions recorded totals.lends
unfolding total_start total_read total_wrote total_fault
totals-follow =
    record {
      holds = λ l sh rec x k rx. rw (here_word l sh rec x k 2 (omega arith), here_word l sh rec x k 3 (omega arith));
      tail = λ l sh rec x k. here_word l sh rec x k 3 (omega arith);
      start = λ l a rec x k rx msg m z (room, _).
          let q = m.call in
          let i : Act = start (call_number q) (first_number z q) (flag_number z q) m.moment in
          let c : Crossed = acted x (made rx msg (lent_of z q) z.out i) i in
          let e = inside x rx msg (lent_of z q) z.out k.sized i in
          let h = roomy x rx msg (lent_of z q) z.out room i in
          let f = start-refused x rx msg (lent_of z q) (call_number q) (first_number z q) (flag_number z q) z.out k.sized in
          let s = start-keeps l (told a) rec x k c e h rx msg z.out f (refuses c.number) refl in
          let n = start-reads l (told a) rec x k c e h rx msg z.out f (refuses c.number) refl in
          rw (here_inner l (told a) rec x k, here_received l (told a) rec x k, here_written l (told a) rec x k)
          (settled-crosses l (told a) rec x k c e h rx msg z.out f (starting (step_of c).show l) l.received l.written 0 s.all s.few s.below s.reads s
          (tells-count l (told a) rec x k c e h rx msg z.out f (starting (step_of c).show l) l.received l.written 0 s.all s.few s.below s.reads (omega arith) n));
      on_read = λ l at len rec x k rx msg lent i z (room, _) p q b n.
          let e = inside x rx msg lent z.out k.sized (report (has_read i)) in
          let c : Crossed = cross_read x rx msg lent i z.out in
          rw (here_inner l (read at len) rec x k, here_received l (read at len) rec x k, here_written l (read at len) rec x k, here_reads l (read at len) rec x k)
          (totalled-crosses l (read at len) rec x k c e (roomy x rx msg lent z.out room (report (has_read i))) rx msg z.out (report-refused c e.tells n)
          (reading i l) (l.received + i) l.written (l.reads + 1) (omega (arith, k.all, length-drop i l.left)) k.few k.below (omega (arith, k.reads)) n refl refl refl);
      on_wrote = λ l sh rec x k w g rx msg lent z (room, _) n.
          let a : k.a ≡ asked sh = k.recalls w in
          let b : asked_of rec ≡ k.a = here_asked l sh rec x k (omega arith) in
          let e = inside x rx msg lent z.out k.sized (report wrote) in
          let c : Crossed = cross_wrote x rx msg lent z.out in
          rw (here_inner l sh rec x k, here_received l sh rec x k, here_written l sh rec x k, here_reads l sh rec x k)
          (totalled-crosses l sh rec x k c e (roomy x rx msg lent z.out room (report wrote)) rx msg z.out (report-refused c e.tells n)
          (writing (asked sh) l) l.received (l.written + asked_of rec) l.reads k.all k.few g k.reads n refl (omega arith) refl);
      on_fault = λ l sh rec x k w rx msg lent e z (room, _) n.
          let i : Act = report (fault (end_kind z e) (end_code z e)) in
          let s = inside x rx msg lent z.out k.sized i in
          let c : Crossed = cross_fault x rx msg lent (end_kind z e) (end_code z e) z.out in
          rw (here_inner l sh rec x k, here_received l sh rec x k, here_written l sh rec x k, here_reads l sh rec x k)
          (reported-crosses l sh rec x k c s (roomy x rx msg lent z.out room i) rx msg z.out (report-refused c s.tells n)
          l l.received l.written l.reads k.all k.few k.below k.reads n refl refl refl);
    }

-- the number of a start says whether the session inside refuses it
pub start-number : (l : Account) (sh : Show) (rec x : List ℕ) → Keeps l sh rec x → (rx msg : List ℕ) (m : Made) (z : Spare)
    → refuses (start_by total_functions rec rx msg m z).number ≡ G.refuses (recorded.start x rx msg m z).show
unfolding total_start
start-number l sh rec x k rx msg m z =
    let q = m.call in
    let c : Crossed = cross_start x rx msg (lent_of z q) (call_number q) (first_number z q) (flag_number z q) z.out in
    rw (here_inner l sh rec x k, eq-eqb (length rec) record_size (here_size l sh rec x k))
    (sym (heard-refuses c.number c.out c.rx c.msg (inside x rx msg (lent_of z q) z.out k.sized (start (call_number q) (first_number z q) (flag_number z q) m.moment)).tells))

-- ---- opening

module _ (y : List ℕ) (p : length y ≡ record_size) (t : Opening) (rx msg : List ℕ) where
  abbrev o : OpenCrossed
  o = cross_open (take size y) (settings_of t.table) t.banner (length rx) (length msg)

  abbrev O : OpenCrossed
  O = total_open y (settings_of t.table) t.banner (length rx) (length msg)

  opens_as : O ≡ open_totals y o
  unfolding total_open
  opens_as = rw (eq-eqb (length y) record_size p)

  inner-size : length (take size y) ≡ size
  inner-size = length-take-le size y (omega (arith, p))

  pub same_number : O.number ≡ o.number
  same_number =
      ap (λ (z : OpenCrossed). z.number) opens_as
      ∙ pick-cases (λ (z : OpenCrossed). z.number ≡ o.number) (eqb o.number 0) (λ e. sym (eqb-true o.number 0 e)) (λ _. refl)

  pub opened-keeps : (incoming : List ℕ) → o.number ≡ 0 → length incoming < limit → Keeps (at_opening incoming) (told done) O.rec o.rec
  opened-keeps incoming e b =
      record {
        a = 0;
        is = ap (λ (z : OpenCrossed). z.rec) opens_as ∙ rw (eq-eqb o.number 0 e);
        sized = open_size (take size y) (settings_of t.table) t.banner (length rx) (length msg) inner-size;
        all = omega arith;
        few = b;
        below = omega arith;
        reads = omega arith;
        recalls = λ w. absurd w;
      }
