-- A step of the session is refused as the table says, and leaves everything as it was, or is let in.
-- Assumes nothing.
use Prim.Native.Nat.{ℕ, ◌-◌, ◌<◌, ◌^◌}
use mathlib.Core.Bool.{Bool, true, false, true≢false, ◌&&◌, ◌||◌, not}
use mathlib.Core.List.{List}
use mathlib.Core.Option.{Option, none, some}
use mathlib.Core.Path.{◌≡◌, refl, sym, subst}
use native.Mathlib.Omega.{arith}
use borrow.Author.Tests.{ne_eqb, eqb-true}
use lib.Dec.{eqb, ltb}
use lib.ListN.{length}
use Rattle.protocol.specs.Answers.{Answer, refused}
use Rattle.protocol.specs.Bytes.{Bytes, pick}
use Rattle.protocol.specs.Calls.{Call, call, next_entry, next_chunk}
use Rattle.protocol.specs.Ids.{letters, published}
use Rattle.protocol.specs.Refusal.{Setting, or_else, refuse, request_refusal}
use Rattle.protocol.proofs.Bodies.{pick-cases}
use Rattle.features.specs.Meaning.{listed}
use Rattle.ids.specs.Ids.{table_of}
use Rattle.request_refusal.proofs.Laws.{alike}
use Rattle.record.specs.Fields.{mode_of, flags_of}
use Rattle.record.proofs.States.{Below, above, first}
use Rattle.record.specs.Narrow.{U32, U64, NarrowRequest, NarrowPending, Narrow}
use Rattle.request.specs.Meaning.{meant}
use Rattle.request.specs.declared.Request.{Request}
use Rattle.request.specs.declared.Request.TheVariants as Q
use Rattle.session.specs.declared.Answer.TheVariants as A
use Rattle.session.specs.declared.Fault.{Fault}
use Rattle.session.specs.declared.Pending.{Pending}
use Rattle.session.specs.declared.Session.{Session}
use Rattle.session.specs.declared.Version.{Version}
use Rattle.session.specs.declared.Version.TheVariants.{V1, V2}
use Rattle.session.specs.Calls.{misfit, is_idle, call_refusal, refused_or, refusal_of, setting_of, answer_of, or_refuse, start_call, entry_call, chunk_call}
use Rattle.session.specs.Host.{Show}
use Rattle.session.specs.Reports.{report_refusal, refusal_at, read_in, read_at, report_read, wrote_at, report_wrote, fault_at, report_fault}
use Rattle.session.specs.State.{St, st, Out, out, begun, refusing}
use Rattle.session.proofs.Turns.{Frame, frame_of}
use Rattle.boundary.specs.Crossing.{request_numbered, call_numbered, unknown_call, fault_numbered}
use Rattle.boundary.proofs.Reports.{NarrowRefusal, lets, by_number, or_narrow, refuse-narrow, request-narrow, NarrowFault, start-goes, entry-goes, chunk-goes, read_in-refused, read_in-goes, closed-goes, write_fault-goes, read-fault_goes, close-fault_goes}
use Rattle.boundary.proofs.Steps.{Inv, Goes, Awaits, idle, reads, writes_rx, writes_lent, writes_bytes, closes, Asked, wrote_on-goes}
use Rattle.boundary_misuse.specs.Misuse.{HostReport, has_read, wrote, fault, Act, start, report, Event, WideAct, Seen, pending, closing, misfits, other_lent, call_of, numbered, awaited, outside, refused_at}
use Rattle.boundary_misuse.proofs.Known.{inv-of, bytes-held, seen_of}

-- ---- what a step comes to

-- a refusal, and all as it was; or what a step leaves that is let in, and keeps φ
abbrev pub Comes : Option Answer → Frame → St → Out → Type 0
Comes none φ s o = Goes φ o
Comes (some a) φ s o = o ≡ out (refusing s.ses (answer_of a)) s.rx s.msg

or_comes : (r : Option Answer) (φ : Frame) (s : St) (o : Out) → Goes φ o → Comes r φ s (or_refuse r s o)
or_comes none φ s o g = g
or_comes (some a) φ s o g = refl

module _ (s : St) (r : Option Answer) (φ : Frame) (o : Out) where
  abbrev unfit : Bool
  unfit = misfit s.ses (length s.rx) (length s.msg)

  -- behind a call's refusals
  call-comes : (unfit ≡ false → Comes r φ s o)
      → Comes (or_else (refuse unfit (refused 3)) (or_else (refuse s.ses.ended (refused 6)) (or_else (refuse (not (is_idle s.ses.pending)) (refused 4)) r)))
      φ s (refused_or (refusal_of s) s o)
  unfolding call_refusal
  call-comes f = go unfit s.ses.ended (is_idle s.ses.pending) refl
    where
      go : (m e i : Bool) → unfit ≡ m
          → Comes (or_else (refuse m (refused 3)) (or_else (refuse e (refused 6)) (or_else (refuse (not i) (refused 4)) r))) φ s
          (refused_or (pick m 3 (pick e 6 (pick i 0 4))) s o)
      go true e i q = refl
      go false true i q = refl
      go false false false q = refl
      go false false true q = f q

  -- behind a report's, n bytes lent
  report-comes : (n : ℕ) → (is_idle s.ses.pending ≡ true → r ≡ some (refused 5)) → (unfit ≡ false → n ≡ s.ses.lent → Comes r φ s o)
      → Comes (or_else (refuse (unfit || (not (is_idle s.ses.pending) && not (eqb n s.ses.lent))) (refused 3)) (or_else (refuse s.ses.ended (refused 6)) r))
      φ s (refused_or (refusal_at s n) s o)
  unfolding report_refusal
  report-comes n h f = go unfit (is_idle s.ses.pending) s.ses.ended (eqb n s.ses.lent) refl refl h
    where
      go : (m i e l : Bool) → unfit ≡ m → eqb n s.ses.lent ≡ l → (i ≡ true → r ≡ some (refused 5))
          → Comes (or_else (refuse (m || (not i && not l)) (refused 3)) (or_else (refuse e (refused 6)) r)) φ s
          (refused_or (pick m 3 (pick i (pick e 6 5) (pick l (pick e 6 0) 3))) s o)
      go true i e l q u k = refl
      go false true true l q u k = refl
      go false true false l q u k = subst (λ (y : Option Answer). Comes y φ s (refused_or 5 s o)) (sym (k refl)) refl
      go false false e false q u k = refl
      go false false true true q u k = refl
      go false false false true q u k = f q (eqb-true n s.ses.lent u)

-- 5, 8, 7, 9 and 10 fit a reply
pub numbered-narrow : (v : Seen) (q : Option Call) → NarrowRefusal (numbered v q)
numbered-narrow v none = by_number {n = 5} (omega arith)
numbered-narrow v (some (call q)) = request-narrow _ q
numbered-narrow v (some (next_entry x)) = lets
numbered-narrow v (some next_chunk) = lets

-- every refusal of the table has one of the numbers 1 to 11
pub table-narrow : (v : Seen) (e : Event) (x : Act) → NarrowRefusal (refused_at v e x)
table-narrow v e (start n a b t) =
    or_narrow (refuse-narrow (misfits v e) (by_number {n = 3} (omega arith)))
    (or_narrow (refuse-narrow v.ended (by_number {n = 6} (omega arith)))
    (or_narrow (refuse-narrow (pending v.last) (by_number {n = 4} (omega arith))) (numbered-narrow v (call_of n a b e.lent))))
table-narrow v e (report r) =
    or_narrow (refuse-narrow (misfits v e || other_lent v e) (by_number {n = 3} (omega arith)))
    (or_narrow (refuse-narrow v.ended (by_number {n = 6} (omega arith)))
    (or_narrow (refuse-narrow (not (awaited v.last r)) (by_number {n = 5} (omega arith))) (refuse-narrow (outside v.last r) (by_number {n = 11} (omega arith)))))

-- ---- the reports' answers

-- 5 and 11
abbrev pub misplaced : Show → HostReport → Option Answer
misplaced sh r = or_else (refuse (not (awaited sh r)) (refused 5)) (refuse (outside sh r) (refused 11))

-- nothing is awaited where nothing is pending
pub none-awaited : {t w : ℕ} {p : Pending} {sh : Show} → Awaits t w p sh → (r : HostReport) → is_idle p ≡ true → misplaced sh r ≡ some (refused 5)
none-awaited idle (has_read k) e = refl
none-awaited idle wrote e = refl
none-awaited idle (fault kind code) e = refl
none-awaited reads r e = absurd (true≢false (sym e))
none-awaited writes_rx r e = absurd (true≢false (sym e))
none-awaited writes_lent r e = absurd (true≢false (sym e))
none-awaited writes_bytes r e = absurd (true≢false (sym e))
none-awaited closes r e = absurd (true≢false (sym e))

-- a code of 32 bits, whatever the kind
fault-narrow : (kind code : ℕ) → U32 code → NarrowFault (fault_numbered kind code)
fault-narrow kind code h = pick-cases NarrowFault (eqb kind 0) (λ e. tt) (λ e. h)

-- what is kept: a quit has ended once its close is reported
abbrev pub after : Session → Show → Frame
after s sh = record { capacity = s.capacity; message = s.message; lent = s.lent; features = s.features; ids = s.ids; ended = closing sh || s.ended }

-- ---- one session, and what is lent to it

module _ (s : Session) (lent rx msg : List ℕ) where
  abbrev pub here : St
  here = st s rx msg

  -- the calls' refusals, and then r
  abbrev pub behind : Option Answer → Option Answer
  behind r =
      or_else (refuse (misfit s (length rx) (length msg)) (refused 3))
      (or_else (refuse s.ended (refused 6)) (or_else (refuse (not (is_idle s.pending)) (refused 4)) r))

  pub behind-narrow : (r : Option Answer) → NarrowRefusal r → NarrowRefusal (behind r)
  behind-narrow r x =
      or_narrow (refuse-narrow (misfit s (length rx) (length msg)) (by_number {n = 3} (omega arith)))
      (or_narrow (refuse-narrow s.ended (by_number {n = 6} (omega arith)))
      (or_narrow (refuse-narrow (not (is_idle s.pending)) (by_number {n = 4} (omega arith))) x))

  -- the reports' refusals, and then r
  abbrev pub later : Option Answer → Option Answer
  later r =
      or_else (refuse (misfit s (length rx) (length msg) || (not (is_idle s.pending) && not (eqb (length lent) s.lent))) (refused 3))
      (or_else (refuse s.ended (refused 6)) r)

  pub later-narrow : (sh : Show) (r : HostReport) → NarrowRefusal (later (misplaced sh r))
  later-narrow sh r =
      or_narrow (refuse-narrow (misfit s (length rx) (length msg) || (not (is_idle s.pending) && not (eqb (length lent) s.lent))) (by_number {n = 3} (omega arith)))
      (or_narrow (refuse-narrow s.ended (by_number {n = 6} (omega arith)))
      (or_narrow (refuse-narrow (not (awaited sh r)) (by_number {n = 5} (omega arith))) (refuse-narrow (outside sh r) (by_number {n = 11} (omega arith)))))

  abbrev pub begins : Frame
  begins = frame_of (begun s (length lent))

  abbrev pub reported : HostReport → Out
  reported (has_read k) = report_read here (length lent) k
  reported wrote = report_wrote here lent
  reported (fault kind code) = report_fault here (length lent) (fault_numbered kind code)

  module _ (narrow : Narrow s) (short : U64 (length lent)) (few : length msg < 2 ^ 63) (bytes : Bytes rx) where
    inv : misfit s (length rx) (length msg) ≡ false → Inv here
    inv e = inv-of s rx msg narrow few bytes e

    -- ---- the calls

    -- what is refused knows no letters
    abbrev known : Setting
    known = record { dialect = published; features = listed s.features; ended = s.ended }

    starts : (q : Request) → NarrowRequest q → Comes (behind (request_refusal known (meant q lent))) begins here (start_call here q lent)
    unfolding start_call
    starts q n =
        subst (λ (r : Option Answer). Comes (behind r) begins here (start_call here q lent))
        (alike (table_of s.ids) letters (listed s.features) s.ended s.ended (meant q lent))
        (call-comes here _ begins _ (λ e. or_comes (request_refusal (setting_of s) (meant q lent)) begins here _ (start-goes here (inv e) q lent n short)))

    enters : (v : Version) → Comes (behind none) begins here (entry_call here v (length lent))
    unfolding entry_call
    enters v = call-comes here none begins _ (λ e. entry-goes here (inv e) v (length lent) short)

    chunks : Comes (behind none) begins here (chunk_call here (length lent))
    unfolding chunk_call
    chunks = call-comes here none begins _ (λ e. chunk-goes here (inv e) (length lent) short)

    unknown : Comes (behind (some (refused 5))) begins here (unknown_call here)
    unknown = call-comes here (some (refused 5)) begins _ (λ e. refl)

    module _ (sh : Show) (a b : ℕ) (x : U32 a) (y : U32 b) where
      abbrev pub Called : ℕ → Type 0
      Called n =
          Comes (behind (numbered (seen_of (frame_of s) sh) (call_of n a b lent))) begins here
          (call_numbered n a b here lent (request_numbered n a b) (unknown_call here))

      pub calls : (n : ℕ) → Called n
      calls =
          let others : Below 6 (λ n. Called (above 9 n)) =
          (starts Q.Data tt, (starts (Q.Done a) x, (starts Q.Quit tt, (enters V1, (enters V2, (chunks, tt)))))) in
          let transfers : Below 9 (λ n. Called (above 6 n)) =
          (starts (Q.Rcv2 (flags_of b)) y, (starts (Q.Send (mode_of a)) x, (starts (Q.Snd2 (mode_of a) (flags_of b)) (x, y), others))) in
          first 15 Called
          (unknown, (starts Q.Stat tt, (starts Q.Sta2 tt, (starts Q.List tt, (starts Q.Lis2 tt, (starts Q.Recv tt, transfers))))))
          (λ n. rw (ne_eqb (above 15 n) 12 (omega arith), ne_eqb (above 15 n) 13 (omega arith), ne_eqb (above 15 n) 14 (omega arith)) unknown)

    -- ---- the reports

    module _ (good : Inv here) where
      read-comes : {p : Pending} {sh : Show} (k : ℕ) → Awaits s.buf.tail (s.capacity - s.buf.tail) p sh → NarrowPending s.capacity p
          → Comes (misplaced sh (has_read k)) (after s sh) here (read_at p here k)
      unfolding read_at
      read-comes k idle n = refl
      read-comes k (reads {p = p} {until = until} {lost = lost}) n = go (eqb k 0 || ltb (s.capacity - s.buf.tail) k) refl
        where
          go : (b : Bool) → (eqb k 0 || ltb (s.capacity - s.buf.tail) k) ≡ b → Comes (refuse b (refused 11)) (frame_of s) here (read_in here p until lost k)
          go true e = read_in-refused here p until lost k e
          go false e = read_in-goes here good k (bytes-held rx _ bytes) p until lost n.0 n.1 e
      read-comes k writes_rx n = refl
      read-comes k writes_lent n = refl
      read-comes k writes_bytes n = refl
      read-comes k closes n = refl

      wrote-comes : {p : Pending} {sh : Show} → length lent ≡ s.lent → Awaits s.buf.tail (s.capacity - s.buf.tail) p sh → NarrowPending s.capacity p
          → Comes (misplaced sh wrote) (after s sh) here (wrote_at p here lent)
      unfolding wrote_at
      wrote-comes z idle n = refl
      wrote-comes z reads n = refl
      wrote-comes z (writes_rx {q = q} {from = from} {k = k}) n = wrote_on-goes here from lent good n.1.0 z q k n.0 n.2
      wrote-comes z (writes_lent {q = q} {from = from} {k = k}) n = wrote_on-goes here from lent good n.1.0 z q k n.0 n.2
      wrote-comes z (writes_bytes {q = q} {from = from} {k = k}) n = wrote_on-goes here from lent good n.1.0 z q k n.0 n.2
      wrote-comes z (closes {failed = failed} {code = code}) n = closed-goes here good failed code A.Done n (tt, refl)

      fault-comes : {p : Pending} {sh : Show} (kind code : ℕ) (f : Fault) → NarrowFault f → Awaits s.buf.tail (s.capacity - s.buf.tail) p sh → NarrowPending s.capacity p
          → Comes (misplaced sh (fault kind code)) (after s sh) here (fault_at p here f)
      unfolding fault_at
      fault-comes kind code f c idle n = refl
      fault-comes kind code f c (reads {lost = lost}) n = read-fault_goes here good f c lost
      fault-comes kind code f c (writes_rx {q = q}) n = write_fault-goes here good f c q
      fault-comes kind code f c (writes_lent {q = q}) n = write_fault-goes here good f c q
      fault-comes kind code f c (writes_bytes {q = q}) n = write_fault-goes here good f c q
      fault-comes kind code f c (closes {failed = failed} {code = had}) n = close-fault_goes here good f c failed had n

    pub reports : (sh : Show) → Asked s sh → (r : HostReport) → WideAct (report r) → Comes (later (misplaced sh r)) (after s sh) here (reported r)
    unfolding report_read report_wrote report_fault
    reports sh a (has_read k) w =
        report-comes here _ (after s sh) _ (length lent) (none-awaited a (has_read k)) (λ e z. read-comes (inv e) k a narrow.pending)
    reports sh a wrote w = report-comes here _ (after s sh) _ (length lent) (none-awaited a wrote) (λ e z. wrote-comes (inv e) z a narrow.pending)
    reports sh a (fault kind code) w =
        report-comes here _ (after s sh) _ (length lent) (none-awaited a (fault kind code))
        (λ e z. fault-comes (inv e) kind code (fault_numbered kind code) (fault-narrow kind code w) a narrow.pending)
