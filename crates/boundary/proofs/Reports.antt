-- The calls and the reports keep the widths: those that are let in (`..-goes`), and all (`..-fine`); a refusal leaves the session as it was.
-- Assumes nothing.
use Prim.Native.Nat.{ℕ, zero, suc, ◌+◌, ◌-◌, ◌≤◌, ◌<◌}
use mathlib.Core.Bool.{Bool, true, false, true≢false, ◌&&◌, ◌||◌, not}
use mathlib.Core.List.{List}
use mathlib.Core.Option.{Option, none, some}
use mathlib.Core.Path.{◌≡◌, refl, sym}
use native.Mathlib.Omega.{arith}
use borrow.Author.Tests.{ltb-false, eqb-true}
use lib.Dec.{eqb, ltb}
use lib.ListN.{length, get_or}
use Rattle.protocol.specs.Answers as P
use Rattle.protocol.specs.Bytes.{Bytes, pick, has}
use Rattle.protocol.specs.Refusal.{Setting, or_else, refuse, path_refusal, flag_refusal, feature_refusal, transfer_refusal, ask_feature, request_refusal}
use Rattle.protocol.specs.Flags.{refused_flags}
use Rattle.protocol.specs.Ids.{Dialect}
use Rattle.protocol.specs.Messages as M
use Rattle.protocol.proofs.Bodies.{pick-cases, or-false}
use Rattle.record.specs.Fields.{starts_in}
use Rattle.record.specs.Narrow.{U32, U64, NarrowPhase, NarrowRequest, NarrowPending}
use Rattle.recv_buf.specs.RecvBuf.{cursor, held_bytes}
use Rattle.request.specs.Meaning.{meant}
use Rattle.request.specs.declared.Request.{Request}
use Rattle.request.specs.declared.Request.TheVariants as Q
use Rattle.session.specs.declared.Answer.{Answer}
use Rattle.session.specs.declared.Answer.TheVariants as A
use Rattle.session.specs.declared.Fault.{Fault}
use Rattle.session.specs.declared.Fault.TheVariants as F
use Rattle.session.specs.declared.Pending.{Pending}
use Rattle.session.specs.declared.Pending.TheVariants.{Idle, Reading, Writing, Closing}
use Rattle.session.specs.declared.Phase.{Phase}
use Rattle.session.specs.declared.Phase.TheVariants.{Header}
use Rattle.session.specs.declared.Reply.TheVariants as R
use Rattle.session.specs.declared.Session.{Session}
use Rattle.session.specs.declared.Version.{Version}
use Rattle.session.specs.declared.Want.TheVariants as W
use Rattle.session.specs.Calls.{misfit, is_idle, call_refusal, refused_or, refusal_of, setting_of, or_refuse, start_call, entry_call, chunk_call}
use Rattle.session.specs.Reports.{report_refusal, refusal_at, refused_out, read_in, read_at, report_read, closed_out, wrote_at, report_wrote, fault_answer, push_fault, quit_fault, write_fault, fault_at, report_fault}
use Rattle.session.specs.State.{St, st, Out, out, beside, at, begun, shut, refusing}
use Rattle.session.specs.Steps.{read_on}
use Rattle.session.specs.Sends.{tidied, is_data, carried, sent, told}
use Rattle.session.proofs.Turns.{frame_of}
use Rattle.boundary.specs.Crossing.{is_refusal}
use Rattle.boundary.proofs.Narrow.{Plain, NarrowAnswer, Given}
use Rattle.boundary.proofs.Steps.{Inv, Goes, Fine, fine, inv-pending, inv-tidied, idle, reads, told-goes, pump_goes, sent-goes, closing-goes, carried-in, wrote_on-goes}

-- ---- refusals

pick_same : {A : Type 0} (b : Bool) (a : A) → pick b a a ≡ a
pick_same true a = refl
pick_same false a = refl

refused-fine : (s : St) (a : Answer) → Inv s → NarrowAnswer s.ses.capacity a → Fine s.ses (out (refusing s.ses a) s.rx s.msg)
refused-fine s a x n = record { inv = x; reply = n; window = tt; same = pick_same (is_refusal (R.Told a)) s.ses }

unless_fine : (s : St) (k : ℕ) (o : Out) → Inv s → Plain k → (k ≡ 0 → Fine s.ses o) → Fine s.ses (refused_or k s o)
unless_fine s k o x p f = pick-cases (Fine s.ses) (ltb 0 k) (λ e. refused-fine s (A.Refused k) x p) (λ e. f (omega (arith, ltb-false 0 k e)))

plain-pick : (b : Bool) {m n : ℕ} → Plain m → Plain n → Plain (pick b m n)
plain-pick b p q = pick-cases Plain b (λ e. p) (λ e. q)

call-plain : (s : Session) (x m : ℕ) → Plain (call_refusal s x m)
unfolding call_refusal
call-plain s x m =
    plain-pick (misfit s x m) (omega arith) (plain-pick s.ended (omega arith) (plain-pick (is_idle s.pending) (omega arith) (omega arith)))

report-plain : (s : Session) (x m n : ℕ) → Plain (report_refusal s x m n)
unfolding report_refusal
report-plain s x m n =
    plain-pick (misfit s x m) (omega arith)
    (plain-pick (is_idle s.pending) (plain-pick s.ended (omega arith) (omega arith))
    (plain-pick (eqb n s.lent) (plain-pick s.ended (omega arith) (omega arith)) (omega arith)))

-- a report that is let in is one with as many bytes lent as the call had
report-lent : (s : Session) (x m n : ℕ) → report_refusal s x m n ≡ 0 → n ≡ s.lent
unfolding report_refusal
report-lent s x m n = go (misfit s x m) (is_idle s.pending) s.ended (eqb n s.lent) refl
  where
    go : (f i e l : Bool) → eqb n s.lent ≡ l → ◌≡◌ {A = ℕ} (pick f 3 (pick i (pick e 6 5) (pick l (pick e 6 0) 3))) 0 → n ≡ s.lent
    go true i e l q z = absurd (omega (arith, z))
    go false true true l q z = absurd (omega (arith, z))
    go false true false l q z = absurd (omega (arith, z))
    go false false e true q z = eqb-true n s.lent q
    go false false e false q z = absurd (omega (arith, z))

-- 8, 7, 9 and 10
pub data NarrowRefusal : Option P.Answer → Type 0 where
  lets : NarrowRefusal none
  by_number : {n : ℕ} → (0 < n) × Plain n → NarrowRefusal (some (P.refused n))
  by_feature : {n : ℕ} → U64 n → NarrowRefusal (some (P.missing n))

pub or_narrow : {a b : Option P.Answer} → NarrowRefusal a → NarrowRefusal b → NarrowRefusal (or_else a b)
or_narrow lets y = y
or_narrow (by_number h) y = by_number h
or_narrow (by_feature h) y = by_feature h

pub refuse-narrow : {a : P.Answer} (b : Bool) → NarrowRefusal (some a) → NarrowRefusal (refuse b a)
refuse-narrow b x = pick-cases NarrowRefusal b (λ e. x) (λ e. lets)

feature_narrow : (fs : List Bool) (needed : Bool) (n : ℕ) → U64 n → NarrowRefusal (feature_refusal fs needed n)
unfolding feature_refusal
feature_narrow fs needed zero h = lets
feature_narrow fs needed (suc n) h = refuse-narrow (needed && not (get_or fs n false)) (by_feature h)

path-narrow : (d : Dialect) (p : List ℕ) → NarrowRefusal (path_refusal d p)
unfolding path_refusal
path-narrow d p = or_narrow (refuse-narrow (has 0 p) (by_number (omega arith))) (refuse-narrow (ltb d.longest (length p)) (by_number (omega arith)))

flag-narrow : (pull : Bool) (f : ℕ) → NarrowRefusal (flag_refusal pull f)
unfolding flag_refusal
flag-narrow pull f = refuse-narrow (refused_flags pull f) (by_number (omega arith))

transfer_narrow : (fs : List Bool) (f : ℕ) → NarrowRefusal (transfer_refusal fs f)
unfolding transfer_refusal
transfer_narrow fs f =
    or_narrow (feature_narrow fs _ 3 (omega arith))
    (or_narrow (feature_narrow fs _ 4 (omega arith))
    (or_narrow (feature_narrow fs _ 5 (omega arith))
    (or_narrow (feature_narrow fs _ 6 (omega arith)) (feature_narrow fs _ 7 (omega arith)))))

ask-narrow : (fs : List Bool) (i : M.PathOnly) → NarrowRefusal (ask_feature fs i)
ask-narrow fs M.stat = lets
ask-narrow fs M.sta2 = feature_narrow fs true 1 (omega arith)
ask-narrow fs M.list = lets
ask-narrow fs M.lis2 = feature_narrow fs true 2 (omega arith)
ask-narrow fs M.recv = lets

pub request-narrow : (g : Setting) (q : M.Request) → NarrowRefusal (request_refusal g q)
unfolding request_refusal
request-narrow g (M.ask i p) = or_narrow (path-narrow g.dialect p) (ask-narrow g.features i)
request-narrow g (M.rcv2 p f) = or_narrow (path-narrow g.dialect p) (or_narrow (flag-narrow true f) (transfer_narrow g.features f))
request-narrow g (M.send p m) = path-narrow g.dialect p
request-narrow g (M.snd2 p m f) = or_narrow (path-narrow g.dialect p) (or_narrow (flag-narrow false f) (transfer_narrow g.features f))
request-narrow g (M.chunk x) = lets
request-narrow g (M.done t) = lets
request-narrow g M.quit = lets

-- ---- the calls

-- a call's first message carries what is lent from its start on
starts_first : (q : Request) → starts_in q 0 ≡ true
starts_first q = go (is_data q)
  where
    go : (d : Bool) → (d || eqb 0 0) ≡ true
    go true = refl
    go false = refl

inv-begun : (s : St) (n : ℕ) → Inv s → U64 n → Inv (st (begun s.ses n) s.rx s.msg)
inv-begun s n x h = record { good = omega (arith, x.good); wide = x.wide; lent = h; ids = x.ids; pending = x.pending; bytes = x.bytes }

or_fine : {r : Option P.Answer} (s : St) (o : Out) → NarrowRefusal r → Inv s → Fine s.ses o → Fine s.ses (or_refuse r s o)
or_fine s o lets x f = f
or_fine s o (by_number {n = n} h) x f = refused-fine s (A.Refused n) x h.1
or_fine s o (by_feature {n = n} h) x f = refused-fine s (A.Missing n) x h

module _ (s : St) (x : Inv s) where
  -- n bytes are lent
  abbrev begins : ℕ → St
  begins n = st (begun s.ses n) s.rx s.msg

  pub start-goes : (q : Request) (lent : List ℕ) → NarrowRequest q → U64 (length lent)
      → Goes (frame_of (begun s.ses (length lent))) (beside (sent (begun s.ses (length lent)) s.rx q 0 (carried q 0 lent)) s.msg)
  start-goes q lent r h =
      sent-goes (begins (length lent)) q 0 (carried q 0 lent) (inv-begun s (length lent) x h) r (omega arith) (starts_first q) (carried-in q 0 lent (starts_first q))

  pub entry-goes : (v : Version) (n : ℕ) → U64 n → Goes (frame_of (begun s.ses n)) (read_on (begins n) (Header (W.Entry v)) false)
  entry-goes v n h = pump_goes 4 (begins n) (Header (W.Entry v)) false (inv-begun s n x h) tt

  pub chunk-goes : (n : ℕ) → U64 n → Goes (frame_of (begun s.ses n)) (read_on (tidied (begins n)) (Header W.Chunk) false)
  chunk-goes n h = pump_goes 4 (tidied (begins n)) (Header W.Chunk) false (inv-tidied _ (inv-begun s n x h)) tt

  let_in-fine : (o : Out) → Fine s.ses o → Fine s.ses (refused_or (refusal_of s) s o)
  let_in-fine o f = unless_fine s (refusal_of s) o x (call-plain s.ses (length s.rx) (length s.msg)) (λ z. f)

  pub start_fine : (q : Request) (lent : List ℕ) → NarrowRequest q → U64 (length lent) → Fine s.ses (start_call s q lent)
  unfolding start_call
  start_fine q lent r h =
      let_in-fine _ (or_fine s _ (request-narrow (setting_of s.ses) (meant q lent)) x (fine s.ses (start-goes q lent r h)))

  pub entry-fine : (v : Version) (n : ℕ) → U64 n → Fine s.ses (entry_call s v n)
  unfolding entry_call
  entry-fine v n h = let_in-fine _ (fine s.ses (entry-goes v n h))

  pub chunk-fine : (n : ℕ) → U64 n → Fine s.ses (chunk_call s n)
  unfolding chunk_call
  chunk-fine n h = let_in-fine _ (fine s.ses (chunk-goes n h))

-- ---- the reports

abbrev pub NarrowFault : Fault → Type 0
NarrowFault F.Closed = Unit {0}
NarrowFault (F.Error c) = U32 c

fault-given : (c : ℕ) (e : Fault) → NarrowFault e → Given c (fault_answer e)
fault-given c F.Closed n = (tt, refl)
fault-given c (F.Error k) n = (n, refl)

-- a read of no bytes, or beyond the window
module _ (s : St) (p : Phase) (until : ℕ) (lost : Bool) (k : ℕ) (e : (eqb k 0 || ltb (s.ses.capacity - s.ses.buf.tail) k) ≡ true) where
  pub read_in-refused : read_in s p until lost k ≡ refused_out s 11
  unfolding read_in
  read_in-refused = go (eqb k 0) (ltb (s.ses.capacity - s.ses.buf.tail) k) _ e
    where
      go : (b c : Bool) (o : Out) → (b || c) ≡ true → pick b (refused_out s 11) (pick c (refused_out s 11) o) ≡ refused_out s 11
      go true c o z = refl
      go false true o z = refl
      go false false o z = absurd (true≢false (sym z))

module _ (s : St) (x : Inv s) where
  let_on_fine : (n : ℕ) (o : Out) → (n ≡ s.ses.lent → Fine s.ses o) → Fine s.ses (refused_or (refusal_at s n) s o)
  let_on_fine n o f = unless_fine s (refusal_at s n) o x (report-plain s.ses (length s.rx) (length s.msg) n)
      (λ z. f (report-lent s.ses (length s.rx) (length s.msg) n z))

  misplaced : Fine s.ses (refused_out s 5)
  misplaced = refused-fine s (A.Refused 5) x (omega arith)

  -- k bytes came: so many more are held
  module _ (k : ℕ) (more : Bytes (held_bytes s.rx (cursor s.ses.buf.head (s.ses.buf.tail + k)))) where
    abbrev came : St
    came = st (at s.ses (cursor s.ses.buf.head (s.ses.buf.tail + k)) Idle) s.rx s.msg

    inv-came : k ≤ s.ses.capacity - s.ses.buf.tail → Inv came
    inv-came h = record { good = omega (arith, x.good); wide = x.wide; lent = x.lent; ids = x.ids; pending = tt; bytes = more }

    pub read_in-goes : (p : Phase) (until : ℕ) (lost : Bool) → NarrowPhase s.ses.capacity p → U64 until
        → (eqb k 0 || ltb (s.ses.capacity - s.ses.buf.tail) k) ≡ false → Goes (frame_of s.ses) (read_in s p until lost k)
    unfolding read_in
    read_in-goes p until lost n u e =
        let (a, b) = or-false (eqb k 0) (ltb (s.ses.capacity - s.ses.buf.tail) k) e in
        let y : Inv came = inv-came (ltb-false _ _ b) in
        rw (a, b)
        (pick-cases (Goes (frame_of s.ses)) (ltb (s.ses.buf.tail + k) until)
        (λ g. pick-cases (Goes (frame_of s.ses)) (ltb (s.ses.buf.tail + k) s.ses.capacity)
        (λ h. record { inv = inv-pending came _ y (n, u); reply = omega (arith, y.good); given = refl; frame = refl; asked = reads })
        (λ h. pump_goes 4 came p lost y n))
        (λ g. pump_goes 4 came p lost y n))

    read_in-fine : (p : Phase) (until : ℕ) (lost : Bool) → NarrowPhase s.ses.capacity p → U64 until → Fine s.ses (read_in s p until lost k)
    read_in-fine p until lost n u = go (eqb k 0 || ltb (s.ses.capacity - s.ses.buf.tail) k) refl
      where
        go : (b : Bool) → (eqb k 0 || ltb (s.ses.capacity - s.ses.buf.tail) k) ≡ b → Fine s.ses (read_in s p until lost k)
        go true e = rw (read_in-refused s p until lost k e) (refused-fine s (A.Refused 11) x (omega arith))
        go false e = fine s.ses (read_in-goes p until lost n u e)

    read_at-fine : (p : Pending) → NarrowPending s.ses.capacity p → Fine s.ses (read_at p s k)
    unfolding read_at
    read_at-fine Idle n = misplaced
    read_at-fine (Reading p until lost) n = read_in-fine p until lost n.0 n.1
    read_at-fine (Writing q from piece) n = misplaced
    read_at-fine (Closing failed code) n = misplaced

    pub read-fine : (n : ℕ) → Fine s.ses (report_read s n k)
    unfolding report_read
    read-fine n = let_on_fine n _ (λ z. read_at-fine s.ses.pending x.pending)

  pub closed-goes : (failed : Bool) (code : ℕ) (a : Answer) → U32 code → Given s.ses.capacity a → Goes (frame_of (shut s.ses)) (closed_out s failed code a)
  closed-goes failed code a n g =
      let z : Given s.ses.capacity (pick failed (A.Error code) a) = pick-cases (Given s.ses.capacity) failed (λ e. (n, refl)) (λ e. g) in
      record {
        inv = record { good = omega (arith, x.good); wide = x.wide; lent = x.lent; ids = x.ids; pending = tt; bytes = x.bytes };
        reply = z.0;
        given = z.1;
        frame = refl;
        asked = idle;
      }

  wrote_at-fine : (p : Pending) (lent : List ℕ) → NarrowPending s.ses.capacity p → length lent ≡ s.ses.lent → Fine s.ses (wrote_at p s lent)
  unfolding wrote_at
  wrote_at-fine Idle lent n h = misplaced
  wrote_at-fine (Reading p until lost) lent n h = misplaced
  wrote_at-fine (Writing q from piece) lent n h = fine s.ses (wrote_on-goes s from lent x n.1.0 h q piece n.0 n.2)
  wrote_at-fine (Closing failed code) lent n h = fine s.ses (closed-goes failed code A.Done n (tt, refl))

  pub wrote-fine : (lent : List ℕ) → Fine s.ses (report_wrote s lent)
  unfolding report_wrote
  wrote-fine lent = let_on_fine (length lent) _ (λ z. wrote_at-fine s.ses.pending lent x.pending z)

  push_goes : (e : Fault) → NarrowFault e → Goes (frame_of s.ses) (push_fault s e)
  push_goes F.Closed c = pump_goes 4 s (Header W.Nothing) true x tt
  push_goes (F.Error n) c = told-goes s (A.Error n) x (c, refl)

  quit-goes : (e : Fault) → NarrowFault e → Goes (frame_of s.ses) (quit_fault s e)
  quit-goes F.Closed c = closing-goes s false 0 x (omega arith)
  quit-goes (F.Error n) c = closing-goes s true n x c

  module _ (e : Fault) (c : NarrowFault e) where
    pub write_fault-goes : (q : Request) → Goes (frame_of s.ses) (write_fault s q e)
    unfolding write_fault
    write_fault-goes Q.Stat = told-goes s (fault_answer e) x (fault-given s.ses.capacity e c)
    write_fault-goes Q.Sta2 = told-goes s (fault_answer e) x (fault-given s.ses.capacity e c)
    write_fault-goes Q.List = told-goes s (fault_answer e) x (fault-given s.ses.capacity e c)
    write_fault-goes Q.Lis2 = told-goes s (fault_answer e) x (fault-given s.ses.capacity e c)
    write_fault-goes Q.Recv = told-goes s (fault_answer e) x (fault-given s.ses.capacity e c)
    write_fault-goes (Q.Rcv2 f) = told-goes s (fault_answer e) x (fault-given s.ses.capacity e c)
    write_fault-goes (Q.Send m) = push_goes e c
    write_fault-goes (Q.Snd2 m f) = push_goes e c
    write_fault-goes Q.Data = push_goes e c
    write_fault-goes (Q.Done t) = push_goes e c
    write_fault-goes Q.Quit = quit-goes e c

    pub read-fault_goes : (lost : Bool) → Goes (frame_of s.ses) (told s (pick lost A.Closed (fault_answer e)))
    read-fault_goes lost = told-goes s _ x (pick-cases (Given s.ses.capacity) lost (λ z. (tt, refl)) (λ z. fault-given s.ses.capacity e c))

    pub close-fault_goes : (failed : Bool) (code : ℕ) → U32 code → Goes (frame_of (shut s.ses)) (closed_out s failed code (fault_answer e))
    close-fault_goes failed code n = closed-goes failed code (fault_answer e) n (fault-given s.ses.capacity e c)

    fault_at-fine : (p : Pending) → NarrowPending s.ses.capacity p → Fine s.ses (fault_at p s e)
    unfolding fault_at
    fault_at-fine Idle n = misplaced
    fault_at-fine (Reading p until lost) n = fine s.ses (read-fault_goes lost)
    fault_at-fine (Writing q from piece) n = fine s.ses (write_fault-goes q)
    fault_at-fine (Closing failed code) n = fine s.ses (close-fault_goes failed code n)

    pub fault-fine : (n : ℕ) → Fine s.ses (report_fault s n e)
    unfolding report_fault
    fault-fine n = let_on_fine n _ (λ z. fault_at-fine s.ses.pending x.pending)
