-- The log of every list of calls, made against any host through the crossings, is the core's: step by step their run goes
-- on where the core's run does, on the session stored.
-- Assumes nothing.
use Prim.Native.Nat.{ℕ, zero, suc, ◌+◌, ◌-◌, ◌*◌, ◌≤◌, ◌<◌}
use mathlib.Core.Bool.{Bool, true, false, ◌&&◌, not, and-eq-true_iff}
use mathlib.Core.List.{List, [], ◌∷◌, ◌++◌}
use mathlib.Core.Option.{Option, none, some}
use mathlib.Core.Path.{◌≡◌, refl, sym, ap, ◌∙◌, subst}
use native.Mathlib.Omega.{arith}
use borrow.Author.Tests.{ltb-true, leb-true}
use lib.Dec.{ltb, leb}
use lib.ListN.{length, take, length-append}
use lib.Seq.{length-take-le}
use Rattle.protocol.specs.Answers.{End, closed, error, refused}
use Rattle.protocol.specs.Bytes.{Bytes, pick, over}
use Rattle.protocol.specs.Calls.{Call, call, next_entry, next_chunk, messages, Made}
use Rattle.protocol.specs.Hours.{Hours}
use Rattle.protocol.specs.Messages.{PathOnly, stat, sta2, list, lis2, recv, ask, rcv2, send, snd2, chunk, done, quit}
use Rattle.protocol.specs.Reader.{Report, accepted, broke}
use Rattle.protocol.specs.Refusal.{outside, closed_hours}
use Rattle.protocol.proofs.Bytes.{bytes-tail, bytes_drop, over-length}
use Rattle.protocol.proofs.Words.{bytes_take}
use Rattle.record.specs.Narrow.{U64, NarrowRequest}
use Rattle.record.specs.Record.{stored}
use Rattle.recv_buf.specs.RecvBuf.{cursor, held_bytes}
use Rattle.recv_buf.proofs.Laws.{window-keeps}
use Rattle.session.specs.declared.Reply.{Reply}
use Rattle.session.specs.declared.Reply.TheVariants as R
use Rattle.session.specs.declared.Session.{Session}
use Rattle.session.specs.Core as C
use Rattle.session.specs.Core.{ask_of, fault_of, show_of, begin, core}
use Rattle.session.specs.Demand3.{Coded, CodedFault, CodedReport, Wide, AllWide}
use Rattle.session.specs.EveryHost.{CodedHost}
use Rattle.session.specs.Gate.{refuses}
use Rattle.session.specs.Host.{told, Spare, Step, Host, Ask, World, new_call, has_read, has_stopped, composing, counted, filling, windowed, lent_of, Run, over_with, unended, grant_read, grant_write, grant_close, granted, run, enough, Entry, on_run}
use Rattle.session.specs.Reports.{report_read, report_wrote, report_fault}
use Rattle.session.specs.State.{St, st, Out}
use Rattle.session.proofs.Gated.{run_at, log_at}
use Rattle.session.proofs.Buf.{sound-of, good-at, held-came}
use Rattle.session.proofs.Run.{length-filling}
use Rattle.session.proofs.Turns.{held}
use Rattle.boundary.specs.Boundary.{recorded, boundary}
use Rattle.boundary.proofs.Carried.{image, holds_same, tail-same, start-image, wrote-image, fault-image, read-image}
use Rattle.boundary.proofs.Reports.{NarrowFault, start_fine, entry-fine, chunk-fine, read-fine, wrote-fine, fault-fine}
use Rattle.boundary.proofs.Steps.{Inv, Fine}

-- ---- calls, hosts

ask-fits : (i : PathOnly) → NarrowRequest (ask_of i)
ask-fits stat = tt
ask-fits sta2 = tt
ask-fits list = tt
ask-fits lis2 = tt
ask-fits recv = tt

-- whatever is lent
begin-fine : (s : St) → Inv s → (q : Call) → Wide q → (lent : List ℕ) → U64 (length lent) → Fine s.ses (begin s q lent)
begin-fine s x (call (ask i p)) w lent l = start_fine s x (ask_of i) lent (ask-fits i) l
begin-fine s x (call (rcv2 p f)) w lent l = start_fine s x _ lent w.1 l
begin-fine s x (call (send p m)) w lent l = start_fine s x _ lent w.1 l
begin-fine s x (call (snd2 p m f)) w lent l = start_fine s x _ lent w.1 l
begin-fine s x (call (chunk b)) w lent l = start_fine s x _ lent tt l
begin-fine s x (call (done t)) w lent l = start_fine s x _ lent w l
begin-fine s x (call quit) w lent l = start_fine s x _ lent tt l
begin-fine s x (next_entry v) w lent l = entry-fine s x (C.version_of v) (length lent) l
begin-fine s x next_chunk w lent l = chunk-fine s x (length lent) l

lent-wide : (z : Spare) → U64 (length z.lent) → (q : Call) → Wide q → U64 (length (lent_of z q))
lent-wide z l (call (ask i p)) w = w
lent-wide z l (call (rcv2 p f)) w = w.0
lent-wide z l (call (send p m)) w = w.0
lent-wide z l (call (snd2 p m f)) w = w.0
lent-wide z l (call (chunk b)) w = w
lent-wide z l (call (done t)) w = l
lent-wide z l (call quit) w = l
lent-wide z l (next_entry v) w = l
lent-wide z l next_chunk w = l

pub coded-narrow : (e : End) → Coded e → NarrowFault (fault_of e)
coded-narrow closed c = tt
coded-narrow (error n) c = c

-- ---- the window, overwritten

bytes-append : (a b : List ℕ) → Bytes a → Bytes b → Bytes (a ++ b)
bytes-append [] b x y i = y i
bytes-append (c ∷ a) b x y zero = x 0
bytes-append (c ∷ a) b x y (suc i) = bytes-append a b (bytes-tail c a x) y i

-- the window at tail is overwritten by v and then by any bytes
module _ (s : St) (x : Inv s) (i : ℕ) (at_tail : i ≡ s.ses.buf.tail) (v junk : List ℕ) (fits : i + (length v + length junk) ≤ length s.rx) where
  abbrev laid : St
  laid = st s.ses (over s.rx i (v ++ junk)) s.msg

  within : i + length (v ++ junk) ≤ length s.rx
  within = rw (length-append v junk) fits

  inv-laid : Inv laid
  inv-laid =
      let g = x.good in
      record {
        good = good-at s s.ses.buf laid.rx s.msg s.ses.pending g g.order g.inside (over-length s.rx i (v ++ junk) within) refl;
        wide = x.wide;
        lent = x.lent;
        ids = x.ids;
        pending = x.pending;
        bytes = rw at_tail (subst Bytes (sym (window-keeps s.rx s.ses.buf (sound-of s g) (v ++ junk) (rw at_tail at within))) x.bytes);
      }

  -- .. and v is held with what was held
  bytes-laid : Bytes v → Bytes (held_bytes laid.rx (cursor s.ses.buf.head (s.ses.buf.tail + length v)))
  bytes-laid y =
      rw at_tail (subst Bytes (sym (held-came s.rx s.ses.buf (sound-of s x.good) v junk (omega arith))) (bytes-append (held s) v x.bytes y))

-- ---- runs

-- the recorded run e is the core's run, the session stored; and what that run leaves may go on
abbrev Same : Run (List ℕ) → Run Session → Type 0
Same e (over_with x rx msg a w) = (e ≡ over_with (stored x) rx msg a w) × (Inv (st x rx msg) × Bytes w.left)
Same e unended = e ≡ unended

same_if : (b : Bool) (x : Run (List ℕ)) (y : Run Session) → (b ≡ true → Same x y) → Same (pick b x unended) (pick b y unended)
same_if true x y f = f refl
same_if false x y f = refl

abbrev replying : St → Reply → Out
replying t r = record { st = t; reply = r }

module _ (h : Host) (z : CodedHost h) (lends : (w : World) → boundary.lends (h.spare w)) (lent : List ℕ) (short : U64 (length lent)) where
  module _ (k : World → Step (List ℕ) → Run (List ℕ)) (k' : World → Step Session → Run Session)
      (on : (s₀ : Session) (w : World) (o : Out) → Fine s₀ o → Bytes w.left → Same (k w (image o)) (k' w (C.step_of o)))
      (w : World) (b : Bytes w.left) where
    -- a report
    wrote-same : (v w' : World) (t : St) → Inv t → Bytes w'.left
        → Same (k w' (recorded.on_wrote (stored t.ses) t.rx t.msg lent (h.spare v)))
        (k' w' (core.on_wrote t.ses t.rx t.msg lent (h.spare v)))
    wrote-same v w' t x y =
        let f : Fine t.ses (report_wrote t lent) = wrote-fine t x lent in
        rw (wrote-image t x (h.spare v) (lends v).0 lent f) (on t.ses w' (report_wrote t lent) f y)

    fault-same : (v w' : World) (t : St) (e : End) → Coded e → Inv t → Bytes w'.left
        → Same (k w' (recorded.on_fault (stored t.ses) t.rx t.msg lent e (h.spare v)))
        (k' w' (core.on_fault t.ses t.rx t.msg lent e (h.spare v)))
    fault-same v w' t e c x y =
        let f : Fine t.ses (report_fault t (length lent) (fault_of e)) = fault-fine t x (fault_of e) (coded-narrow e c) (length lent) in
        rw (fault-image t x (h.spare v) (lends v).0 lent e f) (on t.ses w' (report_fault t (length lent) (fault_of e)) f y)

    module _ (t : St) (x : Inv t) (r : Reply) where
      write_same : (w' : World) → Bytes w'.left → (p : List ℕ) (o : Report) → CodedReport o
          → Same (grant_write recorded h lent k w' (image (replying t r)) p o) (grant_write core h lent k' w' (C.step_of (replying t r)) p o)
      write_same w' y p accepted c = wrote-same w' _ t x y
      write_same w' y p (broke e) c = fault-same w' _ t e c x y

      close-same : (o : Report) → CodedReport o
          → Same (grant_close recorded h lent k w (image (replying t r)) o) (grant_close core h lent k' w (C.step_of (replying t r)) o)
      close-same accepted c = wrote-same w _ t x b
      close-same (broke e) c = fault-same w _ t e c x b

      module _ (i len : ℕ) (at_tail : i ≡ t.ses.buf.tail) (nonempty : 0 < len) (inside : i + len ≤ length t.rx) where
        abbrev asking : ℕ → Ask
        asking n = record { rest = w.left; holds = held t; at = i; len = len; before = w.pieces; brought = n }

        -- the read comes to the fault d
        fails-same : (w' : World) (d : End) → Coded d → Bytes w'.left
            → Same (k w' (recorded.on_fault (stored t.ses) (windowed (h.junk w.reads) t.rx i len []) t.msg lent d (h.spare w)))
            (k' w' (core.on_fault t.ses (windowed (h.junk w.reads) t.rx i len []) t.msg lent d (h.spare w)))
        fails-same w' d c y =
            let f : ℕ → ℕ = h.junk w.reads in
            let l = length-filling f (len - 0) in
            fault-same w w' (laid t x i at_tail [] (filling f (len - 0)) (omega arith)) d c (inv-laid t x i at_tail [] (filling f (len - 0)) (omega arith)) y

        read_same : (ls : List ℕ) (fails : Option End) → CodedFault fails → w.left ≡ ls
            → Same (grant_read recorded h lent k w (image (replying t r)) i len ls fails) (grant_read core h lent k' w (C.step_of (replying t r)) i len ls fails)
        read_same [] fails y e = rw (holds_same t x) (fails-same (has_read 0 (asking 0) w) h.end z.end b)
        read_same (c ∷ ls) (some d) y e = rw (holds_same t x) (fails-same (has_stopped d (has_read 0 (asking 0) w)) d y b)
        read_same (c ∷ ls) none coded e =
            let n : ℕ = counted (h.count w.reads) len (length w.left) in
            let v : List ℕ = take n w.left in
            let y : length w.left ≡ suc (length ls) = ap length e in
            let m : length v ≡ n = length-take-le n w.left (omega arith) in
            let junk : List ℕ = filling (h.junk w.reads) (len - length v) in
            let fits : i + (length v + length junk) ≤ length t.rx = omega (arith, length-filling (h.junk w.reads) (len - length v)) in
            let t₁ : St = laid t x i at_tail v junk fits in
            let x₁ : Inv t₁ = inv-laid t x i at_tail v junk fits in
            let f : Fine t.ses (report_read t₁ (length lent) n) =
            read-fine t₁ x₁ n (subst (λ (j : ℕ). Bytes (held_bytes t₁.rx (cursor t.ses.buf.head (t.ses.buf.tail + j)))) m
            (bytes-laid t x i at_tail v junk fits (bytes_take n w.left b))) (length lent) in
            rw (holds_same t x, read-image t₁ x₁ (h.spare w) (lends w).0 lent n f) (on t.ses (has_read n (asking n) w) (report_read t₁ (length lent) n) f (bytes_drop n w.left b))

    -- one step of both runs
    granted-same : (s₀ : Session) (t : St) (r : Reply) → Fine s₀ (replying t r)
        → Same (granted recorded h lent k w (image (replying t r)) (show_of t.rx t.msg r))
        (granted core h lent k' w (C.step_of (replying t r)) (show_of t.rx t.msg r))
    granted-same s₀ t (R.Told a) f = (refl, (f.inv, b))
    granted-same s₀ t (R.Read i len) f =
        same_if (ltb 0 len && leb (i + len) (length t.rx)) _ _
        (λ e. let (c, d) = (and-eq-true_iff (ltb 0 len) (leb (i + len) (length t.rx))).0 e in
        (read_same t f.inv (R.Read i len) i len f.window (ltb-true 0 len c) (leb-true _ _ d) w.left (h.fails w.reads) (z.reads w.reads) refl))
    granted-same s₀ t (R.WriteRx i len) f =
        same_if (leb (i + len) (length t.rx)) _ _ (λ e. write_same t f.inv (R.WriteRx i len) (composing i w) b _ (h.writes w.writes) (z.writes w.writes))
    granted-same s₀ t (R.WriteLent i len) f =
        same_if (leb (i + len) (length lent)) _ _ (λ e. write_same t f.inv (R.WriteLent i len) w b _ (h.writes w.writes) (z.writes w.writes))
    granted-same s₀ t (R.WriteBytes p) f = write_same t f.inv (R.WriteBytes p) w b _ (h.writes w.writes) (z.writes w.writes)
    granted-same s₀ t R.Close f = close-same t f.inv R.Close h.close z.close

  run-same : (n : ℕ) (s₀ : Session) (w : World) (o : Out) → Fine s₀ o → Bytes w.left
      → Same (run recorded h lent n w (image o)) (run core h lent n w (C.step_of o))
  unfolding run
  run-same zero s₀ w o f b = refl
  run-same (suc n) s₀ w o f b =
      granted-same (λ w' s'. run recorded h lent n w' s') (λ w' s'. run core h lent n w' s') (run-same n) w b s₀ o.st o.reply f

-- ---- logs

module _ (h : Host) (z : CodedHost h) (lends : (w : World) → boundary.lends (h.spare w)) where
  -- an entry, and what follows
  entry-same : (u : List ℕ) (z : ℕ) (m : List ℕ) (k : World → List ℕ → List ℕ → List ℕ → List Entry) (k' : World → Session → List ℕ → List ℕ → List Entry)
      → ((w : World) (s : St) → Inv s → Bytes w.left → k w (stored s.ses) s.rx s.msg ≡ k' w s.ses s.rx s.msg)
      → (e : Run (List ℕ)) (r : Run Session) → Same e r → on_run recorded u z m k e ≡ on_run core u z m k' r
  entry-same u z m k k' on e (over_with x rx msg a w) (p, (i, b)) = ap (on_run recorded u z m k) p ∙ rw (holds_same (st x rx msg) i, tail-same (st x rx msg) i, on w (st x rx msg) i b)
  entry-same u z m k k' on e unended p = ap (on_run recorded u z m k) p

  module _ (hours : Option Hours) where
    abbrev shut : {X : Type 0} → X → (rx msg : List ℕ) → Step X
    shut x rx msg = record { x = x; rx = rx; msg = msg; show = told (refused closed_hours) }

    -- turned away or not, by the same test
    gate_same : (b : Bool) (q : Call) (w : World) (s : St) → Inv s → Bytes w.left → (lent : List ℕ) → U64 (length lent) → (o : Out) → Fine s.ses o
        → Same (run recorded h lent (enough q w) (new_call w) (pick b (shut (stored s.ses) s.rx s.msg) (image o)))
        (run core h lent (enough q w) (new_call w) (pick b (shut s.ses s.rx s.msg) (C.step_of o)))
    unfolding run
    gate_same true q w s x b lent l o f =
        let n : ℕ = length w.left + (5 * length (messages q) + 4) in
        let e : enough q w ≡ suc n = omega arith in
        rw e (refl, (x, b))
    gate_same false q w s x b lent l o f = run-same h z lends lent l (enough q w) s.ses (new_call w) o f b

    pub log-same : (ms : List Made) (w : World) (s : St) → Inv s → Bytes w.left → AllWide ms
        → log_at recorded hours h ms w (stored s.ses) s.rx s.msg ≡ log_at core hours h ms w s.ses s.rx s.msg
    unfolding log_at
    log-same [] w s x b v = refl
    log-same (m ∷ ms) w s x b v =
        let q = m.call in
        let sp : Spare = h.spare w in
        let l : U64 (length (lent_of sp q)) = lent-wide sp (lends w).1 q v.0.0 in
        let f : Fine s.ses (begin s q (lent_of sp q)) = begin-fine s x q v.0.0 (lent_of sp q) l in
        rw (holds_same s x, tail-same s x)
        (entry-same (held s) s.ses.buf.tail s.msg _ _ (λ w' s' x' b'. log-same ms w' s' x' b' v.1)
        (run_at recorded hours h m w (stored s.ses) s.rx s.msg) (run_at core hours h m w s.ses s.rx s.msg)
        (subst (λ (t : Step (List ℕ)). Same (run recorded h (lent_of sp q) (enough q w) (new_call w) (pick (outside hours m && not (refuses t.show)) (shut (stored s.ses) s.rx s.msg) t))
        (run_at core hours h m w s.ses s.rx s.msg)) (sym (start-image s x sp (lends w).0 m f))
        (gate_same (outside hours m && not (refuses (C.step_of (begin s q (lent_of sp q))).show)) q w s x b (lent_of sp q) l (begin s q (lent_of sp q)) f)))
