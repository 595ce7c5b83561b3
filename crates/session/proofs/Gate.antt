-- The session's own steps behind the gate: each call of the log is the plain reader's. Assumes nothing.
use Prim.Native.Nat.{ℕ, zero, suc, ◌+◌, ◌*◌}
use mathlib.Core.Bool.{Bool, true, false, ◌&&◌, not, true≢false}
use mathlib.Core.List.{List, [], ◌∷◌, ◌++◌}
use mathlib.Core.Option.{Option, none, some}
use mathlib.Core.Path.{◌≡◌, refl, sym, ap, ◌∙◌, subst}
use native.Mathlib.Omega.{arith}
use lib.Dec.{eqb, ltb, leb}
use lib.ListN.{length, get_or}
use Rattle.protocol.specs.Answers as A
use Rattle.protocol.specs.Answers.{Answer, End, number, callers}
use Rattle.protocol.specs.Bytes.{pick, has}
use Rattle.protocol.specs.Calls.{Call, call, next_entry, next_chunk, messages, Made}
use Rattle.protocol.specs.Hours.{Hours}
use Rattle.protocol.specs.Flags.{bit, dry_run, refused_flags}
use Rattle.protocol.specs.Ids.{Dialect}
use Rattle.protocol.specs.Messages.{PathOnly, stat, sta2, list, lis2, recv, ask, rcv2, send, snd2, chunk, done, quit}
use Rattle.protocol.specs.Reader.{Config, Report, Reply, config_after}
use Rattle.protocol.specs.Refusal.{Setting, or_else, refuse, is_none, path_refusal, flag_refusal, feature_refusal, transfer_refusal, ask_feature, request_refusal, call_refusal, refusal, is_push, closed_hours, outside, turned}
use Rattle.session.specs.declared.Pending.TheVariants.{Idle, Writing}
use Rattle.session.specs.declared.Session.{Session}
use Rattle.protocol.specs.Bytes.{put}
use Rattle.protocol.specs.Messages.{bytes_of_request}
use Rattle.recv_buf.specs.RecvBuf.{compacted}
use Rattle.recv_buf.specs.declared.RecvBuf.{RecvBuf}
use Rattle.request.specs.Meaning.{meant}
use Rattle.request.specs.declared.Request.{Request}
use Rattle.request.specs.declared.Request.TheVariants as Q
use Rattle.request_piece.specs.Pieces.{piece_of}
use Rattle.request_piece.specs.declared.Piece.{Piece}
use Rattle.request_piece.specs.declared.Piece.TheVariants as P
use Rattle.session.specs.declared.Reply.TheVariants as R
use Rattle.session.specs.Calls.{setting_of}
use Rattle.session.specs.Core.{core, begin, step_of, show_of}
use Rattle.session.specs.Host.{told, Spare, Step, Host, World, Entry, Run, over_with, unended, lent_of, enough, new_call, run, run_call, on_run}
use Rattle.session.specs.Sends.{piece_reply, id_for, send_piece, carried, message_out, sent}
use Rattle.session.specs.State.{dialect_in, St, st, half, beside, stepped, at, begun, Good}
use Rattle.session.specs.Faithful.{Faithful}
use Rattle.session.proofs.Gated.{run_at, log_at}
use Rattle.session.proofs.Logs.{turned-push}
use Rattle.session.proofs.Calls.{call_ok}
use Rattle.session.proofs.Refusals.{Begins, begins}
use Rattle.session.proofs.Run.{config_of, Comes}
use Rattle.session.proofs.Turns.{held}
use Rattle.session.specs.Gate.{refuses, gated_start}

-- ---- the plain reader refuses by refusals

abbrev Refuses : Option Answer → Type 0
Refuses none = Unit {0}
Refuses (some a) = has (number a) callers ≡ true

or_refuses : (a b : Option Answer) → Refuses a → Refuses b → Refuses (or_else a b)
or_refuses none b h k = k
or_refuses (some x) b h k = h

by_number : (b : Bool) (n : ℕ) → has n callers ≡ true → Refuses (refuse b (A.refused n))
by_number true n h = h
by_number false n h = tt

feature_refuses : (fs : List Bool) (b : Bool) (n : ℕ) → Refuses (feature_refusal fs b n)
unfolding feature_refusal
feature_refuses fs b zero = tt
feature_refuses fs b (suc n) = go (b && not (get_or fs n false))
  where
    go : (x : Bool) → Refuses (refuse x (A.missing (suc n)))
    go true = refl
    go false = tt

path-refuses : (d : Dialect) (p : List ℕ) → Refuses (path_refusal d p)
unfolding path_refusal
path-refuses d p =
    let long = ltb d.longest (length p) in
    or_refuses (refuse (has 0 p) (A.refused 8)) (refuse long (A.refused 7)) (by_number (has 0 p) 8 refl) (by_number long 7 refl)

flags-refuses : (pull : Bool) (f : ℕ) → Refuses (flag_refusal pull f)
unfolding flag_refusal
flags-refuses pull f = by_number (refused_flags pull f) 9 refl

transfer_refuses : (fs : List Bool) (f : ℕ) → Refuses (transfer_refusal fs f)
unfolding transfer_refusal
transfer_refuses fs f =
    let a = feature_refusal fs true 3 in
    let b = feature_refusal fs (eqb (bit 0 f) 1) 4 in
    let c = feature_refusal fs (eqb (bit 1 f) 1) 5 in
    let d = feature_refusal fs (eqb (bit 2 f) 1) 6 in
    let e = feature_refusal fs (dry_run f) 7 in
    or_refuses a (or_else b (or_else c (or_else d e))) (feature_refuses fs true 3)
    (or_refuses b (or_else c (or_else d e)) (feature_refuses fs (eqb (bit 0 f) 1) 4)
    (or_refuses c (or_else d e) (feature_refuses fs (eqb (bit 1 f) 1) 5) (or_refuses d e (feature_refuses fs (eqb (bit 2 f) 1) 6) (feature_refuses fs (dry_run f) 7))))

ask-refuses : (fs : List Bool) (i : PathOnly) → Refuses (ask_feature fs i)
ask-refuses fs stat = tt
ask-refuses fs sta2 = feature_refuses fs true 1
ask-refuses fs list = tt
ask-refuses fs lis2 = feature_refuses fs true 2
ask-refuses fs recv = tt

v2_refuses : (g : Setting) (pull : Bool) (p : List ℕ) (f : ℕ) → Refuses (or_else (path_refusal g.dialect p) (or_else (flag_refusal pull f) (transfer_refusal g.features f)))
v2_refuses g pull p f =
    or_refuses (path_refusal g.dialect p) (or_else (flag_refusal pull f) (transfer_refusal g.features f)) (path-refuses g.dialect p)
    (or_refuses (flag_refusal pull f) (transfer_refusal g.features f) (flags-refuses pull f) (transfer_refuses g.features f))

call-refuses : (g : Setting) (q : Call) → Refuses (call_refusal g q)
unfolding request_refusal
call-refuses g (call (ask i p)) = or_refuses (path_refusal g.dialect p) (ask_feature g.features i) (path-refuses g.dialect p) (ask-refuses g.features i)
call-refuses g (call (rcv2 p f)) = v2_refuses g true p f
call-refuses g (call (send p m)) = path-refuses g.dialect p
call-refuses g (call (snd2 p m f)) = v2_refuses g false p f
call-refuses g (call (chunk x)) = tt
call-refuses g (call (done t)) = tt
call-refuses g (call quit) = tt
call-refuses g (next_entry v) = tt
call-refuses g next_chunk = tt

pub refusal-refuses : (g : Setting) (q : Call) → Refuses (refusal g q)
unfolding refusal
refusal-refuses g q = or_refuses (refuse g.ended (A.refused 6)) (call_refusal g q) (by_number g.ended 6 refl) (call-refuses g q)

-- ---- what a push start that is not refused shows is a write

piece-not : (from n : ℕ) (p : Piece) (rx msg : List ℕ) → refuses (show_of rx msg (piece_reply from n p)) ≡ false
piece-not from n (P.Header id arg) rx msg = refl
piece-not from n P.Lent rx msg = refl
piece-not from n P.Comma rx msg = refl
piece-not from n (P.Digits m) rx msg = refl
piece-not from n (P.Inner id) rx msg = refl
piece-not from n (P.Word x) rx msg = refl
piece-not from n P.End rx msg = refl

module _ (s : Session) (rx msg : List ℕ) (q : Request) (from : ℕ) (part : List ℕ) where
  abbrev b : List ℕ
  b = (compacted rx s.buf).0

  abbrev c : RecvBuf
  c = (compacted rx s.buf).1

  abbrev m : List ℕ
  m = bytes_of_request (dialect_in s) (meant q part)

  message-not : refuses (step_of (beside (message_out s rx q from part) msg)).show ≡ false
  unfolding message_out
  message-not = go (leb (c.tail + length m) (length b))
    where
      go : (x : Bool) → refuses (step_of (beside (pick x (half (stepped (at s c (Writing q from 0)) (R.WriteRx c.tail (length m))) (put b c.tail m)) (half (send_piece (at s c Idle) q from (length part) 0) b)) msg)).show ≡ false
      go true = refl
      go false = piece-not from (length part) (piece_of (id_for (at s c Idle) q) q (length part) 0) b msg

writes-not : (s : St) (q : Call) (z : Spare) → is_push q ≡ true → Begins z s q none → refuses (step_of (begin s q (lent_of z q))).show ≡ false
unfolding sent
writes-not s (call (send p m)) z e b = rw b.1 (message-not (begun s.ses (length p)) s.rx s.msg (Q.Send (record { 0 = m })) 0 (carried (Q.Send (record { 0 = m })) 0 p))
writes-not s (call (snd2 p m f)) z e b =
    rw b.1 (message-not (begun s.ses (length p)) s.rx s.msg (Q.Snd2 (record { 0 = m }) (record { 0 = f })) 0 (carried (Q.Snd2 (record { 0 = m }) (record { 0 = f })) 0 p))
writes-not s (call (ask i p)) z e b = absurd (true≢false (sym e))
writes-not s (call (rcv2 p f)) z e b = absurd (true≢false (sym e))
writes-not s (call (chunk x)) z e b = absurd (true≢false (sym e))
writes-not s (call (done t)) z e b = absurd (true≢false (sym e))
writes-not s (call quit) z e b = absurd (true≢false (sym e))
writes-not s (next_entry v) z e b = absurd (true≢false (sym e))
writes-not s next_chunk z e b = absurd (true≢false (sym e))

-- ---- the gate

and-false : (x : Bool) → (x && false) ≡ false
and-false true = refl
and-false false = refl

-- a push start leaves the session as open as it was
push_config : (g : Config) (q : Call) → is_push q ≡ true → config_after g q ≡ g
push_config g (call (send p m)) e = refl
push_config g (call (snd2 p m f)) e = refl
push_config g (call (ask i p)) e = absurd (true≢false (sym e))
push_config g (call (rcv2 p f)) e = absurd (true≢false (sym e))
push_config g (call (chunk x)) e = absurd (true≢false (sym e))
push_config g (call (done t)) e = absurd (true≢false (sym e))
push_config g (call quit) e = absurd (true≢false (sym e))
push_config g (next_entry v) e = absurd (true≢false (sym e))
push_config g next_chunk e = absurd (true≢false (sym e))

module _ (hours : Option Hours) (h : Host) where
  module _ (m : Made) (s : St) (w : World) where
    abbrev q : Call
    q = m.call

    abbrev first : Step Session
    first = core.start s.ses s.rx s.msg m (h.spare w)

    abbrev shut : Step Session
    shut = record { x = s.ses; rx = s.rx; msg = s.msg; show = told (A.refused closed_hours) }

    abbrev made : Step Session
    made = gated_start core hours s.ses s.rx s.msg m (h.spare w)

    module _ (good : Good s) (i : s.ses.pending ≡ Idle) where
      begun-as : (o : Option Answer) → refusal (setting_of s.ses) q ≡ o → Begins (h.spare w) s q o
      begun-as o r = subst (Begins (h.spare w) s q) r (begins (h.spare w) s q good i)

      -- what is refused inside, and what is not outside the hours, goes in
      goes_in : turned hours (setting_of s.ses) m ≡ false → made ≡ first
      goes_in t = go (refusal (setting_of s.ses) q) (outside hours m) refl refl
        where
          go : (o : Option Answer) (x : Bool) → refusal (setting_of s.ses) q ≡ o → outside hours m ≡ x → made ≡ first
          go (some a) x r e =
              let told-a : refuses first.show ≡ true = ap (λ (y : Step Session). refuses y.show) (begun-as (some a) r).0 ∙ subst Refuses r (refusal-refuses (setting_of s.ses) q) in
              ap (λ (y : Bool). pick (outside hours m && not y) shut first) told-a ∙ ap (λ (y : Bool). pick y shut first) (and-false (outside hours m))
          go none false r e = ap (λ (y : Bool). pick (y && not (refuses first.show)) shut first) e
          go none true r e = absurd (true≢false (sym (ap (λ (y : Option Answer). outside hours m && is_none y) r ∙ ap (λ (y : Bool). y && true) e) ∙ t))

      -- any other push start is turned away
      stays_out : turned hours (setting_of s.ses) m ≡ true → made ≡ shut
      stays_out t = go (refusal (setting_of s.ses) q) (outside hours m) refl refl
        where
          go : (o : Option Answer) (x : Bool) → refusal (setting_of s.ses) q ≡ o → outside hours m ≡ x → made ≡ shut
          go (some a) x r e = absurd (true≢false (sym t ∙ ap (λ (y : Option Answer). outside hours m && is_none y) r ∙ and-false (outside hours m)))
          go none false r e = absurd (true≢false (sym t ∙ ap (λ (y : Option Answer). outside hours m && is_none y) r ∙ ap (λ (y : Bool). y && true) e))
          go none true r e =
              let open-first = writes-not s q (h.spare w) (turned-push hours (setting_of s.ses) m t) (begun-as none r) in
              ap (λ (y : Bool). pick (outside hours m && not y) shut first) open-first ∙ ap (λ (y : Bool). pick (y && true) shut first) e

      turned-run : turned hours (setting_of s.ses) m ≡ true
          → run_at core hours h m w s.ses s.rx s.msg ≡ over_with s.ses s.rx s.msg (A.refused closed_hours) (new_call w)
      unfolding run
      turned-run t =
          let n : ℕ = length w.left + (5 * length (messages q) + 4) in
          let e : enough q w ≡ suc n = omega arith in
          rw (stays_out t, e)

  -- ---- every list of calls

  module _ (g : Config) (m : Made) (ms : List Made) (w : World) (s : St) where
    abbrev v : List ℕ
    v = held s ++ w.left

    abbrev log : Run Session → List Entry
    log r = on_run core (held s) s.ses.buf.tail s.msg (λ w' x' rx' msg'. log_at core hours h ms w' x' rx' msg') r

    passed : (r : Run Session) → Comes g h.end m.call v (length (held s)) s.ses.buf.tail s.msg r
        → ((w' : World) (t : St) → Good t → t.ses.pending ≡ Idle → config_of t.ses g.close ≡ config_after g m.call
        → Faithful hours (config_after g m.call) h.end ms (held t ++ w'.left) (log_at core hours h ms w' t.ses t.rx t.msg))
        → turned hours g.setting m ≡ false → Faithful hours g h.end (m ∷ ms) v (log r)
    passed (over_with x rx msg a w') k rest b =
        rw b (
          record {
            answer = sym (ap (λ (y : Reply). y.answer) k.same);
            unread = sym (ap (λ (y : Reply). y.unread) k.same);
            asks = k.heeds.asks;
            settled = k.settled;
            pieces = k.heeds.pieces;
            composed = k.heeds.composed;
            closes = k.heeds.closes;
            windows = k.heeds.windows;
            ends = k.ends;
            kept = k.kept;
          },
          rest w' (st x rx msg) k.good k.still k.config,
        )
    passed unended k rest b = absurd k

    by_turn : Good s → s.ses.pending ≡ Idle → config_of s.ses h.close ≡ g → (b : Bool) → turned hours (setting_of s.ses) m ≡ b
        → ((w' : World) → Faithful hours g h.end ms (held s ++ w'.left) (log_at core hours h ms w' s.ses s.rx s.msg))
        → ((w' : World) (t : St) → Good t → t.ses.pending ≡ Idle → config_of t.ses g.close ≡ config_after g m.call
        → Faithful hours (config_after g m.call) h.end ms (held t ++ w'.left) (log_at core hours h ms w' t.ses t.rx t.msg))
        → Faithful hours g h.end (m ∷ ms) v (log (run_at core hours h m w s.ses s.rx s.msg))
    by_turn good i c true e same rest =
        let here : turned hours g.setting m ≡ true = ap (λ (y : Setting). turned hours y m) (sym (ap (λ (y : Config). y.setting) c)) ∙ e in
        rw (turned-run m s w good i e, here) (
          record { answer = refl; asks = refl; pieces = refl; broken = refl; closes = refl; composed = refl; stopped = refl; unread = refl; ends = refl; kept = refl },
          subst (λ (y : Config). Faithful hours y h.end ms v (log_at core hours h ms (new_call w) s.ses s.rx s.msg)) (sym (push_config g m.call (turned-push hours g.setting m here))) (same (new_call w)),
        )
    by_turn good i c false e same rest =
        let here : turned hours g.setting m ≡ false = ap (λ (y : Setting). turned hours y m) (sym (ap (λ (y : Config). y.setting) c)) ∙ e in
        let in_run : run_at core hours h m w s.ses s.rx s.msg ≡ run_call core h m w s.ses s.rx s.msg =
        ap (run core h (lent_of (h.spare w) m.call) (enough m.call w) (new_call w)) (goes_in m s w good i e) in
        rw in_run
        (passed (run_call core h m w s.ses s.rx s.msg)
        (subst (λ (y : Config). Comes y h.end m.call v (length (held s)) s.ses.buf.tail s.msg (run_call core h m w s.ses s.rx s.msg)) c (call_ok h w s m good i)) rest here)

  pub faithful : (g : Config) (ms : List Made) (w : World) (s : St) → Good s → s.ses.pending ≡ Idle → config_of s.ses h.close ≡ g
      → Faithful hours g h.end ms (held s ++ w.left) (log_at core hours h ms w s.ses s.rx s.msg)
  unfolding log_at
  faithful g [] w s good i c = tt
  faithful g (m ∷ ms) w s good i c =
      by_turn g m ms w s good i c (turned hours (setting_of s.ses) m) refl
      (λ w'. faithful g ms w' s good i c)
      (λ w' t good' i' c'. faithful (config_after g m.call) ms w' t good' i' (ap (λ (z : Report). config_of t.ses z) (ap (λ (y : Config). y.close) c) ∙ c'))
