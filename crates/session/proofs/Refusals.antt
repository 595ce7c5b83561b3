-- The refusals 6 to 10: the session answers what the plain reader answers, writes and reads nothing and stays as it was.
-- Assumes nothing.
use Prim.Native.Nat.{ℕ, zero, suc, ◌+◌, ◌*◌}
use mathlib.Core.Bool.{Bool, true, false, ◌||◌, ◌&&◌, not}
use mathlib.Core.List.{List, []}
use mathlib.Core.Option.{Option, none, some}
use mathlib.Core.Path.{◌≡◌, refl, ap, ◌∙◌, subst}
use native.Mathlib.Omega.{arith}
use lib.Dec.{eqb, ltb}
use lib.ListN.{length, get_or}
use Rattle.protocol.specs.Answers as P
use Rattle.protocol.specs.Bytes.{pick, has}
use Rattle.protocol.specs.Refusal as C
use Rattle.protocol.specs.Calls.{Call, call, next_entry, next_chunk, messages, Made}
use Rattle.protocol.specs.Refusal.{Setting, or_else, refuse, path_refusal, flag_refusal, feature_refusal, transfer_refusal, ask_feature, request_refusal, refusal}
use Rattle.protocol.specs.Flags.{bit, dry_run, refused_flags}
use Rattle.protocol.specs.Ids.{Dialect}
use Rattle.protocol.specs.Messages.{PathOnly, stat, sta2, list, lis2, recv, Request, ask, rcv2, send, snd2, chunk, done, quit}
use Rattle.protocol.specs.Reader.{is_quit}
use Rattle.request.specs.Meaning.{meant}
use Rattle.session.specs.declared.Pending.TheVariants.{Idle}
use Rattle.session.specs.declared.Phase.TheVariants.{Header}
use Rattle.session.specs.declared.Want.TheVariants as W
use Rattle.session.specs.Calls.{call_refusal, refused_or, refusal_of, setting_of, answer_of, or_refuse, start_call, entry_call, chunk_call}
use Rattle.session.specs.Core.{request_of, version_of, step_of, begin, core}
use Rattle.session.specs.Faithful.{closes_for}
use Rattle.session.specs.Host.{told, Spare, Host, World, new_call, lent_of, over_with, run, enough, run_call}
use Rattle.session.specs.Shown.{paper}
use Rattle.session.specs.State.{St, st, Out, beside, begun, Good}
use Rattle.session.specs.Steps.{read_on}
use Rattle.session.specs.Sends.{tidied, carried, sent}
use Rattle.session.proofs.Misfit.{fits-misfit}

-- ---- what the plain reader refuses by

data Plain : Option P.Answer → Type 0 where
  passes : Plain none
  by_number : (n : ℕ) → Plain (some (P.refused n))
  by_feature : (n : ℕ) → Plain (some (P.missing n))

plain-else : {o p : Option P.Answer} → Plain o → Plain p → Plain (or_else o p)
plain-else passes y = y
plain-else (by_number n) y = by_number n
plain-else (by_feature n) y = by_feature n

plain-refuse : {a : P.Answer} (b : Bool) → Plain (some a) → Plain (refuse b a)
plain-refuse true x = x
plain-refuse false x = passes

plain-feature : (l : List Bool) (b : Bool) (n : ℕ) → Plain (feature_refusal l b n)
unfolding feature_refusal
plain-feature l b zero = passes
plain-feature l b (suc n) = plain-refuse (b && not (get_or l n false)) (by_feature (suc n))

plain-path : (d : Dialect) (p : List ℕ) → Plain (path_refusal d p)
unfolding path_refusal
plain-path d p = plain-else (plain-refuse (has 0 p) (by_number 8)) (plain-refuse (ltb d.longest (length p)) (by_number 7))

plain-transfer : (pull : Bool) (l : List Bool) (f : ℕ) → Plain (or_else (flag_refusal pull f) (transfer_refusal l f))
unfolding flag_refusal transfer_refusal
plain-transfer pull l f =
    plain-else (plain-refuse (refused_flags pull f) (by_number 9))
    (plain-else (plain-feature l true 3)
    (plain-else (plain-feature l (eqb (bit 0 f) 1) 4)
    (plain-else (plain-feature l (eqb (bit 1 f) 1) 5)
    (plain-else (plain-feature l (eqb (bit 2 f) 1) 6) (plain-feature l (dry_run f) 7)))))

plain-ask : (l : List Bool) (i : PathOnly) → Plain (ask_feature l i)
plain-ask l stat = passes
plain-ask l sta2 = plain-feature l true 1
plain-ask l list = passes
plain-ask l lis2 = plain-feature l true 2
plain-ask l recv = passes

plain-request : (g : Setting) (r : Request) → Plain (request_refusal g r)
unfolding request_refusal
plain-request g (ask i p) = plain-else (plain-path g.dialect p) (plain-ask g.features i)
plain-request g (rcv2 p f) = plain-else (plain-path g.dialect p) (plain-transfer true g.features f)
plain-request g (send p m) = plain-path g.dialect p
plain-request g (snd2 p m f) = plain-else (plain-path g.dialect p) (plain-transfer false g.features f)
plain-request g (chunk x) = passes
plain-request g (done t) = passes
plain-request g quit = passes

plain-call : (g : Setting) (q : Call) → Plain (C.call_refusal g q)
plain-call g (call r) = plain-request g r
plain-call g (next_entry v) = passes
plain-call g next_chunk = passes

-- ... and the session answers the same
abbrev Shows : Option P.Answer → Type 0
Shows none = Unit {0}
Shows (some a) = (rx msg : List ℕ) → paper rx msg (answer_of a) ≡ a

shows : {o : Option P.Answer} → Plain o → Shows o
unfolding paper
shows passes = tt
shows (by_number n) = λ rx msg. refl
shows (by_feature n) = λ rx msg. refl

call-shows : (g : Setting) (q : Call) (a : P.Answer) → C.call_refusal g q ≡ some a → (rx msg : List ℕ) → paper rx msg (answer_of a) ≡ a
call-shows g q a e = subst Shows e (shows (plain-call g q))

-- a quit is refused only after another
refused-stays : (g : Setting) (q : Call) (a : P.Answer) → C.call_refusal g q ≡ some a → is_quit q ≡ false
unfolding request_refusal
refused-stays g (call (ask i p)) a e = refl
refused-stays g (call (rcv2 p f)) a e = refl
refused-stays g (call (send p m)) a e = refl
refused-stays g (call (snd2 p m f)) a e = refl
refused-stays g (call (chunk x)) a e = refl
refused-stays g (call (done t)) a e = refl
refused-stays g (call quit) a e = cc
refused-stays g (next_entry v) a e = refl
refused-stays g next_chunk a e = refl

-- ---- the session

-- the first step of a call that is let in
abbrev pub open_of : Call → (lent : List ℕ) → St → Out
open_of (call r) lent s = beside (sent (begun s.ses (length lent)) s.rx (request_of r) 0 (carried (request_of r) 0 lent)) s.msg
open_of (next_entry v) lent s = read_on (st (begun s.ses (length lent)) s.rx s.msg) (Header (W.Entry (version_of v))) false
open_of next_chunk lent s = read_on (tidied (st (begun s.ses (length lent)) s.rx s.msg)) (Header W.Chunk) false

-- whatever a call lends that takes neither path nor data
pub meant-request : (z : Spare) (r : Request) → meant (request_of r) (lent_of z (call r)) ≡ r
meant-request z (ask stat p) = refl
meant-request z (ask sta2 p) = refl
meant-request z (ask list p) = refl
meant-request z (ask lis2 p) = refl
meant-request z (ask recv p) = refl
meant-request z (rcv2 p f) = refl
meant-request z (send p m) = refl
meant-request z (snd2 p m f) = refl
meant-request z (chunk x) = refl
meant-request z (done t) = refl
meant-request z quit = refl

-- the refusals in their order, then that step
begin-open : (z : Spare) (s : St) (q : Call)
    → begin s q (lent_of z q) ≡ refused_or (refusal_of s) s (or_refuse (C.call_refusal (setting_of s.ses) q) s (open_of q (lent_of z q) s))
unfolding start_call entry_call chunk_call
begin-open z s (call r) =
    ap (λ (y : Request). refused_or (refusal_of s) s (or_refuse (request_refusal (setting_of s.ses) y) s (open_of (call r) (lent_of z (call r)) s)))
    (meant-request z r)
begin-open z s (next_entry v) = refl
begin-open z s next_chunk = refl

-- 3 and 4 do not befall a call of a session that fits and is idle
call-refusal : (s : St) → Good s → s.ses.pending ≡ Idle → refusal_of s ≡ pick s.ses.ended 6 0
unfolding call_refusal
call-refusal s good i = rw (fits-misfit s.ses (length s.rx) (length s.msg) good, i)

-- What a call begins with, by what the plain reader says: its first step, of a session that has not ended; or, refused with the answer
-- a, the session and both buffers as they were.
abbrev pub Begins : Spare → St → Call → Option P.Answer → Type 0
Begins z s q none = (s.ses.ended ≡ false) × (begin s q (lent_of z q) ≡ open_of q (lent_of z q) s)
Begins z s q (some a) =
    (step_of (begin s q (lent_of z q)) ≡ record { x = s.ses; rx = s.rx; msg = s.msg; show = told a })
    × (((is_quit q || s.ses.ended) ≡ s.ses.ended) × (closes_for (is_quit q) s.ses.ended [] ≡ []))

or-true : (b : Bool) → (b || true) ≡ true
or-true true = refl
or-true false = refl

closes-ended : (b : Bool) → closes_for b true [] ≡ []
closes-ended true = refl
closes-ended false = refl

pub begins : (z : Spare) (s : St) (q : Call) → Good s → s.ses.pending ≡ Idle → Begins z s q (refusal (setting_of s.ses) q)
unfolding refusal paper
begins z s q good i = go s.ses.ended (C.call_refusal (setting_of s.ses) q) refl refl
  where
    step : begin s q (lent_of z q) ≡ refused_or (pick s.ses.ended 6 0) s (or_refuse (C.call_refusal (setting_of s.ses) q) s (open_of q (lent_of z q) s))
    step = begin-open z s q ∙ ap (λ (k : ℕ). refused_or k s (or_refuse (C.call_refusal (setting_of s.ses) q) s (open_of q (lent_of z q) s))) (call-refusal s good i)

    go : (b : Bool) (o : Option P.Answer) → s.ses.ended ≡ b → C.call_refusal (setting_of s.ses) q ≡ o
        → Begins z s q (or_else (refuse b (P.refused 6)) o)
    go true o e r = (ap step_of step ∙ rw e, (rw e (or-true (is_quit q)), rw e (closes-ended (is_quit q))))
    go false none e r = (e, step ∙ rw (r, e))
    go false (some a) e r =
        let y : is_quit q ≡ false = refused-stays (setting_of s.ses) q a r in
        (ap step_of step ∙ rw (r, e, call-shows (setting_of s.ses) q a r s.rx s.msg), (rw y, rw y))

-- A refused call is over at once: the session and both buffers are as they were, and the host was asked nothing.
pub refused : (h : Host) (w : World) (s : St) (m : Made) (a : P.Answer) → Good s → s.ses.pending ≡ Idle → refusal (setting_of s.ses) m.call ≡ some a
    → run_call core h m w s.ses s.rx s.msg ≡ over_with s.ses s.rx s.msg a (new_call w)
unfolding run
refused h w s m a good i r =
    let q = m.call in
    let n : ℕ = length w.left + (5 * length (messages q) + 4) in
    let e : enough q w ≡ suc n = omega arith in
    rw ((subst (Begins (h.spare w) s q) r (begins (h.spare w) s q good i)).0, e)
