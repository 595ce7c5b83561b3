-- Where every list of calls is the plain reader's, the cursor of the session in its record lies in the receive buffer: else a `next_chunk` would be answered 3,
-- which the plain reader never does, whatever the hours are.
-- Assumes nothing.
use Prim.Native.Nat.{ℕ, suc, ◌+◌, ◌≤◌}
use mathlib.Core.Bool.{Bool, true, false, true≢false, ◌&&◌, not}
use mathlib.Core.List.{List, [], ◌∷◌}
use mathlib.Core.Option.{Option, none, some, none-ne-some}
use mathlib.Core.Path.{◌≡◌, refl, sym, ap, ◌∙◌, subst}
use native.Mathlib.Omega.{arith}
use lib.Dec.{eqb, ltb}
use lib.ListN.{length}
use Rattle.protocol.specs.Answers.{Answer, End, number, refused}
use Rattle.protocol.specs.Bytes.{pick}
use Rattle.protocol.specs.Calls.{next_chunk, messages, Made, anytime}
use Rattle.protocol.specs.Hours.{Hours, lets}
use Rattle.protocol.specs.Reader.{Config, accepted, plain_call}
use Rattle.protocol.specs.Refusal.{or_else, refuse, refusal, closed_hours, turned}
use Rattle.protocol.proofs.Bodies.{pick-cases}
use Rattle.record.specs.Fields.{session_of, known}
use Rattle.record.specs.Record.{word_of, size, loaded}
use Rattle.session.specs.Calls.{misfit, call_refusal, refused_or, chunk_call}
use Rattle.session.specs.Faithful.{reply_of, AsMade, Faithful}
use Rattle.session.specs.Gate.{refuses, Timed, timed, keeping, gate}
use Rattle.session.specs.Host.{told, Step, Host, Broken, Stop, World, new_call, lent_of, Run, over_with, run, enough, run_call, Entry, outcome_of, on_run, log_of}
use Rattle.session.specs.State.{St, st, Out}
use Rattle.session.specs.declared.Session.{Session}
use Rattle.session.proofs.Logs.{turned-push}
use Rattle.session.proofs.Misfit.{misfit-fits}
use Rattle.session_layer.specs.Layer.{was_refused}
use Rattle.session_layer.proofs.Refused.{refused-by}
use Rattle.session_layer.proofs.Runs.{Always}
use Rattle.boundary.specs.Boundary.{first_number, flag_number, recorded}
use Rattle.boundary.specs.Crossing.{Crossed, back, on_loaded, cross_start}
use Rattle.boundary.specs.Heard.{answer_heard, heard}
use Rattle.boundary.specs.Told.{reply_number, out_size}
use Rattle.boundary_misuse.specs.Claim.{heard_of}

-- "Held bytes lie from head to tail"
pub record CursorIn (x rx : List ℕ) : Type 0 where
  pub order : word_of x 2 ≤ word_of x 3
  pub inside : word_of x 3 ≤ length rx

-- the number of what is refused
abbrev which : Option Answer → ℕ
which none = 0
which (some a) = number a

-- a start that is not answered 3 finds a session that fits
module _ (x rx msg lent out : List ℕ) (a b : ℕ) where
  abbrev Ok : Crossed → Type 0
  Ok c = (heard_of c ≡ told (refused 3) → ⊥) → CursorIn x rx

  abbrev S : St
  S = st (session_of (word_of x)) rx msg

  fits-of : misfit S.ses (length rx) (length msg) ≡ false → CursorIn x rx
  unfolding session_of
  fits-of e = let f = misfit-fits S.ses (length rx) (length msg) e in record { order = f.order; inside = omega (arith, f.inside, f.rx) }

  fitted : (b : Bool) (k : ℕ) (o : Out) → misfit S.ses (length rx) (length msg) ≡ b → Ok (back x out (refused_or (pick b 3 k) S o))
  unfolding heard answer_heard reply_number
  fitted true k o e n = absurd (n refl)
  fitted false k o e n = fits-of e

  start_fits : Ok (cross_start x rx msg lent 14 a b out)
  unfolding cross_start loaded chunk_call call_refusal heard answer_heard
  start_fits =
      pick-cases Ok (ltb (length out) out_size) (λ _ n. absurd (n refl))
      (λ _. pick-cases (λ (o : Option Session). Ok (on_loaded x rx msg out (λ s. back x out (chunk_call s (length lent))) o)) (eqb (length x) size && known (word_of x))
      (λ _. fitted (misfit S.ses (length rx) (length msg)) _ _ refl) (λ _ n. absurd (n refl)))

-- ---- the plain reader never answers 3

three-not : (g : Config) (v : List ℕ) (e : End) → refused 3 ≡ (plain_call g e accepted next_chunk v).answer → ⊥
unfolding refusal
three-not g v e z = go g.setting.ended (refused-by g e accepted next_chunk v (ap was_refused (sym z)) ∙ ap some (sym z))
  where
    go : (b : Bool) → or_else (refuse b (refused 6)) none ≡ some (refused 3) → ⊥
    go true f = absurd (omega (arith, ap which f))
    go false f = absurd (none-ne-some _ f)

-- no hours turn a `next_chunk` away
module _ (h : Host) (t : Option Hours) (g : Config) (v : List ℕ) (w : World) (k : Timed (List ℕ)) (rx msg : List ℕ) (always : Always (gate recorded) h t g v w k rx msg) where
  abbrev m : Made
  m = anytime next_chunk

  abbrev s : Step (List ℕ)
  s = recorded.start k.x rx msg m (h.spare w)

  goes_in : (gate recorded).start k rx msg m (h.spare w) ≡ keeping k.hours s
  goes_in = go (lets k.hours 0)
    where
      go : (b : Bool) → keeping k.hours (pick ((not b && false) && not (refuses s.show)) (record { x = k.x; rx = rx; msg = msg; show = told (refused closed_hours) }) s) ≡ keeping k.hours s
      go true = refl
      go false = refl

  answered : (b : Bool) (x : Entry) → turned t g.setting m ≡ b → AsMade b g h.end next_chunk v x → x.stopped ≡ none → x.broken ≡ [] → x.answer ≡ (plain_call g h.end accepted next_chunk v).answer
  answered true x e f y z = absurd (true≢false (sym (turned-push t g.setting m e)))
  answered false x e f y z =
      f.answer ∙ ap (λ (bs : List Broken). (reply_of x.stopped g h.end (outcome_of bs) next_chunk v).answer) z ∙ ap (λ (st : Option Stop). (reply_of st g h.end accepted next_chunk v).answer) y

  not_three : s.show ≡ told (refused 3) → ⊥
  unfolding log_of run messages
  not_three z =
      let n : ℕ = length w.left + 4 in
      let e : enough next_chunk w ≡ suc n = omega arith in
      let r : run_call (gate recorded) h m w k rx msg ≡ over_with (timed k.hours s.x) s.rx s.msg (refused 3) (new_call w) = rw (goes_in, e, z) in
      let f = (subst (λ (o : Run (Timed (List ℕ))). Faithful t g h.end (m ∷ []) v (on_run (gate recorded) ((gate recorded).holds k rx) ((gate recorded).tail k) msg (λ w' x' rx' msg'. log_of (gate recorded) h [] w' x' rx' msg') o)) r
      (always (m ∷ []) ((tt, omega arith), tt))).0 in
      three-not g v h.end (answered (turned t g.setting m) _ refl f refl refl)

  pub always_in : CursorIn k.x rx
  always_in = start_fits k.x rx msg (lent_of (h.spare w) next_chunk) (h.spare w).out (first_number (h.spare w) next_chunk) (flag_number (h.spare w) next_chunk) not_three
