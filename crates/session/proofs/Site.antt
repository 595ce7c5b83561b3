-- A call on its way, before it reads: what it is to come to, and the states it goes through.
-- Assumes nothing.
use Prim.Native.Nat.{ℕ, ◌+◌, ◌-◌}
use mathlib.Core.Bool.{false}
use mathlib.Core.List.{List, [], ◌∷◌, ◌++◌}
use mathlib.Core.Option.{Option, none}
use mathlib.Core.Path.{◌≡◌, refl, sym, ap, ◌∙◌, subst}
use lib.ListN.{length}
use Rattle.protocol.specs.Answers.{Answer, End}
use Rattle.protocol.specs.Bytes.{pick}
use Rattle.protocol.specs.Calls.{Call, messages}
use Rattle.protocol.specs.Refusal.{refusal}
use Rattle.protocol.specs.Reader.{Config, Report, unless_refused, on_report, program}
use Rattle.session.specs.declared.Pending.{Pending}
use Rattle.session.specs.declared.Session.{Session}
use Rattle.session.specs.Calls.{setting_of}
use Rattle.session.specs.Core.{step_of, core}
use Rattle.session.specs.Faithful.{pieces_of, unless_pieces, call_pieces, Composed, compacts, unless_moved, rests_at}
use Rattle.session.specs.Host.{Host, Broken, World, lent_of, Run, run}
use Rattle.session.specs.State.{dialect_in, St, st, Out, at, begun, Good}
use Rattle.session.specs.Sends.{tidied}
use Rattle.session.proofs.Buf.{good-pending, good-tidied, held-tidied}
use Rattle.session.proofs.Run.{config_of, Comes}
use Rattle.session.proofs.Tail.{tidied-tail}
use Rattle.session.proofs.Turns.{held, Frame, frame_of}

-- the piece b came to the fault e, behind the pieces xs
abbrev pub once : List (List ℕ) → List ℕ → End → List Broken
once xs b e = record { piece = b; fault = e; before = xs } ∷ []

-- a call of a session, with its buffers, against a host in some world
pub record Site : Type 0 where
  pub host : Host
  pub world : World
  pub state : St
  pub call : Call

module _ (c : Site) where
  abbrev pub lent : List ℕ
  lent = lent_of (c.host.spare c.world) c.call

  -- the plain reader for the session, and the pieces that it has for the call
  abbrev pub reader : Config
  reader = config_of c.state.ses c.host.close

  abbrev pub free : ℕ
  free = c.state.ses.capacity - length (held c.state)

  abbrev pub all : List (List ℕ)
  all = call_pieces reader c.call (length (held c.state))

  abbrev pub unread : List ℕ
  unread = held c.state ++ c.world.left

  -- tail once the call has written, if r is reported of that
  abbrev pub rests : Report → ℕ
  rests r = rests_at reader r c.call (length (held c.state)) c.state.ses.buf.tail

  abbrev pub Ok : Run Session → Type 0
  Ok o = Comes reader c.host.end c.call unread (length (held c.state)) c.state.ses.buf.tail c.state.msg o

  -- the world after i writes in all, where xs of the call's pieces were accepted, bs came to a fault, and pieces were composed at the places is
  abbrev pub wrote : ℕ → List (List ℕ) → List Broken → List ℕ → World
  wrote i xs bs is = record { left = c.world.left; calls = c.world.calls + 1; reads = c.world.reads; writes = i; asks = []; pieces = xs; broken = bs; composed = is; closes = []; stopped = none }

  -- from there, with f steps left, the call comes to what the plain reader does, if the session's last step was o
  abbrev pub Goes : ℕ → ℕ → List (List ℕ) → List Broken → Out → Type 0
  Goes f i xs bs o = (is : List ℕ) → Composed c.call (length (held c.state)) is → Ok (run core c.host lent f (wrote i xs bs is) (step_of o))

  -- the steps that what follows a write may take: a read for each byte to come, the end error, the answer; or the close and the answer
  abbrev pub later : ℕ
  later = length c.world.left + 2

  -- ---- the states

  abbrev pub started : St
  started = st (begun c.state.ses (length lent)) c.state.rx c.state.msg

  -- the call has begun, and nothing has been read; tail is at z
  pub record Mid (z : ℕ) (t : St) : Type 0 where
    pub good : Good t
    pub frame : frame_of t.ses ≡ frame_of started.ses
    pub same : held t ≡ held c.state
    pub msg : t.msg ≡ c.state.msg
    pub place : t.ses.buf.tail ≡ z

  pub mid_started : Good c.state → Mid c.state.ses.buf.tail started
  mid_started g =
      record {
        good = record { order = g.order; inside = g.inside; rx = g.rx; least = g.least; aside = g.aside; msg = g.msg };
        frame = refl;
        same = refl;
        msg = refl;
        place = refl;
      }

  -- tail at z, under another name
  pub mid_at : {z y : ℕ} (t : St) → Mid z t → y ≡ z → Mid y t
  mid_at t x e = subst (λ (y : ℕ). Mid y t) (sym e) x

  pub mid_pending : {z : ℕ} (t : St) (p : Pending) → Mid z t → Mid z (st (at t.ses t.ses.buf p) t.rx t.msg)
  mid_pending t p x = record { good = good-pending t x.good p; frame = x.frame; same = x.same; msg = x.msg; place = x.place }

  pub mid_tidied : {z : ℕ} (t : St) → Mid z t → Mid (length (held c.state)) (tidied t)
  mid_tidied t x =
      record {
        good = good-tidied t x.good;
        frame = x.frame;
        same = held-tidied t x.good ∙ x.same;
        msg = x.msg;
        place = tidied-tail t x.good ∙ ap length x.same;
      }

  pub mid_runs : {z : ℕ} (t : St) → Mid z t → c.state.ses.ended ≡ false → t.ses.ended ≡ false
  mid_runs t x e = ap (λ (ψ : Frame). ψ.ended) x.frame ∙ e

  pub mid_lends : {z : ℕ} (t : St) → Mid z t → t.ses.lent ≡ length lent
  mid_lends t x = ap (λ (ψ : Frame). ψ.lent) x.frame

  -- ---- a call that is let in

  abbrev pub LetIn : Type 0
  LetIn = refusal (setting_of c.state.ses) c.call ≡ none

  pub program-is : LetIn → (r : Report) → program reader r c.call ≡ on_report reader r c.call
  program-is lets r = ap (λ (o : Option Answer). unless_refused o (on_report reader r c.call)) lets

  pub rests_is : LetIn → (r : Report) → rests r ≡ pick (compacts r c.call) (length (held c.state)) c.state.ses.buf.tail
  rests_is lets r =
      ap (λ (o : Option Answer). unless_moved o (compacts r c.call) (length (held c.state)) c.state.ses.buf.tail) lets

  pub all-is : LetIn → all ≡ pieces_of (dialect_in c.state.ses) free (messages c.call)
  all-is lets = ap (λ (o : Option Answer). unless_pieces o (pieces_of (dialect_in c.state.ses) free (messages c.call))) lets
