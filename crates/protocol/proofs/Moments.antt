-- The rows on hours, computed; and that every call meets its refusals in their order. Assumes nothing.
use Prim.Native.Nat.{ℕ}
use mathlib.Core.Bool.{Bool, true, false, ◌&&◌, not, and-false}
use mathlib.Core.List.{List, []}
use mathlib.Core.Option.{Option, none, some}
use mathlib.Core.Path.{◌≡◌, refl, ap, ◌∙◌}
use native.Mathlib.Omega.{arith}
use Rattle.protocol.specs.Answers.{Answer, End, refused}
use Rattle.protocol.specs.Bytes.{pick}
use Rattle.protocol.specs.Calls.{messages, joined_messages, Made}
use Rattle.protocol.specs.Fact.{Hold}
use Rattle.protocol.specs.Flags.{several, unknown, dry_run, refused_flags}
use Rattle.protocol.specs.Digits.{digits}
use Rattle.protocol.specs.Hours.{Hours, lets}
use Rattle.protocol.specs.Messages.{bytes_of_request, message_of}
use Rattle.protocol.specs.Moments.{moments, order, answered, wrote, MadeAt, or_reply, MeetsRefusals, Clock}
use Rattle.protocol.specs.Reader.{Config, Reply, accepted, plain, written, on_report, unless_refused, end_of, reply, unless_written, writes, plain_answers, plain_writes}
use Rattle.protocol.specs.Refusal.{path_refusal, flag_refusal, feature_refusal, transfer_refusal, request_refusal, Setting, or_else, refuse, is_none, refusal, outside, closed_hours, refusal_at}

pub moments-hold : Hold moments
moments-hold = refl

pub order-holds : Hold order
unfolding refused_flags several unknown dry_run refusal request_refusal path_refusal flag_refusal transfer_refusal feature_refusal
order-holds = refl

pub answered-hold : Hold answered
unfolding plain_answers plain written refused_flags several unknown dry_run refusal request_refusal path_refusal flag_refusal transfer_refusal feature_refusal
answered-hold = refl

pub wrote-hold : Hold wrote
unfolding digits plain_writes writes messages bytes_of_request message_of refusal request_refusal path_refusal
wrote-hold = refl

-- ---- every call

pub or_none : (o : Option Answer) → or_else o none ≡ o
or_none none = refl
or_none (some a) = refl

-- where the hours do not turn it away
inside : (h : Option Hours) (g : Setting) (m : Made) → outside h m ≡ false → refusal_at h g m ≡ refusal g m.call
inside h g m e = ap (λ (b : Bool). or_else (refusal g m.call) (refuse b (refused closed_hours))) e ∙ or_none (refusal g m.call)

pub made_at : MadeAt
made_at =
    record {
      send_closed = λ h g p m t c r. rw (c, r) refl;
      send2_closed = λ h g p m f t c r. rw (c, r) refl;
      first = λ h g m a r. rw r refl;
      within = λ h g m e. inside h g m (rw e refl);
      ask_any = λ h g i p t. inside h g _ (and-false (not (lets h t)));
      pull_any = λ h g p f t. inside h g _ (and-false (not (lets h t)));
      data_any = λ h g x t. inside h g _ (and-false (not (lets h t)));
      done_any = λ h g n t. inside h g _ (and-false (not (lets h t)));
      quit_any = λ h g t. inside h g _ (and-false (not (lets h t)));
      entry_any = λ h g v t. inside h g _ (and-false (not (lets h t)));
      chunk_any = λ h g t. inside h g _ (and-false (not (lets h t)));
    }

pub clock : Clock
clock = record { minutes = λ t. omega arith; of_a_day = λ t. omega arith; thursday = refl; each = λ n. omega arith }

-- ---- in one equation

module _ (h : Option Hours) (g : Config) (e : End) (m : Made) (u : List ℕ) where
  -- the call alone, behind a refusal
  abbrev behind : Option Answer → Reply
  behind r = reply (end_of e accepted m.call) (plain g.capacity (unless_refused r (on_report g accepted m.call)) u)

  abbrev bytes : List ℕ
  bytes = joined_messages g.setting.dialect (messages m.call)

  met : (r : Option Answer) (b : Bool)
      → (pick (b && is_none r) (record { answer = refused closed_hours; unread = u }) (behind r) ≡ or_reply (or_else r (refuse b (refused closed_hours))) u (behind r))
      × (pick (b && is_none r) [] (unless_written r bytes) ≡ unless_written (or_else r (refuse b (refused closed_hours))) bytes)
  unfolding plain
  met none true = (refl, refl)
  met none false = (refl, refl)
  met (some a) true = (refl, refl)
  met (some a) false = (refl, refl)

  pub meets_refusals : MeetsRefusals h g e m u
  unfolding writes
  meets_refusals =
      let (a, w) = met (refusal g.setting m.call) (outside h m) in
      record { answers = a; writes = w }
