-- The cases of opening, and of a call that is not refused by 3, 6 or 4. Assumes nothing.
use Prim.Native.Nat.{ℕ}
use mathlib.Core.Bool.{false}
use mathlib.Core.List.{List}
use mathlib.Core.Path.{◌≡◌, ◌∙◌}
use Rattle.std.specs.Prelude.{Result}
use borrow.Author.Tests.{lt-ltb}
use lib.ListN.{length}
use Rattle.protocol.specs.Refusal.{request_refusal}
use Rattle.protocol.specs.Ids.{letters}
use Rattle.ids.specs.Ids.{table_of}
use Rattle.ids.specs.declared.Ids.{Ids}
use Rattle.request_refusal.proofs.Laws.{alike}
use Rattle.request_refusal.specs.Meaning.{checked, setting}
use Rattle.request_refusal.specs.declared.Refusal.{Refusal}
use Rattle.request.specs.Meaning.{meant}
use Rattle.request.specs.declared.Request.{Request}
use Rattle.session.proofs.Refused.{some-number, unless_in, let_in}
use Rattle.session.proofs.Buf.{good-tidied}
use Rattle.session.proofs.Misfit.{guarded-in}
use Rattle.session.specs.Calls.{open_refusal, guarded, call_refusal, refusal_of, or_refuse, start_call, entry_call, chunk_call}
use Rattle.session.specs.Misuse.{number_of}
use Rattle.session.specs.declared.Misuse.{Misuse}
use Rattle.session.specs.State.{St, st, beside, begun, Good}
use Rattle.session.specs.Steps.{read_on}
use Rattle.session.specs.Sends.{tidied, carried, sent}
use Rattle.session.specs.declared.Phase.TheVariants.{Header}
use Rattle.session.specs.declared.Version.{Version}
use Rattle.session.specs.declared.Want.TheVariants as W
use Rattle.session_calls.specs.Opening.{refused, opened}

-- ---- opening

pub opened_out : (banner : List ℕ) (ids : Ids) (capacity message : ℕ) (m : Misuse) → number_of m ≡ open_refusal capacity message
    → refused (number_of m) ≡ opened banner ids capacity message
unfolding opened
opened_out banner ids capacity message m e = rw (← e, lt-ltb 0 (number_of m) (some-number m))

-- ---- a call that is not refused by 3, 6 or 4

module _ (s : St) (e : 0 ≡ refusal_of s) where
  -- the session, with n bytes lent
  module _ (n : ℕ) where
    abbrev ready : St
    ready = st (begun s.ses n) s.rx s.msg

    ready_good : Good ready
    unfolding call_refusal
    ready_good =
        let g = let_in s _ e in
        record { order = g.order; inside = g.inside; rx = g.rx; least = g.least; aside = g.aside; msg = g.msg }

    pub entry_in_lem : (v : Version) → guarded ready (read_on ready (Header (W.Entry v)) false) ≡ entry_call s v n
    unfolding entry_call
    entry_in_lem v = guarded-in ready _ ready_good ∙ unless_in s _ _ e

    pub chunk_in : guarded (tidied ready) (read_on (tidied ready) (Header W.Chunk) false) ≡ chunk_call s n
    unfolding chunk_call
    chunk_in = guarded-in (tidied ready) _ (good-tidied ready ready_good) ∙ unless_in s _ _ e

  -- what the request is refused for, in any table, or its first message
  pub start-in : (q : Request) (lent : List ℕ) (check is : Result Unit Refusal) → check ≡ is → checked check ≡ request_refusal (setting s.ses.features) (meant q lent)
      → or_refuse (checked is) s (beside (sent (begun s.ses (length lent)) s.rx q 0 (carried q 0 lent)) s.msg) ≡ start_call s q lent
  unfolding start_call
  start-in q lent check is f g =
      rw (← f, g, alike letters (table_of s.ses.ids) _ false s.ses.ended (meant q lent)) (unless_in s _ _ e)
