-- The index beside the calls of a log holds what the plain reader's answers make it hold. Assumes nothing.
use mathlib.Core.List.{[], append-nil}
use mathlib.Core.Path.{◌≡◌, sym, subst}
use native.Mathlib.Omega.{arith}
use Rattle.session.specs.Demand3.{System, Bound, Claim, reader, log_from, answers_of}
use Rattle.time_index.specs.Claim.{Hears, AllKnown}
use Rattle.time_index.specs.Logged.{LoggedClaim, plainly}
use Rattle.time_index.proofs.Index.{index_claim}
use Rattle.time_index.proofs.Known.{plain_known}

-- of any system that demand 3 is claimed of
pub logged-claim : {X : Type 0} (W : Bound) (S : System X) → Claim W S → LoggedClaim W S
logged-claim W S claim o close ms c least coded wide a within s area size narrow ts hears =
    record {
      known = known;
      numbers = index_claim.answers s area size narrow ts (plainly S o close ms c a) heards known;
      holds = index_claim.holds s area size narrow ts (plainly S o close ms c a) heards known;
    }
  where
    known : AllKnown (plainly S o close ms c a)
    known = plain_known o.hours (reader o c close) a.host.end ms a.incoming a.bytes

    same : answers_of (log_from S o ms a) ≡ plainly S o close ms c a
    same = (claim o close ms c c least (omega arith) coded wide a a [] (sym (append-nil a.incoming)) within within).answers_a

    heards : Hears ts (plainly S o close ms c a)
    heards = subst (Hears ts) same hears
