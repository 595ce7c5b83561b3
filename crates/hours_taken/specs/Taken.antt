-- Whether the session in a record would take a push start: none of the numbers 1 to 11 would be told.
-- Assumes nothing.
use Rattle.std.specs.Prelude.{ℕ, Bool, false, ◌&&◌, List, eqb}
use Rattle.std.proofs.Math.Option.{Option, none, some}
use Rattle.protocol.specs.Bytes.{pick}
use Rattle.protocol.specs.Refusal.{is_none, request_refusal}
use Rattle.request.specs.Meaning.{meant}
use Rattle.request.specs.declared.Request.{Request}
use Rattle.request.specs.declared.Request.TheVariants as Q
use Rattle.request_refusal.specs.Meaning.{setting}
use Rattle.session.specs.Calls.{call_refusal}
use Rattle.session.specs.declared.Session.{Session}

-- the call numbered 7 is a push start of version 1; that numbered 8 is one of version 2
unfoldable pub push_numbered : (call a b : ℕ) → Request
push_numbered n a b = pick (eqb n 7) (Q.Send (record { 0 = a })) (Q.Snd2 (record { 0 = a }) (record { 0 = b }))

-- the buffers have these lengths, and the path is lent: not 3, 6 or 4; then not 8, 7, 9 or 10. A record without a session takes nothing
unfoldable pub takes_push : Option Session → (rx msg : ℕ) → (lent : List ℕ) → (call a b : ℕ) → Bool
takes_push none x m lent n a b = false
takes_push (some s) x m lent n a b =
    eqb (call_refusal s x m) 0 && is_none (request_refusal (setting s.features) (meant (push_numbered n a b) lent))
