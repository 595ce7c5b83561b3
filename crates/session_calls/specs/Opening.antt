-- What opening comes to: 1 or 2, or a fresh session with the features of the banner and the ids. Assumes nothing.
use Rattle.std.specs.Prelude.{ℕ, List, Result, Ok, Err, ltb}
use Rattle.protocol.specs.Bytes.{pick}
use Rattle.protocol.specs.Features.{features_of}
use Rattle.ids.specs.declared.Ids.{Ids}
use Rattle.session.specs.Calls.{fresh, open_refusal}
use Rattle.session.specs.Core.{features_from}
use Rattle.session.specs.Misuse.{number_of}
use Rattle.session.specs.declared.Misuse.{Misuse}
use Rattle.session.specs.declared.Session.{Session}

pub data Opened : Type 0 where
  session : Session → Opened
  refused : ℕ → Opened

unfoldable pub opened : (banner : List ℕ) (ids : Ids) (capacity message : ℕ) → Opened
opened banner ids capacity message =
    pick (ltb 0 (open_refusal capacity message)) (refused (open_refusal capacity message))
    (session (fresh capacity message (features_from (features_of banner)) ids))

-- what the code answers
abbrev pub opening : Result Session Misuse → Opened
opening (Ok s) = session s
opening (Err m) = refused (number_of m)
