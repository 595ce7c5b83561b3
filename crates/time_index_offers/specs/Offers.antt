-- What a reply offers, as the code has it: a name is a part of the receive buffer. Assumes nothing.
use Rattle.std.specs.Prelude.{ℕ, ◌+◌, ◌≤◌, List, length, take, drop, leb, Option, Some, None, Result, Ok, Err}
use Rattle.protocol.specs.Bytes.{pick, signed}
use Rattle.boundary.specs.Told.{out_size}
use Rattle.time_index.specs.Index as I
use Rattle.time_index.specs.Index.{Offer}
use Rattle.time_index.specs.Crossing.{offered_by}
use Rattle.time_index_offers.specs.declared.Entry.{Entry}
use Rattle.time_index_offers.specs.declared.NoReply.{NoReply}

-- what the code answers
abbrev pub Offered : Type 0
Offered = Result (Option Entry) NoReply

abbrev pub offer : List ℕ → Offered → Offer
offer rx (Ok (Some e)) = I.entry (signed e.time) (take e.len (drop e.at rx))
offer rx (Ok None) = I.nothing
offer rx (Err e) = I.unknown

-- the part lies in the receive buffer
abbrev pub Inside : List ℕ → Offered → Type 0
Inside rx (Ok (Some e)) = e.at + e.len ≤ length rx
Inside rx (Ok None) = Unit {0}
Inside rx (Err e) = Unit {0}

-- a slice that is too short for a reply is unknown
unfoldable pub offered_in : (told : ℕ) → (reply rx : List ℕ) → Offer
offered_in told reply rx = pick (leb out_size (length reply)) (offered_by told reply rx) I.unknown
