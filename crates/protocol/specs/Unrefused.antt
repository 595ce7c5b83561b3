-- What a call writes that is not refused: messages that the request reader reads back ("What the host writes is read back as meant").
-- Assumes nothing.
use Rattle.std.specs.Prelude.{◌<◌, List, [], ◌∷◌}
use Rattle.protocol.specs.Calls.{Call, call, next_entry, next_chunk}
use Rattle.protocol.specs.Ids.{Dialect}
use Rattle.protocol.specs.Messages.{Request, ask, rcv2, send, snd2, chunk, done, quit, HostWrites}

-- a call's mode, flags and time have 32 bits
abbrev pub Narrow : Call → Type 0
Narrow (call (ask i p)) = Unit {0}
Narrow (call (rcv2 p f)) = f < 0x1_0000_0000
Narrow (call (send p m)) = m < 0x1_0000_0000
Narrow (call (snd2 p m f)) = (m < 0x1_0000_0000) × (f < 0x1_0000_0000)
Narrow (call (chunk x)) = Unit {0}
Narrow (call (done t)) = t < 0x1_0000_0000
Narrow (call quit) = Unit {0}
Narrow (next_entry v) = Unit {0}
Narrow next_chunk = Unit {0}

-- each of some messages is one that the host writes
abbrev pub AllWritten : Dialect → List Request → Type 0
AllWritten d [] = Unit {0}
AllWritten d (q ∷ qs) = HostWrites d q × AllWritten d qs
