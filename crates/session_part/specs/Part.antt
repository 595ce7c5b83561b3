-- "Chunk, name or FAIL text is handed back as a part of the receive buffer or of the message buffer": the bytes of that part.
-- Assumes nothing.
use Rattle.std.specs.Prelude.{ℕ, ◌+◌, List, [], leb, length, take, drop}
use Rattle.protocol.specs.Answers as P
use Rattle.protocol.specs.Bytes.{pick}

-- the len bytes of b from at on; none where they do not all lie in it
unfoldable pub inside : List ℕ → ℕ → ℕ → List ℕ
inside b at len = pick (leb (at + len) (length b)) (take len (drop at b)) []

-- What is handed back of an answer, as `paper` shows it: a name, a chunk, a FAIL's text. The four bytes of an unexpected id are numbers
-- of the answer and lie in no buffer.
abbrev pub handed : P.Answer → List ℕ
handed P.done = []
handed P.end = []
handed (P.stat s) = []
handed (P.stat2 s) = []
handed (P.entry s name) = name
handed (P.entry2 s name) = name
handed (P.chunk b) = b
handed (P.refused n) = []
handed (P.missing f) = []
handed (P.broken e) = []
handed (P.fail t) = t
handed (P.unexpected i) = []
handed (P.errno c) = []
handed P.too_large = []
