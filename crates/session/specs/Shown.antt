-- What an answer of the code says: document 01's number and values for each case.
-- Assumes nothing.
use Rattle.std.specs.Prelude.{ℕ, ◌+◌, List, [], ◌∷◌, leb, length, take, drop}
use Rattle.protocol.specs.Answers as P
use Rattle.protocol.specs.Bytes.{pick}
use Rattle.format_record.specs.Told.{told_stat, told_stat2}
use Rattle.session.specs.declared.Answer.{Answer}
use Rattle.session.specs.declared.Answer.TheVariants as A

-- a part of a buffer, as f says it; a part that does not lie inside it is 0, which no reader answers
unfoldable pub part_of : List ℕ → ℕ → ℕ → (List ℕ → P.Answer) → P.Answer
part_of b at len f = pick (leb (at + len) (length b)) (f (take len (drop at b))) (P.refused 0)

unfoldable pub paper : List ℕ → List ℕ → Answer → P.Answer
paper rx msg A.Done = P.done
paper rx msg A.End = P.end
paper rx msg (A.StatV1 s) = P.stat (told_stat s)
paper rx msg (A.StatV2 s) = P.stat2 (told_stat2 s)
paper rx msg (A.EntryV1 s at len) = part_of rx at len (P.entry (told_stat s))
paper rx msg (A.EntryV2 s at len) = part_of rx at len (P.entry2 (told_stat2 s))
paper rx msg (A.Chunk at len) = part_of rx at len P.chunk
paper rx msg (A.Refused n) = P.refused n
paper rx msg (A.Missing n) = P.missing n
paper rx msg A.Closed = P.broken P.closed
paper rx msg (A.Error c) = P.broken (P.error c)
paper rx msg (A.Fail len) = part_of msg 0 len P.fail
paper rx msg (A.Unexpected a b c d) = P.unexpected (a ∷ b ∷ c ∷ d ∷ [])
paper rx msg (A.Errno c) = P.errno c
paper rx msg A.TooLarge = P.too_large
