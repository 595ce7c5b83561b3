-- What crosses to the host: a number that says what is asked or answered, and the bytes that go with it.
--
-- The number is `what + 256 × number`: what is 0 told, 1 read, 2 write a part of the receive buffer, 3 write a part of what is lent,
-- 4 write these bytes, 5 close; number is document 01's, of an answer. The bytes go to the front of a lent slice, eight for each number,
-- the lowest first:
-- * read and the two writes of a part: where it starts, how long it is;
-- * write these bytes: how many, then the bytes;
-- * told: what kind (0 done, 1 end, 2 stat, 3 stat_v2, 4 entry, 5 entry_v2, 6 chunk, 7 other), where a part starts, how long it is, then the
--   numbers that the answer carries, in document 01's order. The part of an entry or a chunk lies in the receive buffer, that of a
--   FAIL in the message buffer. An unexpected id is the number that its four bytes spell.
-- Assumes nothing.
use Rattle.std.specs.Prelude.{ℕ, ◌*◌, List, [], ◌∷◌, ◌++◌, length}
use Rattle.protocol.specs.Bytes.{le}
use Rattle.format_record.specs.declared.StatV1.{StatV1}
use Rattle.format_record.specs.declared.StatV2.{StatV2}
use Rattle.request_piece.specs.Pieces.{by_value}
use Rattle.record.specs.Fields.{unsigned}
use Rattle.record.specs.Record.{words}
use Rattle.session.specs.declared.Answer.{Answer}
use Rattle.session.specs.declared.Answer.TheVariants as A
use Rattle.session.specs.declared.Reply.{Reply}
use Rattle.session.specs.declared.Reply.TheVariants as R

abbrev pub stat_words : StatV1 → List ℕ
stat_words s = s.mode.0 ∷ s.size ∷ s.mtime ∷ []

abbrev pub stat_v2_words : StatV2 → List ℕ
stat_v2_words s =
    s.error ∷ s.dev ∷ s.ino ∷ s.mode.0 ∷ s.nlink ∷ s.uid ∷ s.gid ∷ s.size ∷ unsigned s.atime ∷ unsigned s.mtime ∷ unsigned s.ctime
    ∷ []

abbrev pub answer_number : Answer → ℕ
answer_number A.Done = 0
answer_number A.End = 0
answer_number (A.StatV1 s) = 0
answer_number (A.StatV2 s) = 0
answer_number (A.EntryV1 s at len) = 0
answer_number (A.EntryV2 s at len) = 0
answer_number (A.Chunk at len) = 0
answer_number (A.Refused n) = n
answer_number (A.Missing n) = 10
answer_number A.Closed = 12
answer_number (A.Error c) = 13
answer_number (A.Fail len) = 14
answer_number (A.Unexpected a b c d) = 15
answer_number (A.Errno c) = 16
answer_number A.TooLarge = 17

-- kind, start, length, numbers
abbrev pub answer_words : Answer → List ℕ
answer_words A.Done = 0 ∷ 0 ∷ 0 ∷ []
answer_words A.End = 1 ∷ 0 ∷ 0 ∷ []
answer_words (A.StatV1 s) = 2 ∷ 0 ∷ 0 ∷ stat_words s
answer_words (A.StatV2 s) = 3 ∷ 0 ∷ 0 ∷ stat_v2_words s
answer_words (A.EntryV1 s at len) = 4 ∷ at ∷ len ∷ stat_words s
answer_words (A.EntryV2 s at len) = 5 ∷ at ∷ len ∷ stat_v2_words s
answer_words (A.Chunk at len) = 6 ∷ at ∷ len ∷ []
answer_words (A.Refused n) = 7 ∷ 0 ∷ 0 ∷ []
answer_words (A.Missing n) = 7 ∷ 0 ∷ 0 ∷ n ∷ []
answer_words A.Closed = 7 ∷ 0 ∷ 0 ∷ []
answer_words (A.Error c) = 7 ∷ 0 ∷ 0 ∷ c ∷ []
answer_words (A.Fail len) = 7 ∷ 0 ∷ len ∷ []
answer_words (A.Unexpected a b c d) = 7 ∷ 0 ∷ 0 ∷ le (a ∷ b ∷ c ∷ d ∷ []) ∷ []
answer_words (A.Errno c) = 7 ∷ 0 ∷ 0 ∷ c ∷ []
answer_words A.TooLarge = 7 ∷ 0 ∷ 0 ∷ []

unfoldable pub reply_number : Reply → ℕ
reply_number (R.Told a) = 256 * answer_number a
reply_number (R.Read at len) = 1
reply_number (R.WriteRx at len) = 2
reply_number (R.WriteLent at len) = 3
reply_number (R.WriteBytes p) = 4
reply_number R.Close = 5

unfoldable pub reply_bytes : Reply → List ℕ
reply_bytes (R.Told a) = words (answer_words a)
reply_bytes (R.Read at len) = words (at ∷ len ∷ [])
reply_bytes (R.WriteRx at len) = words (at ∷ len ∷ [])
reply_bytes (R.WriteLent at len) = words (at ∷ len ∷ [])
reply_bytes (R.WriteBytes p) = words (length (by_value p) ∷ []) ++ by_value p
reply_bytes R.Close = []

-- no reply is longer: kind, start, length, eleven numbers, and the reads of the call (document 02, [8]; totals/specs/Crossing)
abbrev pub out_size : ℕ
out_size = 120
