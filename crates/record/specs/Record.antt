-- The record: a session's 32 numbers in a lent slice of 256 bytes, eight for each, the lowest first.
-- Assumes nothing.
use Rattle.std.specs.Prelude.{ℕ, ◌*◌, ◌&&◌, List, eqb, length}
use Rattle.std.proofs.Math.Option.{Option, none, some}
use Rattle.protocol.specs.Bytes.{pick}
use Rattle.protocol.specs.Records.{u64_at}
pub use Rattle.format_number.specs.Words.{words}
use Rattle.session.specs.declared.Session.{Session}
use Rattle.record.specs.Fields.{fields, known, session_of}

abbrev pub size : ℕ
size = 256

unfoldable pub stored : Session → List ℕ
stored s = words (fields s)

-- the i-th number of a record
abbrev pub word_of : List ℕ → ℕ → ℕ
word_of rec i = u64_at (8 * i) rec

-- the session that a record holds; none where it is not 256 bytes, or its numbers are no session's
unfoldable pub loaded : List ℕ → Option Session
loaded rec = pick (eqb (length rec) size && known (word_of rec)) (some (session_of (word_of rec))) none
