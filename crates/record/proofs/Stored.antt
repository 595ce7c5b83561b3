-- A stored session: 256 bytes that load as the session, and that differ in eight bytes where it differs in `tail`. Assumes nothing.
use mathlib.Core.List.{◌++◌}
use mathlib.Core.Option.{some}
use mathlib.Core.Path.{◌≡◌, ap, ◌∙◌, fun_ext}
use Prim.Native.Nat.{ℕ}
use native.Mathlib.Omega.{arith}
use lib.ListN.{length, length-append}
use Rattle.protocol.specs.Bytes.{bytes_of, put}
use Rattle.recv_buf.specs.RecvBuf.{cursor}
use Rattle.session.specs.State.{at}
use Rattle.session.specs.declared.Session.{Session}
use Rattle.record.specs.Fields.{fields, own_numbers, step_numbers, id_numbers}
use Rattle.record.specs.Narrow.{Narrow}
use Rattle.record.specs.Record.{size, word_of, stored, loaded}
use Rattle.record.proofs.Numbers.{numbers, own-length, fields-wide, fields-known, fields_back}
use Rattle.record.proofs.Words.{length-words, word-words, put_word}

pub fields-length : (s : Session) → length (fields s) ≡ 32
unfolding fields
fields-length s = length-append (own_numbers s ++ step_numbers s.pending) (id_numbers s.ids) ∙ omega (arith, own-length s s.pending)

pub stored-length : (s : Session) → length (stored s) ≡ size
unfolding stored
stored-length s = rw (length-words (fields s), fields-length s)

-- the record that only another `tail` needs
pub stored-tail : (s : Session) (t : ℕ) → put (stored s) 24 (bytes_of 8 t) ≡ stored (at s (cursor s.buf.head t) s.pending)
unfolding stored fields
stored-tail s t = put_word (fields s) 3 t (omega (arith, fields-length s))

pub loaded-stored : (s : Session) → Narrow s → loaded (stored s) ≡ some s
unfolding stored loaded
loaded-stored s n =
    let e : word_of (stored s) ≡ numbers (fields s) = fun_ext (word-words (fields s) (fields-wide s n)) in
    rw (stored-length s, e, fields-known s n) (ap some (fields_back s n))
