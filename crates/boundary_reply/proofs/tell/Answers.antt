-- `boundary_reply::tell` meets its contract: each arm puts the bytes of its reply, and answers its number.
use mathlib.Core.Path.{refl, sym, ap}
use Prim.Native.Nat.{ℕ, ◌*◌}
use Rattle.boundary.specs.Told.{reply_number, reply_bytes}
use Rattle.boundary_reply.proofs.Arms.{reply-of, put-none}
use Rattle.boundary_reply.proofs.tell.Goals as goal

pub returns-in-Told : goal.returns-in-Told
unfolding reply_number reply_bytes
returns-in-Told c = reply-of _ _ c.in-Told.is c.put_answer.ensures (ap (λ (n : ℕ). 256 * n) c.number.ensures)

pub returns-in-Read : goal.returns-in-Read
unfolding reply_number reply_bytes
returns-in-Read c = reply-of _ _ c.in-Read.is c.put_u64s.ensures refl

pub returns-in-WriteRx : goal.returns-in-WriteRx
unfolding reply_number reply_bytes
returns-in-WriteRx c = reply-of _ _ c.in-WriteRx.is c.put_u64s-in-WriteRx.ensures refl

pub returns-in-WriteLent : goal.returns-in-WriteLent
unfolding reply_number reply_bytes
returns-in-WriteLent c = reply-of _ _ c.in-WriteLent.is c.put_u64s-in-WriteLent.ensures refl

pub returns-in-WriteBytes : goal.returns-in-WriteBytes
unfolding reply_number reply_bytes
returns-in-WriteBytes c = reply-of _ _ c.in-WriteBytes.is c.put_piece.ensures refl

pub returns-in-Close : goal.returns-in-Close
unfolding reply_number reply_bytes
returns-in-Close c = reply-of _ _ c.in-Close.is (sym (put-none _)) refl
