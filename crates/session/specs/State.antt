-- A session beside its two buffers, and the fields that a step changes.
-- Assumes nothing.
use Rattle.std.specs.Prelude.{ℕ, ◌≤◌, true, List, ◌≡◌, length}
use Rattle.protocol.specs.Ids.{Dialect}
use Rattle.ids.specs.Ids.{dialect_of}
use Rattle.recv_buf.specs.declared.RecvBuf.{RecvBuf}
use Rattle.session.specs.declared.Answer.{Answer}
use Rattle.session.specs.declared.Pending.{Pending}
use Rattle.session.specs.declared.Pending.TheVariants.{Idle}
use Rattle.session.specs.declared.Reply.{Reply}
use Rattle.session.specs.declared.Reply.TheVariants.{Told}
use Rattle.session.specs.declared.Session.{Session}
use Rattle.session.specs.declared.Stepped.{Stepped}

-- the ids that a session opened with
abbrev pub dialect_in : Session → Dialect
dialect_in s = dialect_of s.ids

-- a session, every byte of the receive buffer, every byte of the message buffer
pub record St : Type 0 where
  pub ses : Session
  pub rx : List ℕ
  pub msg : List ℕ

-- what a step gives: the session, the reply, every byte of both buffers
pub record Out : Type 0 where
  pub st : St
  pub reply : Reply

-- a step that does not touch the message buffer
pub record Half : Type 0 where
  pub stepped : Stepped
  pub rx : List ℕ

abbrev pub st : Session → List ℕ → List ℕ → St
st s rx msg = record { ses = s; rx = rx; msg = msg }

abbrev pub out : Stepped → List ℕ → List ℕ → Out
out r rx msg = record { st = st r.session rx msg; reply = r.reply }

abbrev pub half : Stepped → List ℕ → Half
half r rx = record { stepped = r; rx = rx }

abbrev pub beside : Half → List ℕ → Out
beside h msg = out h.stepped h.rx msg

abbrev pub stepped : Session → Reply → Stepped
stepped s r = record { session = s; reply = r }

-- the same session, at another place of the buffer and with another pending step
abbrev pub at : Session → RecvBuf → Pending → Session
at s b p = record { capacity = s.capacity; message = s.message; buf = b; lent = s.lent; features = s.features; ids = s.ids; ended = s.ended; pending = p }

-- ... with n bytes lent
abbrev pub begun : Session → ℕ → Session
begun s n = record { capacity = s.capacity; message = s.message; buf = s.buf; lent = n; features = s.features; ids = s.ids; ended = s.ended; pending = s.pending }

-- ... ended
abbrev pub shut : Session → Session
shut s = record { capacity = s.capacity; message = s.message; buf = s.buf; lent = s.lent; features = s.features; ids = s.ids; ended = true; pending = Idle }

abbrev pub answering : Session → Answer → Stepped
answering s a = stepped (at s s.buf Idle) (Told a)

-- a refusal: the session as it was
abbrev pub refusing : Session → Answer → Stepped
refusing s a = stepped s (Told a)

-- a session that fits buffers of x and m bytes
pub record Fits (s : Session) (x m : ℕ) : Type 0 where
  pub order : s.buf.head ≤ s.buf.tail
  pub inside : s.buf.tail ≤ s.capacity
  pub rx : x ≡ s.capacity
  pub least : 8 ≤ s.capacity
  pub aside : s.capacity ≤ s.message
  pub msg : m ≡ s.message

abbrev pub Good : St → Type 0
Good s = Fits s.ses (length s.rx) (length s.msg)
