-- Sessions whose numbers fit the widths that the code gives them, and whose parts lie inside their slices: what a record keeps of them is
-- all of them.
-- Assumes nothing.
use Rattle.std.specs.Prelude.{ℕ, ◌^◌, ◌<◌, ◌≤◌, true, ◌≡◌, ℤ}
use Rattle.std.specs.Int.Signed.{mag}
use Rattle.format_record.specs.declared.DentV1.{DentV1}
use Rattle.format_record.specs.declared.DentV2.{DentV2}
use Rattle.ids.specs.declared.Ids.{Ids}
use Rattle.request.specs.declared.Request.{Request}
use Rattle.request.specs.declared.Request.TheVariants as Q
use Rattle.session.specs.declared.Pending.{Pending}
use Rattle.session.specs.declared.Pending.TheVariants.{Idle, Reading, Writing, Closing}
use Rattle.session.specs.declared.Phase.{Phase}
use Rattle.session.specs.declared.Phase.TheVariants.{Header, Stat, Entry, Last, NameV1, NameV2, Body, Text, Rest}
use Rattle.session.specs.declared.Session.{Session}
use Rattle.record.specs.Fields.{starts_in}

abbrev pub U32 : ℕ → Type 0
U32 n = n < 2 ^ 32

abbrev pub U64 : ℕ → Type 0
U64 n = n < 2 ^ 64

-- -2^63 to 2^63 - 1
abbrev pub I64 : ℤ → Type 0
I64 z = mag z < 2 ^ 63

pub record NarrowDent (d : DentV1) : Type 0 where
  pub mode : U32 d.stat.mode.0
  pub size : U32 d.stat.size
  pub mtime : U32 d.stat.mtime
  pub namelen : U32 d.namelen

pub record NarrowDent2 (d : DentV2) : Type 0 where
  pub error : U32 d.stat.error
  pub dev : U64 d.stat.dev
  pub ino : U64 d.stat.ino
  pub mode : U32 d.stat.mode.0
  pub nlink : U32 d.stat.nlink
  pub uid : U32 d.stat.uid
  pub gid : U32 d.stat.gid
  pub size : U64 d.stat.size
  pub atime : I64 d.stat.atime
  pub mtime : I64 d.stat.mtime
  pub ctime : I64 d.stat.ctime
  pub namelen : U32 d.namelen

abbrev pub NarrowPhase : (capacity : ℕ) → Phase → Type 0
NarrowPhase c (Header w) = Unit {0}
NarrowPhase c (Stat v) = Unit {0}
NarrowPhase c (Entry v) = Unit {0}
NarrowPhase c (Last v) = Unit {0}
NarrowPhase c (NameV1 d) = NarrowDent d
NarrowPhase c (NameV2 d) = NarrowDent2 d
NarrowPhase c (Body n) = U32 n
NarrowPhase c (Text n) = U32 n
NarrowPhase c (Rest left text) = U64 left × (text ≤ c)

abbrev pub NarrowRequest : Request → Type 0
NarrowRequest Q.Stat = Unit {0}
NarrowRequest Q.Sta2 = Unit {0}
NarrowRequest Q.List = Unit {0}
NarrowRequest Q.Lis2 = Unit {0}
NarrowRequest Q.Recv = Unit {0}
NarrowRequest (Q.Rcv2 f) = U32 f.0
NarrowRequest (Q.Send m) = U32 m.0
NarrowRequest (Q.Snd2 m f) = U32 m.0 × U32 f.0
NarrowRequest Q.Data = Unit {0}
NarrowRequest (Q.Done t) = U32 t
NarrowRequest Q.Quit = Unit {0}

abbrev pub NarrowPending : (capacity : ℕ) → Pending → Type 0
NarrowPending c Idle = Unit {0}
NarrowPending c (Reading p until lost) = NarrowPhase c p × U64 until
NarrowPending c (Writing q from piece) = NarrowRequest q × (U64 from × U64 piece) × (starts_in q from ≡ true)
NarrowPending c (Closing failed code) = U32 code

pub record NarrowIds (t : Ids) : Type 0 where
  pub stat : U64 t.stat
  pub list : U64 t.list
  pub send : U64 t.send
  pub recv : U64 t.recv
  pub «data» : U64 t.«data»
  pub okay : U64 t.okay
  pub dent : U64 t.dent
  pub quit : U64 t.quit

pub record Narrow (s : Session) : Type 0 where
  pub capacity : U64 s.capacity
  pub message : U64 s.message
  pub head : U64 s.buf.head
  pub tail : U64 s.buf.tail
  pub lent : U64 s.lent
  pub ids : NarrowIds s.ids
  pub pending : NarrowPending s.capacity s.pending
