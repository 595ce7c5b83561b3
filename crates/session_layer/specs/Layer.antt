-- A layer: an engine F around an engine E that keeps numbers of its own and else does what E does. What its numbers are is said by a relation
-- over the host's own account of what was read and written; F must do what E does only while the account stays within bounds, and where E
-- refuses no report.
-- Assumes nothing.
use Rattle.std.specs.Prelude.{ℕ, ◌+◌, ◌≤◌, ◌<◌, Bool, false, List, [], ◌∷◌, ◌≡◌, length, drop}
use Rattle.protocol.specs.Answers.{Answer, End, done, number, callers}
use Rattle.protocol.specs.Bytes.{pick, has}
use Rattle.protocol.specs.Calls.{Made}
use Rattle.protocol.specs.Refusal.{closed_hours}
use Rattle.session.specs.Demand3.{Opening, System}
use Rattle.session.specs.Host.{Show, told, read, write_rx, write_lent, write_bytes, close, Spare, Step, Engine, Host, Ask, World, Run, over_with, unended, run_call}

-- ---- the host's account

-- how many bytes a write asks for
abbrev pub asked : Show → ℕ
asked (told a) = 0
asked (read at len) = 0
asked (write_rx at len) = len
asked (write_lent at len) = len
asked (write_bytes b) = length b
asked close = 0

-- a write or the close is asked
abbrev pub Writes : Show → Type 0
Writes (told a) = ⊥
Writes (read at len) = ⊥
Writes (write_rx at len) = Unit {0}
Writes (write_lent at len) = Unit {0}
Writes (write_bytes b) = Unit {0}
Writes close = Unit {0}

-- something is asked
abbrev pub Asks : Show → Type 0
Asks (told a) = ⊥
Asks (read at len) = Unit {0}
Asks (write_rx at len) = Unit {0}
Asks (write_lent at len) = Unit {0}
Asks (write_bytes b) = Unit {0}
Asks close = Unit {0}

-- the call was refused: its answer's number is one of the caller's, 1 to 11, or 25, the hours'
abbrev pub was_refused : Answer → Bool
was_refused a = has (number a) (closed_hours ∷ callers)

-- a refusal is told
abbrev pub tells_refusal : Show → Bool
tells_refusal (told a) = was_refused a
tells_refusal (read at len) = false
tells_refusal (write_rx at len) = false
tells_refusal (write_lent at len) = false
tells_refusal (write_bytes b) = false
tells_refusal close = false

-- bytes that come in all, and those still to come; since the opening, bytes that accepted reads brought and bytes of accepted pieces; reads accepted in the
-- call that is pending or was last over, refused ones left out
pub record Account : Type 0 where
  pub coming : ℕ
  pub left : List ℕ
  pub received : ℕ
  pub written : ℕ
  pub reads : ℕ

abbrev pub at_opening : List ℕ → Account
at_opening incoming = record { coming = length incoming; left = incoming; received = 0; written = 0; reads = 0 }

-- a call begins, and this is asked or told: with no reads, unless it is refused
abbrev pub starting : Show → Account → Account
starting sh l = record { coming = l.coming; left = l.left; received = l.received; written = l.written; reads = pick (tells_refusal sh) l.reads 0 }

abbrev pub reading : ℕ → Account → Account
reading k l = record { coming = l.coming; left = drop k l.left; received = l.received + k; written = l.written; reads = l.reads + 1 }

abbrev pub writing : ℕ → Account → Account
writing n l = record { coming = l.coming; left = l.left; received = l.received; written = l.written + n; reads = l.reads }

-- ---- a layer

-- a step, with another session in it
abbrev pub under : {Y X : Type 0} → Y → Step X → Step Y
under y s = record { x = y; rx = s.rx; msg = s.msg; show = s.show }

-- F's step is E's, and the relation holds again
abbrev pub Alike : {Y X : Type 0} → (Account → Show → Y → X → Type 0) → Account → Step Y → Step X → Type 0
Alike {Y} R l t s = (y : Y) × ((t ≡ under y s) × R l s.show y s.x)

-- `R l sh y x`: with the account l, and sh last asked or told, F's session y stands for E's session x. Fewer bytes are written than the limit.
-- `lends`: what a step may be lent besides.
pub record Layer {Y X : Type 0} (limit : ℕ) (F : Engine Y) (E : Engine X) (lends : Spare → Type 0) (R : Account → Show → Y → X → Type 0) : Type 0 where
  pub holds : (l : Account) (sh : Show) (y : Y) (x : X) → R l sh y x → (rx : List ℕ) → F.holds y rx ≡ E.holds x rx
  pub tail : (l : Account) (sh : Show) (y : Y) (x : X) → R l sh y x → F.tail y ≡ E.tail x
  pub start : (l : Account) (a : Answer) (y : Y) (x : X) → R l (told a) y x → (rx msg : List ℕ) (m : Made) (z : Spare) → lends z
      → Alike R (starting (E.start x rx msg m z).show l) (F.start y rx msg m z) (E.start x rx msg m z)
  pub on_read : (l : Account) (at len : ℕ) (y : Y) (x : X) → R l (read at len) y x → (rx msg lent : List ℕ) (k : ℕ) (z : Spare) → lends z
      → 0 < k → k ≤ len → k ≤ length l.left → tells_refusal (E.on_read x rx msg lent k z).show ≡ false
      → Alike R (reading k l) (F.on_read y rx msg lent k z) (E.on_read x rx msg lent k z)
  pub on_wrote : (l : Account) (sh : Show) (y : Y) (x : X) → R l sh y x → Writes sh → l.written + asked sh < limit → (rx msg lent : List ℕ) (z : Spare) → lends z
      → tells_refusal (E.on_wrote x rx msg lent z).show ≡ false → Alike R (writing (asked sh) l) (F.on_wrote y rx msg lent z) (E.on_wrote x rx msg lent z)
  pub on_fault : (l : Account) (sh : Show) (y : Y) (x : X) → R l sh y x → Asks sh → (rx msg lent : List ℕ) (e : End) (z : Spare) → lends z
      → tells_refusal (E.on_fault x rx msg lent e z).show ≡ false → Alike R l (F.on_fault y rx msg lent e z) (E.on_fault x rx msg lent e z)

-- T is a layer around S, where fewer bytes come and are written than the limit: `inner` is what stands in the place of S's session, inside what stands
-- in the place of T's
pub record Around {Y X : Type 0} (limit : ℕ) (T : System Y) (S : System X) (R : Account → Show → Y → X → Type 0) : Type 0 where
  pub layer : Layer limit T.engine S.engine T.lends R
  pub inner : Y → X
  pub place : (y : Y) → T.place y → S.place (inner y)
  pub lends : (z : Spare) → T.lends z → S.lends z
  pub number : (y : Y) → T.place y → (o : Opening) (rx msg : List ℕ) → (T.opened y o rx msg).number ≡ (S.opened (inner y) o rx msg).number
  pub opens : (y : Y) → T.place y → (o : Opening) (rx msg incoming : List ℕ) → (S.opened (inner y) o rx msg).number ≡ 0 → length incoming < limit
      → R (at_opening incoming) (told done) (T.opened y o rx msg).x (S.opened (inner y) o rx msg).x

-- ---- what the host has done in a call

-- the bytes of some pieces
abbrev pub sizes : List (List ℕ) → ℕ
sizes [] = 0
sizes (p ∷ ps) = length p + sizes ps

-- the bytes that some reads brought
abbrev pub brought : List Ask → ℕ
brought [] = 0
brought (a ∷ more) = brought more + a.brought

-- ---- what F's sessions are when calls are over

abbrev pub end_run : {Y : Type 0} → (World → Y → List ℕ → List ℕ → List Y) → Run Y → List Y
end_run k (over_with y rx msg a w) = y ∷ k w y rx msg
end_run k unended = []

unfoldable pub ends_of : {Y : Type 0} → Engine Y → Host → List Made → World → Y → List ℕ → List ℕ → List Y
ends_of F h [] w y rx msg = []
ends_of F h (m ∷ ms) w y rx msg = end_run (λ w' y' rx' msg'. ends_of F h ms w' y' rx' msg') (run_call F h m w y rx msg)
