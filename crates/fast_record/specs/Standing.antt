-- What a record's numbers say of its session.
-- Assumes nothing.
use Rattle.std.specs.Prelude.{ℕ, ◌+◌, ◌≤◌, ◌<◌, Bool, true, false, not, ◌&&◌, List, [], ◌∷◌, ◌++◌, ◌≡◌, eqb, leb, length}
use Rattle.std.proofs.Math.Option.{Option, none, some}
use Rattle.protocol.specs.Bytes.{pick}
use Rattle.protocol.specs.Ids.{Id, STAT, STA2, LIST, LIS2, SEND, SND2, RECV, RCV2, DATA, DONE, OKAY, FAIL, DENT, DNT2, QUIT}
use Rattle.ids.specs.declared.Ids.{Ids}
use Rattle.record.specs.Fields.{registers, ids_from, pending_of, step_in}
use Rattle.boundary.specs.Told.{out_size}
use Rattle.record.specs.Record.{size, word_of, loaded}
use Rattle.session.specs.Calls.{misfit}
use Rattle.session.specs.declared.Session.{Session}
use Rattle.fast_record.specs.Names.{CAPACITY, MESSAGE, HEAD, TAIL, LENT, FEATURES, ENDED, STATE, FLAG, IDS, IDLE, STATES}

-- the i-th number of a record; 31, which is no state, where it is not 256 bytes long
unfoldable pub number_in : List ℕ → ℕ → ℕ
number_in rec i = pick (eqb (length rec) size) (word_of rec i) STATES

-- a session of buffers of x and m bytes that has not ended
abbrev pub standing : Option Session → (x m : ℕ) → Bool
standing none x m = false
standing (some s) x m = not (misfit s x m) && not s.ended

-- a call is let in: nothing is pending in a session that stands, and a reply fits o bytes
abbrev pub idle : (rec : List ℕ) → (x m o : ℕ) → Bool
idle rec x m o = eqb (number_in rec STATE) IDLE && standing (loaded rec) x m && leb out_size o

-- a report is, where something is pending: as many bytes are lent as the call had
abbrev pub fits : (rec : List ℕ) → (x m lent o : ℕ) → Bool
fits rec x m lent o = standing (loaded rec) x m && eqb lent (number_in rec LENT) && leb out_size o

-- a session that stands, by the record's numbers
pub record Stands (rec : List ℕ) (x m : ℕ) : Type 0 where
  pub sized : length rec ≡ size
  pub features : number_in rec FEATURES < 128
  pub ended : number_in rec ENDED ≡ 0
  pub state : number_in rec STATE < STATES
  pub flag : number_in rec FLAG < 2
  pub order : number_in rec HEAD ≤ number_in rec TAIL
  pub inside : number_in rec TAIL ≤ number_in rec CAPACITY
  pub rx : x ≡ number_in rec CAPACITY
  pub least : 8 ≤ number_in rec CAPACITY
  pub aside : number_in rec CAPACITY ≤ number_in rec MESSAGE
  pub msg : m ≡ number_in rec MESSAGE
  pub parts : step_in (word_of rec 0) (pending_of (word_of rec)) ≡ true

-- where it has an id: four bytes for each, in the order of `SyncId::ALL`
abbrev pub place_of : Id → ℕ
place_of STAT = 192
place_of STA2 = 196
place_of LIST = 200
place_of LIS2 = 204
place_of SEND = 208
place_of SND2 = 212
place_of RECV = 216
place_of RCV2 = 220
place_of DATA = 224
place_of DONE = 228
place_of OKAY = 232
place_of FAIL = 236
place_of DENT = 240
place_of DNT2 = 244
place_of QUIT = 248

-- its ids
abbrev pub ids_held : List ℕ → Ids
ids_held rec = ids_from (number_in rec)

-- ... as eight numbers
abbrev pub ids_in : List ℕ → List ℕ
ids_in rec =
    number_in rec IDS ∷ number_in rec (IDS + 1) ∷ number_in rec (IDS + 2) ∷ number_in rec (IDS + 3) ∷ number_in rec (IDS + 4) ∷ number_in rec (IDS + 5)
    ∷ number_in rec (IDS + 6) ∷ number_in rec (IDS + 7) ∷ []

-- the numbers of its session at another place, with so many bytes lent and a pending step of these numbers
abbrev pub moved_numbers : List ℕ → (head tail lent : ℕ) → List ℕ → List ℕ
moved_numbers rec head tail lent step =
    (number_in rec CAPACITY ∷ number_in rec MESSAGE ∷ head ∷ tail ∷ lent ∷ number_in rec FEATURES ∷ number_in rec ENDED ∷ step) ++ ids_in rec

-- the numbers of a pending step that keeps at most one register
abbrev pub step_of : (state flag until from piece register : ℕ) → List ℕ
step_of state flag until from piece register = state ∷ flag ∷ until ∷ from ∷ piece ∷ registers (register ∷ [])

-- ... that keeps a state and what it awaits, and nothing else
abbrev pub plain_step : (state until : ℕ) → List ℕ
plain_step state until = step_of state 0 until 0 0 0
