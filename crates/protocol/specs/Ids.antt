-- The fifteen ids, each by its four letters (SYNC.TXT, file_sync_protocol.h), in the order of `SyncId::ALL`.
-- Assumes nothing.
use Rattle.std.specs.Prelude.{ℕ, Bool, true, not, ◌&&◌, List, [], ◌∷◌, ◌≡◌, eqb, leb, length}
use Rattle.std.proofs.Math.Option.{Option, none, some}
use Rattle.protocol.specs.Bytes.{Bytes, pick, ascii, same}

pub data Id : Type 0 where
  STAT STA2 LIST LIS2 SEND SND2 RECV RCV2 DATA DONE OKAY FAIL DENT DNT2 QUIT : Id

abbrev pub all : List Id
all = STAT ∷ STA2 ∷ LIST ∷ LIS2 ∷ SEND ∷ SND2 ∷ RECV ∷ RCV2 ∷ DATA ∷ DONE ∷ OKAY ∷ FAIL ∷ DENT ∷ DNT2 ∷ QUIT ∷ []

abbrev pub letters : Id → List ℕ
letters STAT = ascii "STAT"
letters STA2 = ascii "STA2"
letters LIST = ascii "LIST"
letters LIS2 = ascii "LIS2"
letters SEND = ascii "SEND"
letters SND2 = ascii "SND2"
letters RECV = ascii "RECV"
letters RCV2 = ascii "RCV2"
letters DATA = ascii "DATA"
letters DONE = ascii "DONE"
letters OKAY = ascii "OKAY"
letters FAIL = ascii "FAIL"
letters DENT = ascii "DENT"
letters DNT2 = ascii "DNT2"
letters QUIT = ascii "QUIT"

-- What host and panel agree on beforehand: the bytes of each id, and the longest path.
pub record Dialect : Type 0 where
  pub bytes : Id → List ℕ
  pub longest : ℕ

-- a table: what is put for each of the fifteen ids (document 02, [9]: "Let the fifteen ids come from a file")
abbrev pub Table : Type 0
Table = Id → List ℕ

-- a table's dialect, with document 02's limit for paths ([2]: "The limit for paths becomes 1,024"; file_sync_protocol.h: "<= 1024")
abbrev pub under : Table → Dialect
under t = record { bytes = t; longest = 1024 }

-- the one of the public documents
abbrev pub published : Dialect
published = under letters

-- no two ids have the same bytes
abbrev pub Apart : Dialect → Type 0
Apart d = (i j : Id) → d.bytes i ≡ d.bytes j → i ≡ j

-- a dialect whose ids are four bytes each, and apart
pub record Sound (d : Dialect) : Type 0 where
  pub four : (i : Id) → length (d.bytes i) ≡ 4
  pub bytes : (i : Id) → Bytes (d.bytes i)
  pub apart : Apart d

-- [9]: "each four bytes from 33 to 126, no comma"
abbrev pub is_letter : ℕ → Bool
is_letter b = leb 33 b && leb b 126 && not (eqb b 44)

abbrev pub are_letters : List ℕ → Bool
are_letters [] = true
are_letters (b ∷ s) = is_letter b && are_letters s

abbrev pub is_value : List ℕ → Bool
is_value s = eqb (length s) 4 && are_letters s

-- a table that loading accepts: its values are such, and no two of them are equal
pub record Legal (t : Table) : Type 0 where
  pub value : (i : Id) → is_value (t i) ≡ true
  pub apart : Apart (under t)

-- the first of some ids whose bytes are b
abbrev pub among : Dialect → List Id → List ℕ → Option Id
among d [] b = none
among d (i ∷ is) b = pick (same (d.bytes i) b) (some i) (among d is b)

-- the id that four bytes are
unfoldable pub named : Dialect → List ℕ → Option Id
named d b = among d all b
