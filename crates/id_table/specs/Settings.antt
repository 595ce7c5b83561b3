-- Settings: 128 bytes that the host lends. The fifteen ids stand first, four bytes each, in the order of `SyncId::ALL`; the rest is room, for the hours
-- (hours/specs/Settings).
-- Assumes nothing.
use Rattle.std.specs.Prelude.{ℕ, ◌*◌, List, [], ◌++◌, map, eqb, length, get_or, take, drop, replicate}
use Rattle.protocol.specs.Bytes.{pick, over}
use Rattle.protocol.specs.Ids.{Id, all, letters, Table, STAT, STA2, LIST, LIS2, SEND, SND2, RECV, RCV2, DATA, DONE, OKAY, FAIL, DENT, DNT2, QUIT}
use Rattle.protocol.specs.Messages.{joined}
use Rattle.ids.specs.Ids.{ids_of}
use Rattle.id_table.specs.IdsFile.{IdsRead, ids, refused, checked, ids_in}
use Rattle.id_table.specs.Lent.{Lent}
use Rattle.id_table.specs.Lent as L

abbrev pub settings_size : ℕ
settings_size = 128

-- the fifteen ids
abbrev pub table_size : ℕ
table_size = 60

abbrev pub room_size : ℕ
room_size = 68

-- settings of another length
abbrev pub misplaced : ℕ
misplaced = 3

-- an id's place in the order
abbrev pub place : Id → ℕ
place STAT = 0
place STA2 = 1
place LIST = 2
place LIS2 = 3
place SEND = 4
place SND2 = 5
place RECV = 6
place RCV2 = 7
place DATA = 8
place DONE = 9
place OKAY = 10
place FAIL = 11
place DENT = 12
place DNT2 = 13
place QUIT = 14

-- the table of fifteen values in that order
abbrev pub table_from : List (List ℕ) → Table
table_from values i = get_or values (place i) []

-- the table in some settings
abbrev pub table_in : List ℕ → Table
table_in s i = take 4 (drop (4 * place i) s)

unfoldable pub settings_of : Table → List ℕ
settings_of t = joined (map t all) ++ replicate room_size 0

-- settings that begin: the published table and zeros; what they become, and the answer
unfoldable pub begun : List ℕ → List ℕ × ℕ
begun s = pick (eqb (length s) settings_size) (settings_of letters, 0) (s, misplaced)

-- settings after a file: the values over the first bytes; a refusal alters nothing
abbrev pub taken : List ℕ → IdsRead → List ℕ × ℕ
taken s (ids values) = (over s 0 (joined values), 0)
taken s (refused n) = (s, n)

unfoldable pub loaded : (settings file : List ℕ) → List ℕ × ℕ
loaded s file = pick (eqb (length s) settings_size) (taken s (ids_in file)) (s, misplaced)

-- settings that are lent: their table as it is kept, or why not
abbrev pub lent : Table → IdsRead → Lent
lent t (ids values) = L.Ids (ids_of t)
lent t (refused n) = L.Refused n

unfoldable pub lent_in : List ℕ → Lent
lent_in s = pick (eqb (length s) settings_size) (lent (table_in s) (checked (map (table_in s) all))) (L.Refused misplaced)
