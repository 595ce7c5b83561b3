-- The numbers of a record by their places, and the states of its pending step, by name: those of `record`'s code.
-- Assumes nothing.
use Rattle.std.specs.Prelude.{ℕ}

abbrev pub CAPACITY : ℕ
CAPACITY = 0

abbrev pub MESSAGE : ℕ
MESSAGE = 1

abbrev pub HEAD : ℕ
HEAD = 2

abbrev pub TAIL : ℕ
TAIL = 3

abbrev pub LENT : ℕ
LENT = 4

abbrev pub FEATURES : ℕ
FEATURES = 5

abbrev pub ENDED : ℕ
ENDED = 6

abbrev pub STATE : ℕ
STATE = 7

abbrev pub FLAG : ℕ
FLAG = 8

abbrev pub UNTIL : ℕ
UNTIL = 9

abbrev pub FROM : ℕ
FROM = 10

abbrev pub PIECE : ℕ
PIECE = 11

abbrev pub REGISTER : ℕ
REGISTER = 12

abbrev pub IDS : ℕ
IDS = 24

abbrev pub IDLE : ℕ
IDLE = 0

abbrev pub STAT_OUT : ℕ
STAT_OUT = 1

abbrev pub STAT_V2_OUT : ℕ
STAT_V2_OUT = 2

abbrev pub DATA_OUT : ℕ
DATA_OUT = 9

abbrev pub STAT_HEADER : ℕ
STAT_HEADER = 13

abbrev pub STAT_V2_HEADER : ℕ
STAT_V2_HEADER = 14

abbrev pub CHUNK_HEADER : ℕ
CHUNK_HEADER = 17

abbrev pub CHUNK_BODY : ℕ
CHUNK_BODY = 28

abbrev pub STATES : ℕ
STATES = 31
