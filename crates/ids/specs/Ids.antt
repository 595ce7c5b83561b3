-- Eight numbers as a table: each id by the four bytes of its half; and a table as eight numbers. Assumes nothing.
use Rattle.std.specs.Prelude.{ℕ, ◌+◌, ◌*◌, ◌/◌, ◌%◌}
use Rattle.protocol.specs.Bytes.{le, bytes_of}
use Rattle.protocol.specs.Ids.{Id, Dialect, Table, under, STAT, STA2, LIST, LIS2, SEND, SND2, RECV, RCV2, DATA, DONE, OKAY, FAIL, DENT, DNT2, QUIT}
use Rattle.ids.specs.declared.Ids.{Ids}

abbrev pub lower : ℕ → ℕ
lower n = n % 0x1_0000_0000

abbrev pub upper : ℕ → ℕ
upper n = n / 0x1_0000_0000

abbrev pub number_of : Ids → Id → ℕ
number_of t STAT = lower t.stat
number_of t STA2 = upper t.stat
number_of t LIST = lower t.list
number_of t LIS2 = upper t.list
number_of t SEND = lower t.send
number_of t SND2 = upper t.send
number_of t RECV = lower t.recv
number_of t RCV2 = upper t.recv
number_of t DATA = lower t.«data»
number_of t DONE = upper t.«data»
number_of t OKAY = lower t.okay
number_of t FAIL = upper t.okay
number_of t DENT = lower t.dent
number_of t DNT2 = upper t.dent
number_of t QUIT = lower t.quit

abbrev pub table_of : Ids → Table
table_of t i = bytes_of 4 (number_of t i)

abbrev pub dialect_of : Ids → Dialect
dialect_of t = under (table_of t)

-- two ids in one number, the first in its lower half
abbrev pub paired : Table → Id → Id → ℕ
paired t i j = le (t i) + 0x1_0000_0000 * le (t j)

abbrev pub ids_of : Table → Ids
ids_of t =
    record {
      stat = paired t STAT STA2;
      list = paired t LIST LIS2;
      send = paired t SEND SND2;
      recv = paired t RECV RCV2;
      «data» = paired t DATA DONE;
      okay = paired t OKAY FAIL;
      dent = paired t DENT DNT2;
      quit = le (t QUIT);
    }
