-- What the panel's records hold (file_sync_protocol.h): every field at its offset, counted from the id at 0.
-- Assumes nothing.
use Rattle.std.specs.Prelude.{ℕ, ◌-◌, List, ℤ, take, drop}
use Rattle.protocol.specs.Bytes.{number_at, signed}

abbrev pub u32_at : ℕ → List ℕ → ℕ
u32_at off s = number_at 4 off s

abbrev pub u64_at : ℕ → List ℕ → ℕ
u64_at off s = number_at 8 off s

abbrev pub i64_at : ℕ → List ℕ → ℤ
i64_at off s = signed (number_at 8 off s)

-- every message and reply begins with a header: id 4, arg 4
abbrev pub header_size : ℕ
header_size = 8

abbrev pub id_at : List ℕ → List ℕ
id_at s = take 4 s

abbrev pub arg_at : List ℕ → ℕ
arg_at s = u32_at 4 s

abbrev pub stat_size : ℕ
stat_size = 16

pub record Stat : Type 0 where
  pub mode : ℕ
  pub size : ℕ
  pub mtime : ℕ

unfoldable pub stat_at : List ℕ → Stat
stat_at s = record { mode = u32_at 4 s; size = u32_at 8 s; mtime = u32_at 12 s }

abbrev pub dent_size : ℕ
dent_size = 20

-- an entry is a stat, the length of its name, then the name
pub record Dent : Type 0 where
  pub stat : Stat
  pub namelen : ℕ

unfoldable pub dent_at : List ℕ → Dent
dent_at s = record { stat = stat_at s; namelen = u32_at 16 s }

abbrev pub stat2_size : ℕ
stat2_size = 72

pub record Stat2 : Type 0 where
  pub error : ℕ
  pub dev : ℕ
  pub ino : ℕ
  pub mode : ℕ
  pub nlink : ℕ
  pub uid : ℕ
  pub gid : ℕ
  pub size : ℕ
  pub atime : ℤ
  pub mtime : ℤ
  pub ctime : ℤ

-- the body: what follows the id, so that each offset is 4 less
unfoldable pub stat2_body : List ℕ → Stat2
stat2_body b =
    record {
      error = u32_at (4 - 4) b;
      dev = u64_at (8 - 4) b;
      ino = u64_at (16 - 4) b;
      mode = u32_at (24 - 4) b;
      nlink = u32_at (28 - 4) b;
      uid = u32_at (32 - 4) b;
      gid = u32_at (36 - 4) b;
      size = u64_at (40 - 4) b;
      atime = i64_at (48 - 4) b;
      mtime = i64_at (56 - 4) b;
      ctime = i64_at (64 - 4) b;
    }

abbrev pub stat2_at : List ℕ → Stat2
stat2_at s = stat2_body (drop 4 s)

abbrev pub dent2_size : ℕ
dent2_size = 76

pub record Dent2 : Type 0 where
  pub stat : Stat2
  pub namelen : ℕ

unfoldable pub dent2_at : List ℕ → Dent2
dent2_at s = record { stat = stat2_at s; namelen = u32_at 72 s }
