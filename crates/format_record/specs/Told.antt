-- What the structs of this crate tell, as the protocol's records, and the records that stand for a missing one.
-- Assumes nothing.
use Rattle.std.specs.Prelude.{ℕ, List, [], ◌∷◌, pos}
use Rattle.protocol.specs.Records.{Stat, Dent, Stat2, Dent2, id_at, arg_at}
use Rattle.format_flags.specs.declared.FileMode.{FileMode}
use Rattle.format_record.specs.declared.Header.{Header}
use Rattle.format_record.specs.declared.StatV1.{StatV1}
use Rattle.format_record.specs.declared.DentV1.{DentV1}
use Rattle.format_record.specs.declared.StatV2.{StatV2}
use Rattle.format_record.specs.declared.DentV2.{DentV2}

-- a header, as its id's bytes and its arg
abbrev pub header_at : List ℕ → List ℕ × ℕ
header_at s = (id_at s, arg_at s)

abbrev pub told_header : Header → List ℕ × ℕ
told_header r = (r.id, r.arg)

abbrev pub told_stat : StatV1 → Stat
told_stat r = record { mode = r.mode.0; size = r.size; mtime = r.mtime }

abbrev pub told_dent : DentV1 → Dent
told_dent r = record { stat = told_stat r.stat; namelen = r.namelen }

abbrev pub told_stat2 : StatV2 → Stat2
told_stat2 r =
    record {
      error = r.error;
      dev = r.dev;
      ino = r.ino;
      mode = r.mode.0;
      nlink = r.nlink;
      uid = r.uid;
      gid = r.gid;
      size = r.size;
      atime = r.atime;
      mtime = r.mtime;
      ctime = r.ctime;
    }

abbrev pub told_dent2 : DentV2 → Dent2
told_dent2 r = record { stat = told_stat2 r.stat; namelen = r.namelen }

abbrev pub zero_header : List ℕ × ℕ
zero_header = (0 ∷ 0 ∷ 0 ∷ 0 ∷ [], 0)

abbrev pub zero_stat : Stat
zero_stat = record { mode = 0; size = 0; mtime = 0 }

abbrev pub zero_dent : Dent
zero_dent = record { stat = zero_stat; namelen = 0 }

abbrev pub zero_stat2 : Stat2
zero_stat2 =
    record {
      error = 0;
      dev = 0;
      ino = 0;
      mode = 0;
      nlink = 0;
      uid = 0;
      gid = 0;
      size = 0;
      atime = pos 0;
      mtime = pos 0;
      ctime = pos 0;
    }

abbrev pub zero_dent2 : Dent2
zero_dent2 = record { stat = zero_stat2; namelen = 0 }

-- ---- the struct that tells a record: the inverse of each

abbrev pub mode_of : ℕ → FileMode
mode_of n = record { 0 = n }

abbrev pub stat_of : Stat → StatV1
stat_of s = record { mode = mode_of s.mode; size = s.size; mtime = s.mtime }

abbrev pub dent_of : Dent → DentV1
dent_of d = record { stat = stat_of d.stat; namelen = d.namelen }

abbrev pub stat2_of : Stat2 → StatV2
stat2_of s =
    record {
      error = s.error;
      dev = s.dev;
      ino = s.ino;
      mode = mode_of s.mode;
      nlink = s.nlink;
      uid = s.uid;
      gid = s.gid;
      size = s.size;
      atime = s.atime;
      mtime = s.mtime;
      ctime = s.ctime;
    }

abbrev pub dent2_of : Dent2 → DentV2
dent2_of d = record { stat = stat2_of d.stat; namelen = d.namelen }
