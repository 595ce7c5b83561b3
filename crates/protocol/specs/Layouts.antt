-- Facts on how bytes spell numbers, and where a record has them: "all binary integers are Little-Endian in the sync mode" (SYNC.TXT), and the
-- layouts of file_sync_protocol.h, field behind field, each of its width.
-- Assumes nothing.
use Rattle.std.specs.Prelude.{ℕ, List, [], ◌∷◌, ◌++◌, map, ℤ, pos, negsuc, length}
use Rattle.protocol.specs.Bytes.{ascii, le, bytes_of, signed}
use Rattle.protocol.specs.Fact.{Fact}
use Rattle.protocol.specs.Records.{Dent, Dent2, dent_at, dent2_at}

-- bytes and the number that they spell: four, then eight
abbrev spellings : List (List ℕ × ℕ)
spellings =
    (0x01 ∷ 0x02 ∷ 0x03 ∷ 0xf4 ∷ [], 0xf403_0201)
    ∷ (0xe8 ∷ 0x07 ∷ 0x5d ∷ 0x20 ∷ [], 542967784)
    ∷ (0x01 ∷ 0x02 ∷ 0x03 ∷ 0x04 ∷ 0x05 ∷ 0x06 ∷ 0x07 ∷ 0xf8 ∷ [], 0xf807_0605_0403_0201)
    ∷ (0xff ∷ 0xff ∷ 0xff ∷ 0xff ∷ 0xff ∷ 0xff ∷ 0xff ∷ 0xff ∷ [], 0xffff_ffff_ffff_ffff)
    ∷ []

-- read, and written
abbrev pub read_numbers : List (Fact ℕ)
read_numbers = map (λ r. record { computed = le r.0; paper = r.1 }) spellings

abbrev pub written_numbers : List (Fact (List ℕ))
written_numbers = map (λ r. record { computed = bytes_of (length r.0) r.1; paper = r.0 }) spellings

-- eight bytes as a signed number: the two ends, -1, and a number of each sign
abbrev sign : List ℕ → ℤ → Fact ℤ
sign b n = record { computed = signed (le b); paper = n }

abbrev pub signs : List (Fact ℤ)
signs =
    sign (0xff ∷ 0xff ∷ 0xff ∷ 0xff ∷ 0xff ∷ 0xff ∷ 0xff ∷ 0xff ∷ []) (negsuc 0)
    ∷ sign (0x00 ∷ 0x00 ∷ 0x00 ∷ 0x00 ∷ 0x00 ∷ 0x00 ∷ 0x00 ∷ 0x80 ∷ []) (negsuc 0x7fff_ffff_ffff_ffff)
    ∷ sign (0xff ∷ 0xff ∷ 0xff ∷ 0xff ∷ 0xff ∷ 0xff ∷ 0xff ∷ 0x7f ∷ []) (pos 0x7fff_ffff_ffff_ffff)
    ∷ sign (0x18 ∷ 0xfc ∷ 0xff ∷ 0xff ∷ 0xff ∷ 0xff ∷ 0xff ∷ 0xff ∷ []) (negsuc 999)
    ∷ sign (0x01 ∷ 0x02 ∷ 0x03 ∷ 0x04 ∷ 0x05 ∷ 0x06 ∷ 0x07 ∷ 0x08 ∷ []) (pos 0x0807_0605_0403_0201)
    ∷ []

-- an entry of each version, which holds a stat
abbrev pub entries : List (Fact Dent)
entries =
    record {
      computed = dent_at (ascii "DENT" ++ bytes_of 4 33188 ++ bytes_of 4 1998 ++ bytes_of 4 5 ++ bytes_of 4 3 ++ ascii "T98");
      paper = record { stat = record { mode = 33188; size = 1998; mtime = 5 }; namelen = 3 };
    }
    ∷ []

abbrev entry2 : List ℕ
entry2 =
    ascii "DNT2" ++ bytes_of 4 2 ++ bytes_of 8 0xfd01 ++ bytes_of 8 0x1_0000_0007 ++ bytes_of 4 33188 ++ bytes_of 4 1 ++ bytes_of 4 1000 ++ bytes_of 4 1004
    ++ bytes_of 8 5_000_000_000 ++ bytes_of 8 0xffff_ffff_ffff_ffff ++ bytes_of 8 1_700_000_000 ++ bytes_of 8 1_700_000_001 ++ bytes_of 4 3 ++ ascii "T98"

abbrev pub entries2 : List (Fact Dent2)
entries2 =
    record {
      computed = dent2_at entry2;
      paper = record {
        stat = record {
          error = 2;
          dev = 0xfd01;
          ino = 0x1_0000_0007;
          mode = 33188;
          nlink = 1;
          uid = 1000;
          gid = 1004;
          size = 5_000_000_000;
          atime = negsuc 0;
          mtime = pos 1_700_000_000;
          ctime = pos 1_700_000_001;
        };
        namelen = 3;
      };
    }
    ∷ []
