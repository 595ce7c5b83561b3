-- Document 01's example, in the definitions. Assumes nothing.
use mathlib.Core.List.{List, ◌++◌}
use mathlib.Core.Path.{◌≡◌, refl}
use Prim.Native.Nat.{ℕ}
use lib.ListN.{replicate}
use Rattle.protocol.specs.Bytes.{ascii, bytes_of, number_at}
use Rattle.protocol.specs.Digits.{digits}
use Rattle.protocol.specs.Refusal.{refusal}
use Rattle.protocol.specs.Reader.{plain, plain_answers, written}
use Rattle.protocol.specs.Records.{stat_at, dent_at}
use Rattle.listing_lines.specs.Lines.{hex_digit, newline, heading, entry_line, end_line}
use Rattle.listing.specs.Listing.{lined, listed, printed}

-- DENT, mode 33188, size 1998, mtime 5, namelen 3, "T98", then DONE and 16 zeros
abbrev input : List ℕ
input = ascii "DENT" ++ bytes_of 4 33188 ++ bytes_of 4 1998 ++ bytes_of 4 5 ++ bytes_of 4 3 ++ ascii "T98" ++ ascii "DONE" ++ replicate 16 0

pub example : printed 4096 input
    ≡ ascii "mode,size,mtime,name" ++ newline ++ ascii "100644,1998,5,543938" ++ newline ++ ascii "end,0" ++ newline
unfolding printed listed lined plain_answers plain written refusal stat_at dent_at number_at digits hex_digit heading entry_line end_line
example = refl
