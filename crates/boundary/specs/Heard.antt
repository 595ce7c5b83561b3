-- How the host reads what crossed: by document 01's numbers, from the number returned and the slice of the reply.
-- Assumes nothing.
use Rattle.std.specs.Prelude.{ℕ, ◌*◌, ◌/◌, ◌%◌, List, eqb, take, drop}
use Rattle.protocol.specs.Answers as P
use Rattle.protocol.specs.Answers.{Answer}
use Rattle.protocol.specs.Bytes.{pick, bytes_of, signed}
use Rattle.protocol.specs.Records.{Stat, Stat2, u64_at}
use Rattle.session.specs.Host.{Show, told, read, write_rx, write_lent, write_bytes, close}
use Rattle.session.specs.Shown.{part_of}

-- the i-th number of a reply
abbrev pub at : List ℕ → ℕ → ℕ
at out i = u64_at (8 * i) out

abbrev pub stat_heard : List ℕ → Stat
stat_heard out = record { mode = at out 3; size = at out 4; mtime = at out 5 }

abbrev pub stat2_heard : List ℕ → Stat2
stat2_heard out =
    record {
      error = at out 3;
      dev = at out 4;
      ino = at out 5;
      mode = at out 6;
      nlink = at out 7;
      uid = at out 8;
      gid = at out 9;
      size = at out 10;
      atime = signed (at out 11);
      mtime = signed (at out 12);
      ctime = signed (at out 13);
    }

-- a call that went through, by its kind
unfoldable pub done_heard : (kind : ℕ) → (out rx : List ℕ) → Answer
done_heard kind out rx =
    pick (eqb kind 0) P.done
    (pick (eqb kind 1) P.end
    (pick (eqb kind 2) (P.stat (stat_heard out))
    (pick (eqb kind 3) (P.stat2 (stat2_heard out))
    (pick (eqb kind 4) (part_of rx (at out 1) (at out 2) (P.entry (stat_heard out)))
    (pick (eqb kind 5) (part_of rx (at out 1) (at out 2) (P.entry2 (stat2_heard out)))
    (pick (eqb kind 6) (part_of rx (at out 1) (at out 2) P.chunk) (P.refused 0)))))))

-- an answer, by document 01's number
unfoldable pub answer_heard : (number : ℕ) → (out rx msg : List ℕ) → Answer
answer_heard n out rx msg =
    pick (eqb n 0) (done_heard (at out 0) out rx)
    (pick (eqb n 10) (P.missing (at out 3))
    (pick (eqb n 12) (P.broken P.closed)
    (pick (eqb n 13) (P.broken (P.error (at out 3)))
    (pick (eqb n 14) (part_of msg (at out 1) (at out 2) P.fail)
    (pick (eqb n 15) (P.unexpected (bytes_of 4 (at out 3)))
    (pick (eqb n 16) (P.errno (at out 3))
    (pick (eqb n 17) P.too_large (P.refused n))))))))

-- what is asked or told
unfoldable pub heard : (number : ℕ) → (out rx msg : List ℕ) → Show
heard n out rx msg =
    pick (eqb (n % 256) 0) (told (answer_heard (n / 256) out rx msg))
    (pick (eqb (n % 256) 1) (read (at out 0) (at out 1))
    (pick (eqb (n % 256) 2) (write_rx (at out 0) (at out 1))
    (pick (eqb (n % 256) 3) (write_lent (at out 0) (at out 1))
    (pick (eqb (n % 256) 4) (write_bytes (take (at out 0) (drop 8 out))) close))))
