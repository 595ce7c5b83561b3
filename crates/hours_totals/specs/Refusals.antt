-- What is refused of calls and reports where there are hours, beside what document 02, [10] says of it.
-- Assumes nothing.
use Rattle.std.specs.Prelude.{ℕ, Bool, true, false, List, [], ◌∷◌, ◌++◌, map, ◌≡◌, replicate}
use Rattle.std.proofs.Math.Option.{Option, none, some}
use Rattle.protocol.specs.Answers as A
use Rattle.protocol.specs.Answers.{Answer, refused, missing}
use Rattle.protocol.specs.Bytes.{ascii}
use Rattle.protocol.specs.Calls.{Call}
use Rattle.protocol.specs.Fact.{Fact}
use Rattle.protocol.specs.Hours.{Hours}
use Rattle.protocol.specs.Ids.{published}
use Rattle.protocol.specs.Refusal.{refusal_at}
use Rattle.session.specs.Host.{Show, told, read, write_rx}
use Rattle.boundary_misuse.specs.Misuse.{Act, start, report, has_read, wrote, fault, Event, Seen, pending, misfits, call_of}
use Rattle.totals.specs.Card.{Sums, no_sums, adds, passes, refused_by}

-- ---- "a start outside the hours is 25, after 10"

-- all of Thursday; the epoch is one, and 86400 is a Friday
abbrev thursdays : Option Hours
thursdays = some (record { day = 3; opens = 0; closes = 1440 } ∷ [])

abbrev path : List ℕ
path = ascii "/j"

abbrev seen : Show → (ended : Bool) → (feature : Bool) → Seen
seen last ended f = record { capacity = 16; message = 20; features = replicate 7 f; lent = 2; last = last; ended = ended }

abbrev refusing : Option Hours → Seen → Sums → Act → (lent : List ℕ) → (rx : ℕ) → Option Answer → Fact (Option Answer)
refusing h s t a lent rx p =
    record { computed = refused_by h s t (record { act = a; lent = lent; rx = replicate rx 0; msg = replicate 20 0; out = replicate 120 0 }); paper = p }

abbrev idle : Seen
idle = seen (told A.done) false true

-- a push with neither path nor mode, on a Friday, with a message buffer and a slice of these lengths
abbrev lending : Option Hours → (msg out : ℕ) → Option Answer → Fact (Option Answer)
lending h msg out p =
    record {
      computed = refused_by h idle no_sums (record { act = start 7 0 0 86400; lent = []; rx = replicate 16 0; msg = replicate msg 0; out = replicate out 0 });
      paper = p;
    }

abbrev most : Sums
most = record { received = 18446744073709551615; written = 18446744073709551615; reads = 18446744073709551615 }

abbrev pub refusals : List (Fact (Option Answer))
refusals =
    -- pushes of both versions, on both sides of midnight; without hours every moment will do, and with none open no moment
    refusing thursdays idle no_sums (start 7 33188 0 86399) path 16 none
    ∷ refusing thursdays idle no_sums (start 7 33188 0 86400) path 16 (some (refused 25))
    ∷ refusing thursdays idle no_sums (start 8 33188 0 86399) path 16 none
    ∷ refusing thursdays idle no_sums (start 8 33188 0 86400) path 16 (some (refused 25))
    ∷ refusing none idle no_sums (start 7 33188 0 86400) path 16 none
    ∷ refusing (some []) idle no_sums (start 7 33188 0 0) path 16 (some (refused 25))
    -- no other call, and no report
    ∷ map (λ n. refusing thursdays idle no_sums (start n 5 0 86400) path 16 none) (1 ∷ 2 ∷ 3 ∷ 4 ∷ 5 ∷ 6 ∷ 9 ∷ 10 ∷ 11 ∷ 12 ∷ 13 ∷ 14 ∷ [])
    ++ refusing (some []) (seen (read 3 5) false true) no_sums (report (has_read 5)) path 16 none
    ∷ refusing (some []) (seen (write_rx 3 5) false true) no_sums (report wrote) path 16 none
    ∷ refusing (some []) (seen (write_rx 3 5) false true) no_sums (report (fault 1 7)) path 16 none
    -- 3, 6, 4, 5, 8, 7, 9 and 10 first
    ∷ refusing thursdays idle no_sums (start 7 33188 0 86400) path 15 (some (refused 3))
    ∷ lending thursdays 19 120 (some (refused 3))
    ∷ lending thursdays 20 119 (some (refused 3))
    ∷ lending thursdays 20 120 (some (refused 25))
    ∷ lending thursdays 20 121 (some (refused 25))
    ∷ refusing thursdays (seen (told A.done) true true) no_sums (start 7 33188 0 86400) path 16 (some (refused 6))
    ∷ refusing thursdays (seen (read 3 5) false true) no_sums (start 7 33188 0 86400) path 16 (some (refused 4))
    ∷ refusing thursdays idle no_sums (start 15 33188 0 86400) path 16 (some (refused 5))
    ∷ refusing thursdays idle no_sums (start 7 33188 0 86400) (0 ∷ []) 16 (some (refused 8))
    ∷ refusing thursdays idle no_sums (start 7 33188 0 86400) (replicate 1025 47) 16 (some (refused 7))
    ∷ refusing thursdays idle no_sums (start 8 33188 3 86400) path 16 (some (refused 9))
    ∷ refusing thursdays (seen (told A.done) false false) no_sums (start 8 33188 0 86400) path 16 (some (missing 3))
    -- and totals count for no start
    ∷ refusing thursdays idle most (start 7 33188 0 86400) path 16 (some (refused 25))
    ∷ refusing thursdays (seen (read 3 5) false true) most (report (has_read 5)) path 16 (some (refused 21))
    ∷ []

-- Of every call, whatever its path, its numbers and its moment: where the slices fit, none is pending and no total is passed, this table is the plain reader's, so that
-- its 25 is that of demand 3. (What is refused knows no letters of a table: `refusals-alike`.)
abbrev pub AsReader : Type 0
AsReader =
    (h : Option Hours) (s : Seen) (t : Sums) (e : Event) (n a b i : ℕ) (q : Call) → e.act ≡ start n a b i → call_of n a b e.lent ≡ some q
    → misfits s e ≡ false → pending s.last ≡ false → passes (adds s t e.act) ≡ false
    → refused_by h s t e ≡ refusal_at h (record { dialect = published; features = s.features; ended = s.ended }) (record { call = q; moment = i })
