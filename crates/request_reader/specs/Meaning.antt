-- What a reading tells of the slice that it was read from, as the protocol's answer, and document 01's number for it.
-- Assumes nothing.
use Rattle.std.specs.Prelude.{ℕ, suc, ◌+◌, Bool, not, ◌||◌, List, [], leb, ltb, length, take, drop, Result, Ok, Err}
use Rattle.std.specs.Prelude as S
use Rattle.std.proofs.Math.Option.{Option, none, some}
use Rattle.protocol.specs.Bytes.{pick, same}
use Rattle.protocol.specs.Ids.{Dialect, under, published}
use Rattle.protocol.specs.Flags.{refused_flags}
use Rattle.protocol.specs.Modes.{mode_in}
use Rattle.protocol.specs.Records.{header_size, id_at}
use Rattle.protocol.specs.Requests as P
use Rattle.protocol.specs.Requests.{Kind, arg_ok, bad_path, whole_of}
use Rattle.request.specs.Meaning.{meant}
use Rattle.request_reader.specs.declared.Heard.{Heard}
use Rattle.request_reader.specs.declared.Unread.{Unread}
use Rattle.request_reader.specs.declared.Unread.TheVariants.{More, Refused}

abbrev pub unread : Unread → P.Read
unread More = P.more
unread Refused = P.refused

-- a request's path or data stands behind the header
abbrev pub told : List ℕ → Result Heard Unread → P.Read
told s (Ok h) = P.request (meant h.request (take h.lent (drop header_size s))) h.size
told s (Err e) = unread e

-- document 01's number: 18 for a refusal; "more" and a request have none
abbrev pub number : Result Heard Unread → ℕ
number (Ok h) = 0
number (Err More) = 0
number (Err Refused) = 18

-- the lent bytes; none where they are not all there
unfoldable pub lent_part : List ℕ → ℕ → List ℕ
lent_part s lent = pick (leb (header_size + lent) (length s)) (take lent (drop header_size s)) []

-- the slice's own table, with its first four bytes for every id: behind a header no other id than the message's own may stand, so it is as
-- good as the table in which that id was found
abbrev pub own : List ℕ → Dialect
own s = under (λ i. id_at s)

-- the answer behind a header of kind k and arg n
unfoldable pub on_arg : Kind → ℕ → List ℕ → P.Read
on_arg k n s = pick (arg_ok (own s) k n) (whole_of (own s) k n s) P.refused

-- the tests that messages with a path of n bytes and `behind` bytes after it share (of the dialect only the limit for paths counts here and in
-- SEND's text, and every table has the published one)
unfoldable pub part_of : ℕ → ℕ → List ℕ → Result Unit Unread
part_of n behind s =
    pick (leb n published.longest)
    (pick (ltb (length s) (header_size + (n + behind))) (Err More) (pick (bad_path published (take n (drop header_size s))) (Err Refused) (Ok tt)))
    (Err Refused)

-- ... and x where they pass
abbrev pub on_whole : Result Unit Unread → Result Unit Unread → Result Unit Unread
on_whole (Err e) x = Err e
on_whole (Ok y) x = x

-- the tests of a message that has its own id again behind the path, then words, with the flags f among them
unfoldable pub words_of : ℕ → ℕ → ℕ → Bool → List ℕ → Result Unit Unread
words_of n behind f pull s =
    on_whole (part_of n behind s) (pick (not (same (take 4 (drop (header_size + n) s)) (id_at s)) || refused_flags pull f) (Err Refused) (Ok tt))

-- an answer that goes by such tests
abbrev pub staged : Result Unit Unread → P.Read → P.Read
staged (Err e) x = unread e
staged (Ok y) x = x

abbrev pub place_of : S.Option ℕ → Option ℕ
place_of (S.Some k) = some k
place_of S.None = none

-- a SEND's text: the mode behind the comma at k, where the path before it is good
unfoldable pub mode_after : List ℕ → ℕ → Option ℕ
mode_after b k = pick (bad_path published (take k b)) none (mode_in (drop (suc k) b))

-- ... all of it
abbrev pub send_of : List ℕ → P.Read
send_of b = P.at_comma published b (P.last_comma b)
