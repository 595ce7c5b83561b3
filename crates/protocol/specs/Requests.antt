-- The panel's request reader, in document 01's order: over a slice one request and its length, "more", or 18.
-- Assumes nothing.
use Rattle.std.specs.Prelude.{ℕ, suc, ◌+◌, Bool, true, false, not, ◌||◌, List, [], ◌∷◌, eqb, leb, ltb, length, take, drop}
use Rattle.std.proofs.Math.Option.{Option, none, some}
use Rattle.protocol.specs.Bytes.{pick, has, same, number_at}
use Rattle.protocol.specs.Flags.{refused_flags}
use Rattle.protocol.specs.Ids.{Id, Dialect, named, STAT, STA2, LIST, LIS2, SEND, SND2, RECV, RCV2, DATA, DONE, OKAY, FAIL, DENT, DNT2, QUIT}
use Rattle.protocol.specs.Messages.{PathOnly, stat, sta2, list, lis2, recv, Request, ask, rcv2, send, snd2, chunk, done, quit, data_most}
use Rattle.protocol.specs.Modes.{mode_in}
use Rattle.protocol.specs.Records.{header_size, id_at, arg_at}

pub data Read : Type 0 where
  more : Read
  refused : Read
  request : Request → (size : ℕ) → Read

-- what stands behind a header: one kind for each form of the host's eleven, and the ids that are none of them
pub data Kind : Type 0 where
  path_only : PathOnly → Kind
  path_flags path_mode path_mode_flags bytes time bare foreign : Kind

abbrev pub kind_of : Id → Kind
kind_of STAT = path_only stat
kind_of STA2 = path_only sta2
kind_of LIST = path_only list
kind_of LIS2 = path_only lis2
kind_of RECV = path_only recv
kind_of RCV2 = path_flags
kind_of SEND = path_mode
kind_of SND2 = path_mode_flags
kind_of DATA = bytes
kind_of DONE = time
kind_of QUIT = bare
kind_of OKAY = foreign
kind_of FAIL = foreign
kind_of DENT = foreign
kind_of DNT2 = foreign

-- "18 if the id is none of the host's eleven .., if arg exceeds" its limit, "or QUIT's arg isn't 0; DONE's arg is free"; "Largest SEND arg:
-- 1,037" (document 02, [5]: the longest path, a comma, a 0 and eleven digits), "that of the other path requests 1,024; DATA keeps 65,536" ([2])
unfoldable pub arg_ok : Dialect → Kind → ℕ → Bool
arg_ok d (path_only i) n = leb n d.longest
arg_ok d path_flags n = leb n d.longest
arg_ok d path_mode n = leb n (d.longest + 13)
arg_ok d path_mode_flags n = leb n d.longest
arg_ok d bytes n = leb n data_most
arg_ok d time n = true
arg_ok d bare n = eqb n 0
arg_ok d foreign n = false

-- how many bytes follow the header
unfoldable pub following : Kind → ℕ → ℕ
following (path_only i) n = n
following path_flags n = n + 8
following path_mode n = n
following path_mode_flags n = n + 12
following bytes n = n
following time n = 0
following bare n = 0
following foreign n = 0

-- a path over the limit or with NUL
unfoldable pub bad_path : Dialect → List ℕ → Bool
bad_path d p = ltb d.longest (length p) || has 0 p

-- where the last comma stands
abbrev pub comma_at : ℕ → Option ℕ → Option ℕ
comma_at b (some k) = some (suc k)
comma_at b none = pick (eqb b 44) (some 0) none

abbrev pub last_comma : List ℕ → Option ℕ
last_comma [] = none
last_comma (b ∷ s) = comma_at b (last_comma s)

-- the request q of size n, but 18 where the test holds
abbrev pub unless_bad : Bool → Request → ℕ → Read
unless_bad bad q n = pick bad refused (request q n)

-- SEND's text: the path up to the last comma, then the mode
abbrev pub with_mode : Dialect → List ℕ → ℕ → Option ℕ → Read
with_mode d p n none = refused
with_mode d p n (some m) = unless_bad (bad_path d p) (send p m) n

abbrev pub at_comma : Dialect → List ℕ → Option ℕ → Read
at_comma d b none = refused
at_comma d b (some k) = with_mode d (take k b) (header_size + length b) (mode_in (drop (suc k) b))

-- the whole message: n is its arg, b what follows the header
unfoldable pub body_of : Dialect → Kind → ℕ → List ℕ → Read
body_of d (path_only i) n b = unless_bad (bad_path d b) (ask i b) (header_size + n)
body_of d path_flags n b =
    unless_bad (bad_path d (take n b) || not (same (take 4 (drop n b)) (d.bytes RCV2)) || refused_flags true (number_at 4 (n + 4) b))
    (rcv2 (take n b) (number_at 4 (n + 4) b))
    (header_size + (n + 8))
body_of d path_mode n b = at_comma d b (last_comma b)
body_of d path_mode_flags n b =
    unless_bad (bad_path d (take n b) || not (same (take 4 (drop n b)) (d.bytes SND2)) || refused_flags false (number_at 4 (n + 8) b))
    (snd2 (take n b) (number_at 4 (n + 4) b) (number_at 4 (n + 8) b))
    (header_size + (n + 12))
body_of d bytes n b = request (chunk b) (header_size + n)
body_of d time n b = request (done n) header_size
body_of d bare n b = request quit header_size
body_of d foreign n b = refused

-- "more until the message is whole"
abbrev pub whole_of : Dialect → Kind → ℕ → List ℕ → Read
whole_of d k n s = pick (ltb (length s) (header_size + following k n)) more (body_of d k n (take (following k n) (drop header_size s)))

abbrev pub on_id : Dialect → List ℕ → Option Id → Read
on_id d s none = refused
on_id d s (some i) = pick (arg_ok d (kind_of i) (arg_at s)) (whole_of d (kind_of i) (arg_at s) s) refused

unfoldable pub read_request : Dialect → List ℕ → Read
read_request d s = pick (ltb (length s) header_size) more (on_id d s (named d (id_at s)))
