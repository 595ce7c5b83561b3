-- Facts on messages under other letters, by hand: those of Written, Received, Replies and Losses are of the published table, these of two others.
-- Document 02, [9]: "The next panel maker uses the same layouts under other ids"; "Inner ids of RCV2 and SND2 follow". The layouts are document
-- 01's.
-- Assumes nothing.
use Rattle.std.specs.Prelude.{ℕ, ◌-◌, true, false, List, [], ◌∷◌, ◌++◌, map, take, replicate}
use Rattle.std.proofs.Math.Option.{none}
use Rattle.protocol.specs.Answers as A
use Rattle.protocol.specs.Answers.{Answer, closed, error}
use Rattle.protocol.specs.Bytes.{ascii}
use Rattle.protocol.specs.Calls.{v1, v2, Call, call, next_entry, next_chunk, anytimes}
use Rattle.protocol.specs.Fact.{Fact}
use Rattle.protocol.specs.Ids.{Table, under, STAT, STA2, LIST, LIS2, SEND, SND2, RECV, RCV2, DATA, DONE, OKAY, FAIL, DENT, DNT2, QUIT}
use Rattle.protocol.specs.Losses.{Listed}
use Rattle.protocol.specs.Messages.{Request, ask, stat, sta2, list, lis2, recv, rcv2, send, snd2, chunk, done, quit, bytes_of_request, pieces}
use Rattle.protocol.specs.Reader.{Config, Reply, accepted, broke, plain_call, plain_answers, plain_writes}
use Rattle.protocol.specs.Replies.{counting, low_stat, low_stat2}
use Rattle.protocol.specs.Requests.{Read, more, refused, request, read_request}

-- ---- the letters

-- each id by its name, as it stands on the cable
pub record Spelling : Type 0 where
  pub stat : List ℕ
  pub sta2 : List ℕ
  pub list : List ℕ
  pub lis2 : List ℕ
  pub send : List ℕ
  pub snd2 : List ℕ
  pub recv : List ℕ
  pub rcv2 : List ℕ
  pub «data» : List ℕ
  pub done : List ℕ
  pub okay : List ℕ
  pub fail : List ℕ
  pub dent : List ℕ
  pub dnt2 : List ℕ
  pub quit : List ℕ

abbrev spelling : Spelling → Table
spelling w STAT = w.stat
spelling w STA2 = w.sta2
spelling w LIST = w.list
spelling w LIS2 = w.lis2
spelling w SEND = w.send
spelling w SND2 = w.snd2
spelling w RECV = w.recv
spelling w RCV2 = w.rcv2
spelling w DATA = w.«data»
spelling w DONE = w.done
spelling w OKAY = w.okay
spelling w FAIL = w.fail
spelling w DENT = w.dent
spelling w DNT2 = w.dnt2
spelling w QUIT = w.quit

-- none of the published ids
abbrev low_letters : Spelling
low_letters =
    record {
      stat = ascii "stat";
      sta2 = ascii "sta2";
      list = ascii "list";
      lis2 = ascii "lis2";
      send = ascii "send";
      snd2 = ascii "snd2";
      recv = ascii "recv";
      rcv2 = ascii "rcv2";
      «data» = ascii "data";
      done = ascii "done";
      okay = ascii "okay";
      fail = ascii "fail";
      dent = ascii "dent";
      dnt2 = ascii "dnt2";
      quit = ascii "quit";
    }

-- all of them, each for another id
abbrev moved_letters : Spelling
moved_letters =
    record {
      stat = ascii "STA2";
      sta2 = ascii "LIST";
      list = ascii "LIS2";
      lis2 = ascii "SEND";
      send = ascii "SND2";
      snd2 = ascii "RECV";
      recv = ascii "RCV2";
      rcv2 = ascii "DATA";
      «data» = ascii "DONE";
      done = ascii "OKAY";
      okay = ascii "FAIL";
      fail = ascii "DENT";
      dent = ascii "DNT2";
      dnt2 = ascii "QUIT";
      quit = ascii "STAT";
    }

abbrev low_table : Table
low_table = spelling low_letters

abbrev moved_table : Table
moved_table = spelling moved_letters

-- ---- requests: written, and read

abbrev path : List ℕ
path = ascii "/a"

-- a request, its bytes, how many they are
pub record Spelt : Type 0 where
  pub asked : Request
  pub bytes : List ℕ
  pub size : ℕ

abbrev spelt : Request → List ℕ → ℕ → Spelt
spelt q s n = record { asked = q; bytes = s; size = n }

-- the host's eleven; an inner id is spelt as the outer
abbrev eleven : Spelling → List Spelt
eleven w =
    spelt (ask stat path) (w.stat ++ 2 ∷ 0 ∷ 0 ∷ 0 ∷ path) 10
    ∷ spelt (ask sta2 path) (w.sta2 ++ 2 ∷ 0 ∷ 0 ∷ 0 ∷ path) 10
    ∷ spelt (ask list path) (w.list ++ 2 ∷ 0 ∷ 0 ∷ 0 ∷ path) 10
    ∷ spelt (ask lis2 path) (w.lis2 ++ 2 ∷ 0 ∷ 0 ∷ 0 ∷ path) 10
    ∷ spelt (ask recv path) (w.recv ++ 2 ∷ 0 ∷ 0 ∷ 0 ∷ path) 10
    ∷ spelt (rcv2 path 4) (w.rcv2 ++ 2 ∷ 0 ∷ 0 ∷ 0 ∷ path ++ w.rcv2 ++ 4 ∷ 0 ∷ 0 ∷ 0 ∷ []) 18
    ∷ spelt (send path 33188) (w.send ++ 8 ∷ 0 ∷ 0 ∷ 0 ∷ ascii "/a,33188") 16
    ∷ spelt (snd2 path 33188 2) (w.snd2 ++ 2 ∷ 0 ∷ 0 ∷ 0 ∷ path ++ w.snd2 ++ 0xa4 ∷ 0x81 ∷ 0 ∷ 0 ∷ 2 ∷ 0 ∷ 0 ∷ 0 ∷ []) 22
    ∷ spelt (chunk (ascii "xyz")) (w.«data» ++ 3 ∷ 0 ∷ 0 ∷ 0 ∷ ascii "xyz") 11
    ∷ spelt (done 5) (w.done ++ 5 ∷ 0 ∷ 0 ∷ 0 ∷ []) 8
    ∷ spelt quit (w.quit ++ 0 ∷ 0 ∷ 0 ∷ 0 ∷ []) 8
    ∷ []

abbrev write : Table → Request → List ℕ → Fact (List ℕ)
write t q s = record { computed = bytes_of_request (under t) q; paper = s }

abbrev pub written_under : List (Fact (List ℕ))
written_under =
    write low_table (ask stat path) (0x73 ∷ 0x74 ∷ 0x61 ∷ 0x74 ∷ 2 ∷ 0 ∷ 0 ∷ 0 ∷ 0x2f ∷ 0x61 ∷ [])
    ∷ map (λ (m : Spelt). write low_table m.asked m.bytes) (eleven low_letters)
    ++ map (λ (m : Spelt). write moved_table m.asked m.bytes) (eleven moved_letters)

-- where a message does not fit the free end, by one byte and by all, and where it fits: an inner id is a piece of its own
abbrev in_pieces : Table → Request → (size : ℕ) → (whole : List ℕ) → (apart : List (List ℕ)) → List (Fact (List (List ℕ)))
in_pieces t q size whole apart =
    record { computed = pieces (under t) size q; paper = whole ∷ [] }
    ∷ map (λ free. record { computed = pieces (under t) free q; paper = apart }) (0 ∷ (size - 1) ∷ [])

abbrev pub pieces_under : List (Fact (List (List ℕ)))
pieces_under =
    in_pieces low_table (rcv2 path 4) 18 (ascii "rcv2" ++ 2 ∷ 0 ∷ 0 ∷ 0 ∷ ascii "/arcv2" ++ 4 ∷ 0 ∷ 0 ∷ 0 ∷ [])
    ((ascii "rcv2" ++ 2 ∷ 0 ∷ 0 ∷ 0 ∷ []) ∷ ascii "/a" ∷ ascii "rcv2" ∷ (4 ∷ 0 ∷ 0 ∷ 0 ∷ []) ∷ [])
    ++ in_pieces low_table (snd2 path 33188 2) 22 (ascii "snd2" ++ 2 ∷ 0 ∷ 0 ∷ 0 ∷ ascii "/asnd2" ++ 0xa4 ∷ 0x81 ∷ 0 ∷ 0 ∷ 2 ∷ 0 ∷ 0 ∷ 0 ∷ [])
    ((ascii "snd2" ++ 2 ∷ 0 ∷ 0 ∷ 0 ∷ []) ∷ ascii "/a" ∷ ascii "snd2" ∷ (0xa4 ∷ 0x81 ∷ 0 ∷ 0 ∷ []) ∷ (2 ∷ 0 ∷ 0 ∷ 0 ∷ []) ∷ [])
    ++ in_pieces moved_table (rcv2 path 4) 18 (ascii "DATA" ++ 2 ∷ 0 ∷ 0 ∷ 0 ∷ ascii "/aDATA" ++ 4 ∷ 0 ∷ 0 ∷ 0 ∷ [])
    ((ascii "DATA" ++ 2 ∷ 0 ∷ 0 ∷ 0 ∷ []) ∷ ascii "/a" ∷ ascii "DATA" ∷ (4 ∷ 0 ∷ 0 ∷ 0 ∷ []) ∷ [])
    ++ in_pieces moved_table (snd2 path 33188 2) 22 (ascii "RECV" ++ 2 ∷ 0 ∷ 0 ∷ 0 ∷ ascii "/aRECV" ++ 0xa4 ∷ 0x81 ∷ 0 ∷ 0 ∷ 2 ∷ 0 ∷ 0 ∷ 0 ∷ [])
    ((ascii "RECV" ++ 2 ∷ 0 ∷ 0 ∷ 0 ∷ []) ∷ ascii "/a" ∷ ascii "RECV" ∷ (0xa4 ∷ 0x81 ∷ 0 ∷ 0 ∷ []) ∷ (2 ∷ 0 ∷ 0 ∷ 0 ∷ []) ∷ [])

abbrev read : Table → List ℕ → Read → Fact Read
read t s r = record { computed = read_request (under t) s; paper = r }

-- what stands behind a message or a reply: it must stay
abbrev behind : List ℕ
behind = ascii "FAIL, fail"

-- modes that begin with a 0, the largest arg and one more (document 02, [5])
abbrev sent : Table → Spelling → List (Fact Read)
sent t w =
    read t (w.send ++ 10 ∷ 0 ∷ 0 ∷ 0 ∷ ascii "/a,0100644") (request (send path 33188) 18)
    ∷ read t (w.send ++ 5 ∷ 0 ∷ 0 ∷ 0 ∷ ascii "/a,00") (request (send path 0) 13)
    ∷ read t (w.send ++ 4 ∷ 0 ∷ 0 ∷ 0 ∷ ascii "/a,0") (request (send path 0) 12)
    ∷ read t (w.send ++ 5 ∷ 0 ∷ 0 ∷ 0 ∷ ascii "/a,08") refused
    -- 1,037, 1,038
    ∷ read t (w.send ++ 0x0d ∷ 4 ∷ 0 ∷ 0 ∷ []) more
    ∷ read t (w.send ++ 0x0e ∷ 4 ∷ 0 ∷ 0 ∷ []) refused
    ∷ []

-- each of the eleven, alone, with bytes behind it, and without its last; the panel's four are none of the host's
abbrev read_back : Table → Spelling → List (Fact Read)
read_back t w =
    map (λ (m : Spelt). read t m.bytes (request m.asked m.size)) (eleven w)
    ++ map (λ (m : Spelt). read t (m.bytes ++ behind) (request m.asked m.size)) (eleven w)
    ++ map (λ (m : Spelt). read t (take (m.size - 1) m.bytes) more) (eleven w)
    ++ map (λ i. read t (i ++ 0 ∷ 0 ∷ 0 ∷ 0 ∷ []) refused) (w.okay ∷ w.fail ∷ w.dent ∷ w.dnt2 ∷ [])
    ++ sent t w

-- whole messages in the published letters: with the small letters they are 18, each of them; so is one whose inner id alone is published
abbrev published_to_low : List (Fact Read)
published_to_low =
    map (λ s. read low_table s refused)
    ((ascii "STAT" ++ 2 ∷ 0 ∷ 0 ∷ 0 ∷ path)
    ∷ (ascii "STA2" ++ 2 ∷ 0 ∷ 0 ∷ 0 ∷ path)
    ∷ (ascii "LIST" ++ 2 ∷ 0 ∷ 0 ∷ 0 ∷ path)
    ∷ (ascii "LIS2" ++ 2 ∷ 0 ∷ 0 ∷ 0 ∷ path)
    ∷ (ascii "RECV" ++ 2 ∷ 0 ∷ 0 ∷ 0 ∷ path)
    ∷ (ascii "RCV2" ++ 2 ∷ 0 ∷ 0 ∷ 0 ∷ ascii "/aRCV2" ++ 4 ∷ 0 ∷ 0 ∷ 0 ∷ [])
    ∷ (ascii "RCV2" ++ 2 ∷ 0 ∷ 0 ∷ 0 ∷ ascii "/arcv2" ++ 4 ∷ 0 ∷ 0 ∷ 0 ∷ [])
    ∷ (ascii "rcv2" ++ 2 ∷ 0 ∷ 0 ∷ 0 ∷ ascii "/aRCV2" ++ 4 ∷ 0 ∷ 0 ∷ 0 ∷ [])
    ∷ (ascii "SEND" ++ 8 ∷ 0 ∷ 0 ∷ 0 ∷ ascii "/a,33188")
    ∷ (ascii "SND2" ++ 2 ∷ 0 ∷ 0 ∷ 0 ∷ ascii "/aSND2" ++ 0xa4 ∷ 0x81 ∷ 0 ∷ 0 ∷ 2 ∷ 0 ∷ 0 ∷ 0 ∷ [])
    ∷ (ascii "SND2" ++ 2 ∷ 0 ∷ 0 ∷ 0 ∷ ascii "/asnd2" ++ 0xa4 ∷ 0x81 ∷ 0 ∷ 0 ∷ 2 ∷ 0 ∷ 0 ∷ 0 ∷ [])
    ∷ (ascii "snd2" ++ 2 ∷ 0 ∷ 0 ∷ 0 ∷ ascii "/aSND2" ++ 0xa4 ∷ 0x81 ∷ 0 ∷ 0 ∷ 2 ∷ 0 ∷ 0 ∷ 0 ∷ [])
    ∷ (ascii "DATA" ++ 3 ∷ 0 ∷ 0 ∷ 0 ∷ ascii "xyz")
    ∷ (ascii "DONE" ++ 5 ∷ 0 ∷ 0 ∷ 0 ∷ [])
    ∷ (ascii "QUIT" ++ 0 ∷ 0 ∷ 0 ∷ 0 ∷ [])
    ∷ [])

-- the same messages, with the ids moved: each is what its letters now are
abbrev published_to_moved : List (Fact Read)
published_to_moved =
    -- QUIT with an arg; stat, sta2, list
    read moved_table (ascii "STAT" ++ 2 ∷ 0 ∷ 0 ∷ 0 ∷ path) refused
    ∷ read moved_table (ascii "STA2" ++ 2 ∷ 0 ∷ 0 ∷ 0 ∷ path) (request (ask stat path) 10)
    ∷ read moved_table (ascii "LIST" ++ 2 ∷ 0 ∷ 0 ∷ 0 ∷ path) (request (ask sta2 path) 10)
    ∷ read moved_table (ascii "LIS2" ++ 2 ∷ 0 ∷ 0 ∷ 0 ∷ path) (request (ask list path) 10)
    -- SND2, of which twelve bytes are missing; recv; lis2 with a longer path; SEND without a comma
    ∷ read moved_table (ascii "RECV" ++ 2 ∷ 0 ∷ 0 ∷ 0 ∷ path) more
    ∷ read moved_table (ascii "RCV2" ++ 2 ∷ 0 ∷ 0 ∷ 0 ∷ ascii "/aRCV2" ++ 4 ∷ 0 ∷ 0 ∷ 0 ∷ []) (request (ask recv path) 10)
    ∷ read moved_table (ascii "SEND" ++ 8 ∷ 0 ∷ 0 ∷ 0 ∷ ascii "/a,33188") (request (ask lis2 (ascii "/a,33188")) 16)
    ∷ read moved_table (ascii "SND2" ++ 2 ∷ 0 ∷ 0 ∷ 0 ∷ ascii "/aSND2" ++ 0xa4 ∷ 0x81 ∷ 0 ∷ 0 ∷ 2 ∷ 0 ∷ 0 ∷ 0 ∷ []) refused
    -- RCV2, of which eight bytes are missing; DATA, of which five are; DNT2
    ∷ read moved_table (ascii "DATA" ++ 3 ∷ 0 ∷ 0 ∷ 0 ∷ ascii "xyz") more
    ∷ read moved_table (ascii "DONE" ++ 5 ∷ 0 ∷ 0 ∷ 0 ∷ []) more
    ∷ read moved_table (ascii "QUIT" ++ 0 ∷ 0 ∷ 0 ∷ 0 ∷ []) refused
    -- RCV2 and SND2 whose inner ids are published
    ∷ read moved_table (ascii "DATA" ++ 2 ∷ 0 ∷ 0 ∷ 0 ∷ ascii "/aRCV2" ++ 4 ∷ 0 ∷ 0 ∷ 0 ∷ []) refused
    ∷ read moved_table (ascii "RECV" ++ 2 ∷ 0 ∷ 0 ∷ 0 ∷ ascii "/aSND2" ++ 0xa4 ∷ 0x81 ∷ 0 ∷ 0 ∷ 2 ∷ 0 ∷ 0 ∷ 0 ∷ []) refused
    ∷ []

abbrev pub read_under : List (Fact Read)
read_under = read_back low_table low_letters ++ read_back moved_table moved_letters ++ published_to_low ++ published_to_moved

-- ---- replies: what the plain reader's calls answer, and what they leave

-- a session with every feature, under a table
abbrev session : Table → Config
session t = record { setting = record { dialect = under t; features = replicate 7 true; ended = false }; capacity = 99; close = accepted }

abbrev comes : Table → Call → (unread : List ℕ) → Answer → (left : List ℕ) → Fact Reply
comes t q u a left = record { computed = plain_call (session t) (error 7) accepted q u; paper = record { answer = a; unread = left } }

abbrev stat_call : Call
stat_call = call (ask stat path)

abbrev stat2_call : Call
stat2_call = call (ask sta2 path)

abbrev done_call : Call
done_call = call (done 5)

abbrev readers : List Call
readers = stat_call ∷ stat2_call ∷ next_entry v1 ∷ next_entry v2 ∷ next_chunk ∷ done_call ∷ []

-- a length and as many bytes: of a name, of data
abbrev counted : List ℕ
counted = 3 ∷ 0 ∷ 0 ∷ 0 ∷ ascii "T98"

-- what a reply says whose bytes behind the id are each its own offset
abbrev told : Table → Spelling → List (Fact Reply)
told t w =
    comes t stat_call (w.stat ++ counting 4 12 ++ behind) (A.stat low_stat) behind
    ∷ comes t stat2_call (w.sta2 ++ replicate 4 0 ++ counting 8 64 ++ behind) (A.stat2 (low_stat2 0)) behind
    ∷ comes t stat2_call (w.sta2 ++ counting 4 68 ++ behind) (A.errno 0x0706_0504) behind
    ∷ comes t (next_entry v1) (w.dent ++ counting 4 12 ++ counted ++ behind) (A.entry low_stat (ascii "T98")) behind
    ∷ comes t (next_entry v1) (w.done ++ counting 4 16 ++ behind) A.end behind
    ∷ comes t (next_entry v2) (w.dnt2 ++ counting 4 68 ++ counted ++ behind) (A.entry2 (low_stat2 0x0706_0504) (ascii "T98")) behind
    ∷ comes t (next_entry v2) (w.done ++ counting 4 72 ++ behind) A.end behind
    ∷ comes t next_chunk (w.«data» ++ counted ++ behind) (A.chunk (ascii "T98")) behind
    ∷ comes t next_chunk (w.done ++ counting 4 4 ++ behind) A.end behind
    ∷ comes t done_call (w.okay ++ counting 4 4 ++ behind) A.done behind
    -- FAIL, in every call that reads
    ∷ map (λ q. comes t q (w.fail ++ 3 ∷ 0 ∷ 0 ∷ 0 ∷ ascii "no!" ++ behind) (A.fail (ascii "no!")) behind) readers

-- "an id not allowed is 15 with its bytes, header left" (document 01): the four bytes that came
abbrev unexpected : Table → Call → (ids : List (List ℕ)) → List (Fact Reply)
unexpected t q ids = map (λ i. comes t q (i ++ counting 4 72) (A.unexpected i) (i ++ counting 4 72)) ids

-- every id of the table that the call does not read; with the ids moved these are published: "STAT" is no stat, "FAIL" no FAIL
abbrev foreign : Table → Spelling → List (Fact Reply)
foreign t w =
    unexpected t stat_call
    (w.sta2 ∷ w.list ∷ w.lis2 ∷ w.send ∷ w.snd2 ∷ w.recv ∷ w.rcv2 ∷ w.«data» ∷ w.done ∷ w.okay ∷ w.dent ∷ w.dnt2 ∷ w.quit ∷ [])
    ++ unexpected t stat2_call
    (w.stat ∷ w.list ∷ w.lis2 ∷ w.send ∷ w.snd2 ∷ w.recv ∷ w.rcv2 ∷ w.«data» ∷ w.done ∷ w.okay ∷ w.dent ∷ w.dnt2 ∷ w.quit ∷ [])
    ++ unexpected t (next_entry v1)
    (w.stat ∷ w.sta2 ∷ w.list ∷ w.lis2 ∷ w.send ∷ w.snd2 ∷ w.recv ∷ w.rcv2 ∷ w.«data» ∷ w.okay ∷ w.dnt2 ∷ w.quit ∷ [])
    ++ unexpected t (next_entry v2)
    (w.stat ∷ w.sta2 ∷ w.list ∷ w.lis2 ∷ w.send ∷ w.snd2 ∷ w.recv ∷ w.rcv2 ∷ w.«data» ∷ w.okay ∷ w.dent ∷ w.quit ∷ [])
    ++ unexpected t next_chunk (w.stat ∷ w.sta2 ∷ w.list ∷ w.lis2 ∷ w.send ∷ w.snd2 ∷ w.recv ∷ w.rcv2 ∷ w.okay ∷ w.dent ∷ w.dnt2 ∷ w.quit ∷ [])
    ++ unexpected t done_call
    (w.stat ∷ w.sta2 ∷ w.list ∷ w.lis2 ∷ w.send ∷ w.snd2 ∷ w.recv ∷ w.rcv2 ∷ w.«data» ∷ w.done ∷ w.dent ∷ w.dnt2 ∷ w.quit ∷ [])

-- the published ids, none of which is the table's
abbrev capitals : List (List ℕ)
capitals =
    ascii "STAT" ∷ ascii "STA2" ∷ ascii "LIST" ∷ ascii "LIS2" ∷ ascii "SEND" ∷ ascii "SND2" ∷ ascii "RECV" ∷ ascii "RCV2" ∷ ascii "DATA" ∷ ascii "DONE"
    ∷ ascii "OKAY" ∷ ascii "FAIL" ∷ ascii "DENT" ∷ ascii "DNT2" ∷ ascii "QUIT" ∷ []

abbrev published_replies : List (Fact Reply)
published_replies =
    unexpected low_table stat_call capitals
    ++ unexpected low_table stat2_call capitals
    ++ unexpected low_table (next_entry v1) capitals
    ++ unexpected low_table (next_entry v2) capitals
    ++ unexpected low_table next_chunk capitals
    ++ unexpected low_table done_call capitals

-- a push write that finds the channel closed: "a 14 is the answer, all else is 12" (document 01)
abbrev lost_on : Table → (unread : List ℕ) → Answer → (left : List ℕ) → List (Fact Reply)
lost_on t u a left =
    map (λ q. record { computed = plain_call (session t) (error 7) (broke closed) q u; paper = record { answer = a; unread = left } })
    (call (send path 1) ∷ call (snd2 path 1 0) ∷ call (chunk path) ∷ done_call ∷ [])

abbrev lost : List (Fact Reply)
lost =
    lost_on low_table (ascii "fail" ++ 3 ∷ 0 ∷ 0 ∷ 0 ∷ ascii "no!" ++ behind) (A.fail (ascii "no!")) behind
    ++ lost_on low_table (ascii "FAIL" ++ 3 ∷ 0 ∷ 0 ∷ 0 ∷ ascii "no!") (A.broken closed) (ascii "FAIL" ++ 3 ∷ 0 ∷ 0 ∷ 0 ∷ ascii "no!")
    ++ lost_on low_table (ascii "okay" ++ 3 ∷ 0 ∷ 0 ∷ 0 ∷ ascii "no!") (A.broken closed) (ascii "okay" ++ 3 ∷ 0 ∷ 0 ∷ 0 ∷ ascii "no!")
    ++ lost_on moved_table (ascii "DENT" ++ 3 ∷ 0 ∷ 0 ∷ 0 ∷ ascii "no!" ++ behind) (A.fail (ascii "no!")) behind
    ++ lost_on moved_table (ascii "FAIL" ++ 3 ∷ 0 ∷ 0 ∷ 0 ∷ ascii "no!") (A.broken closed) (ascii "FAIL" ++ 3 ∷ 0 ∷ 0 ∷ 0 ∷ ascii "no!")

abbrev pub answered_under : List (Fact Reply)
answered_under = told low_table low_letters ++ told moved_table moved_letters ++ foreign low_table low_letters ++ foreign moved_table moved_letters ++ published_replies ++ lost

-- ---- a list of calls: the table stays from one to the next ("A session keeps the table it opened with")

abbrev listed : Table → List Call → (unread : List ℕ) → List Answer → (W : List ℕ) → Fact Listed
listed t qs u answers w =
    record {
      computed = record { answers = plain_answers none (session t) (error 7) (anytimes qs) u; bytes = plain_writes none (session t) (anytimes qs) };
      paper = record { answers = answers; bytes = w };
    }

-- each of the eleven, and the steps of listings and pulls
abbrev calls : List Call
calls =
    stat_call
    ∷ stat2_call
    ∷ call (ask list path) ∷ next_entry v1 ∷ next_entry v1
    ∷ call (ask lis2 path) ∷ next_entry v2 ∷ next_entry v2
    ∷ call (ask recv path) ∷ next_chunk ∷ next_chunk
    ∷ call (rcv2 path 4) ∷ next_chunk
    ∷ call (send path 33188) ∷ call (chunk (ascii "xyz")) ∷ done_call
    ∷ call (snd2 path 33188 2) ∷ done_call
    ∷ call quit
    ∷ []

abbrev came : Spelling → List ℕ
came w =
    w.stat ++ counting 4 12
    ++ w.sta2 ++ replicate 4 0 ++ counting 8 64
    ++ w.dent ++ counting 4 12 ++ counted ++ w.done ++ replicate 16 0
    ++ w.dnt2 ++ counting 4 68 ++ counted ++ w.done ++ replicate 72 0
    ++ w.«data» ++ counted ++ w.done ++ replicate 4 0
    ++ w.fail ++ 3 ∷ 0 ∷ 0 ∷ 0 ∷ ascii "no!"
    ++ w.okay ++ replicate 4 0
    ++ w.fail ++ 3 ∷ 0 ∷ 0 ∷ 0 ∷ ascii "ro!"

abbrev answered : List Answer
answered =
    A.stat low_stat
    ∷ A.stat2 (low_stat2 0)
    ∷ A.done ∷ A.entry low_stat (ascii "T98") ∷ A.end
    ∷ A.done ∷ A.entry2 (low_stat2 0x0706_0504) (ascii "T98") ∷ A.end
    ∷ A.done ∷ A.chunk (ascii "T98") ∷ A.end
    ∷ A.done ∷ A.fail (ascii "no!")
    ∷ A.done ∷ A.done ∷ A.done
    ∷ A.done ∷ A.fail (ascii "ro!")
    ∷ A.done
    ∷ []

abbrev went : Spelling → List ℕ
went w =
    w.stat ++ 2 ∷ 0 ∷ 0 ∷ 0 ∷ path
    ++ w.sta2 ++ 2 ∷ 0 ∷ 0 ∷ 0 ∷ path
    ++ w.list ++ 2 ∷ 0 ∷ 0 ∷ 0 ∷ path
    ++ w.lis2 ++ 2 ∷ 0 ∷ 0 ∷ 0 ∷ path
    ++ w.recv ++ 2 ∷ 0 ∷ 0 ∷ 0 ∷ path
    ++ w.rcv2 ++ 2 ∷ 0 ∷ 0 ∷ 0 ∷ path ++ w.rcv2 ++ 4 ∷ 0 ∷ 0 ∷ 0 ∷ []
    ++ w.send ++ 8 ∷ 0 ∷ 0 ∷ 0 ∷ ascii "/a,33188"
    ++ w.«data» ++ 3 ∷ 0 ∷ 0 ∷ 0 ∷ ascii "xyz"
    ++ w.done ++ 5 ∷ 0 ∷ 0 ∷ 0 ∷ []
    ++ w.snd2 ++ 2 ∷ 0 ∷ 0 ∷ 0 ∷ path ++ w.snd2 ++ 0xa4 ∷ 0x81 ∷ 0 ∷ 0 ∷ 2 ∷ 0 ∷ 0 ∷ 0 ∷ []
    ++ w.done ++ 5 ∷ 0 ∷ 0 ∷ 0 ∷ []
    ++ w.quit ++ 0 ∷ 0 ∷ 0 ∷ 0 ∷ []

abbrev pub listed_under : List (Fact Listed)
listed_under = listed low_table calls (came low_letters) answered (went low_letters) ∷ listed moved_table calls (came moved_letters) answered (went moved_letters) ∷ []
