-- Facts on what the request reader answers: document 01's "one request and its length, "more", or 18", and the path or data behind the header.
-- Assumes nothing.
use Rattle.std.specs.Prelude.{ℕ, List, [], ◌∷◌, ◌++◌, Result, Ok, Err}
use Rattle.protocol.specs.Bytes.{ascii}
use Rattle.protocol.specs.Fact.{Fact}
use Rattle.protocol.specs.Messages.{ask, stat, chunk}
use Rattle.protocol.specs.Requests as P
use Rattle.request.specs.declared.Request.TheVariants as Q
use Rattle.request_reader.specs.Meaning.{number, told}
use Rattle.request_reader.specs.declared.Heard.{Heard}
use Rattle.request_reader.specs.declared.Unread.{Unread}
use Rattle.request_reader.specs.declared.Unread.TheVariants.{More, Refused}

abbrev numbered : Result Heard Unread → ℕ → Fact ℕ
numbered r n = record { computed = number r; paper = n }

abbrev stat_heard : Heard
stat_heard = record { request = Q.Stat; lent = 2; size = 10 }

abbrev data_heard : Heard
data_heard = record { request = Q.Data; lent = 3; size = 11 }

abbrev pub numbers : List (Fact ℕ)
numbers = numbered (Err Refused) 18 ∷ numbered (Err More) 0 ∷ numbered (Ok stat_heard) 0 ∷ []

abbrev row : Result Heard Unread → P.Read → Fact P.Read
row r p = record { computed = told (ascii "STAT" ++ 2 ∷ 0 ∷ 0 ∷ 0 ∷ [] ++ ascii "/tmore") r; paper = p }

abbrev pub meanings : List (Fact P.Read)
meanings =
    row (Err Refused) P.refused
    ∷ row (Err More) P.more
    ∷ row (Ok stat_heard) (P.request (ask stat (ascii "/t")) 10)
    ∷ row (Ok data_heard) (P.request (chunk (ascii "/tm")) 11)
    ∷ []
