-- The pieces of a message that goes out in pieces, as the code names them, and the bytes of each. Assumes nothing.
use Rattle.std.specs.Prelude.{ℕ, ◌+◌, ◌%◌, List, [], ◌∷◌, ◌++◌, eqb, length, drop, get_or}
use Rattle.std.proofs.Math.Option.{Option, none, some}
use Rattle.protocol.specs.Bytes.{pick}
use Rattle.protocol.specs.Decimal.{decimal}
use Rattle.protocol.specs.Messages.{comma, word}
use Rattle.request.specs.declared.Request.{Request}
use Rattle.request.specs.declared.Request.TheVariants as Q
use Rattle.request_piece.specs.declared.Piece.{Piece}
use Rattle.request_piece.specs.declared.Piece.TheVariants.{Header, Lent, Comma, Digits, Inner, Word, End}

-- the low 32 bits of a length
abbrev pub low32 : ℕ → ℕ
low32 n = n % 0x1_0000_0000

-- SEND counts path, comma and decimal mode
abbrev pub send_count : ℕ → ℕ → ℕ
send_count n mode = low32 (n + (1 + length (decimal mode)))

-- the arg of a request with n bytes lent beside it
abbrev pub arg_of : Request → ℕ → ℕ
arg_of Q.Stat n = low32 n
arg_of Q.Sta2 n = low32 n
arg_of Q.List n = low32 n
arg_of Q.Lis2 n = low32 n
arg_of Q.Recv n = low32 n
arg_of (Q.Rcv2 f) n = low32 n
arg_of (Q.Send m) n = send_count n m.0
arg_of (Q.Snd2 m f) n = low32 n
arg_of Q.Data n = low32 n
arg_of (Q.Done t) n = t
arg_of Q.Quit n = 0

-- its header, under an id's number
abbrev pub header_of : ℕ → Request → ℕ → Piece
header_of i q n = Header i (arg_of q n)

-- its parts: the first is what is lent; DONE and QUIT have none
abbrev pub parts_of : ℕ → Request → List Piece
parts_of i Q.Stat = Lent ∷ []
parts_of i Q.Sta2 = Lent ∷ []
parts_of i Q.List = Lent ∷ []
parts_of i Q.Lis2 = Lent ∷ []
parts_of i Q.Recv = Lent ∷ []
parts_of i (Q.Rcv2 f) = Lent ∷ Inner i ∷ Word f.0 ∷ []
parts_of i (Q.Send m) = Lent ∷ Comma ∷ Digits m ∷ []
parts_of i (Q.Snd2 m f) = Lent ∷ Inner i ∷ Word m.0 ∷ Word f.0 ∷ []
parts_of i Q.Data = Lent ∷ []
parts_of i (Q.Done t) = []
parts_of i Q.Quit = []

-- the pieces: no empty part is one
unfoldable pub piece_list : ℕ → Request → ℕ → List Piece
piece_list i q n = header_of i q n ∷ pick (eqb n 0) (drop 1 (parts_of i q)) (parts_of i q)

-- the k-th, from 0; End behind the last
unfoldable pub piece_of : ℕ → Request → ℕ → ℕ → Piece
piece_of i q n k = get_or (piece_list i q n) k End

-- the bytes of a piece that goes by value
abbrev pub by_value : Piece → List ℕ
by_value (Header i arg) = word i ++ word arg
by_value Lent = []
by_value Comma = comma
by_value (Digits m) = decimal m.0
by_value (Inner i) = word i
by_value (Word x) = word x
by_value End = []

-- the bytes of a piece, with what is lent; none for End
abbrev pub shown : List ℕ → Piece → Option (List ℕ)
shown lent (Header i arg) = some (by_value (Header i arg))
shown lent Lent = some lent
shown lent Comma = some (by_value Comma)
shown lent (Digits m) = some (by_value (Digits m))
shown lent (Inner i) = some (by_value (Inner i))
shown lent (Word x) = some (by_value (Word x))
shown lent End = none
