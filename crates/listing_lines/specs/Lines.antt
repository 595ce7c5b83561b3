-- The lines of the program `listing` (document 01, "Trial pieces"): "a line of names, a line per entry (mode in octal, size and mtime in
-- decimal, name bytes in hexadecimal), then "end" and 0 or the answer's number. Fields are joined by commas; each line ends with a newline."
-- Assumes nothing.
use Rattle.std.specs.Prelude.{ℕ, ◌+◌, ◌*◌, ◌/◌, ◌%◌, List, [], ◌∷◌, ◌++◌, ◌≡◌, leb, length, get_or}
use Rattle.protocol.specs.Bytes.{pick, ascii, over}
use Rattle.protocol.specs.Decimal.{decimal}
use Rattle.protocol.specs.Modes.{octal}
use Rattle.protocol.specs.Records.{Stat}

-- a digit below 16
unfoldable pub hex_digit : ℕ → ℕ
hex_digit d = get_or (ascii "0123456789ABCDEF") d 0

-- two digits for each byte
abbrev pub hexadecimal : List ℕ → List ℕ
hexadecimal [] = []
hexadecimal (b ∷ bs) = hex_digit (b / 16) ∷ hex_digit (b % 16) ∷ hexadecimal bs

abbrev pub newline : List ℕ
newline = 10 ∷ []

unfoldable pub heading : List ℕ
heading = ascii "mode,size,mtime,name" ++ newline

abbrev pub numbers : (mode size mtime : ℕ) → List ℕ
numbers mode size mtime = octal mode ++ (ascii "," ++ decimal size) ++ (ascii "," ++ decimal mtime)

unfoldable pub entry_line : Stat → (name : List ℕ) → List ℕ
entry_line s name = numbers s.mode s.size s.mtime ++ (ascii "," ++ hexadecimal name ++ newline)

unfoldable pub end_line : (number : ℕ) → List ℕ
end_line number = ascii "end," ++ decimal number ++ newline

-- ---- a line laid into a buffer

-- the buffer with m laid over what stands from at on, and where m ends, where room bytes are free there; nothing where not
unfoldable pub laid_in : (room : ℕ) → List ℕ → ℕ → List ℕ → List ℕ × ℕ
laid_in room out at m = pick (leb (at + room) (length out)) (over out at m, at + length m) (out, at)

-- the most that a line can take
abbrev pub heading_room : ℕ
heading_room = 21

abbrev pub entry_room : List ℕ → ℕ
entry_room name = 35 + 2 * length name

abbrev pub end_room : ℕ
end_room = 15

-- last is out with m laid over what stands from at on, and m ends at end
pub record Laid (out : List ℕ) (at : ℕ) (m last : List ℕ) (end : ℕ) : Type 0 where
  pub bytes : last ≡ over out at m
  pub ends : end ≡ at + length m
