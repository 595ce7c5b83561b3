-- The id of each request, and what composing a message leaves: the buffer, and how many bytes stand there. Assumes nothing.
use Rattle.std.specs.Prelude.{ℕ, ◌+◌, List, leb, length, Option, Some, None}
use Rattle.decimal.specs.Fitted.{fitted}
use Rattle.protocol.specs.Bytes.{pick, over, put}
use Rattle.protocol.specs.Ids.{Id, Dialect, under, STAT, STA2, LIST, LIS2, SEND, SND2, RECV, RCV2, DATA, DONE, QUIT}
use Rattle.protocol.specs.Messages.{word}
use Rattle.request.specs.declared.Request.{Request}
use Rattle.request.specs.declared.Request.TheVariants as Q

-- a message has one id, again inside RCV2 and SND2: it is put by its number, whichever of the fifteen it is
abbrev pub only : ℕ → Dialect
only n = under (λ i. word n)

-- which of the fifteen
abbrev pub asked : Request → Id
asked Q.Stat = STAT
asked Q.Sta2 = STA2
asked Q.List = LIST
asked Q.Lis2 = LIS2
asked Q.Recv = RECV
asked (Q.Rcv2 f) = RCV2
asked (Q.Send m) = SEND
asked (Q.Snd2 m f) = SND2
asked Q.Data = DATA
asked (Q.Done t) = DONE
asked Q.Quit = QUIT

-- m from at on, and its length; nothing altered, and none, where it does not fit
abbrev pub placed : List ℕ → ℕ → List ℕ → List ℕ × Option ℕ
placed b at m = (put b at m, fitted b at m)

-- m at the front, where rest bytes more fit behind it
unfoldable pub begun : List ℕ → ℕ → List ℕ → List ℕ × Option ℕ
begun b rest m = pick (leb (length m + rest) (length b)) (over b 0 m, Some (length m)) (b, None)
