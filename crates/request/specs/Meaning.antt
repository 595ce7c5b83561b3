-- Which of the protocol's requests a `Request` is, with what is lent beside it: its path, or its data.
-- Assumes nothing.
use Rattle.std.specs.Prelude.{ℕ, List}
use Rattle.protocol.specs.Messages as P
use Rattle.request.specs.declared.Request.{Request}
use Rattle.request.specs.declared.Request.TheVariants as R

abbrev pub meant : Request → List ℕ → P.Request
meant R.Stat lent = P.ask P.stat lent
meant R.Sta2 lent = P.ask P.sta2 lent
meant R.List lent = P.ask P.list lent
meant R.Lis2 lent = P.ask P.lis2 lent
meant R.Recv lent = P.ask P.recv lent
meant (R.Rcv2 flags) lent = P.rcv2 lent flags.0
meant (R.Send mode) lent = P.send lent mode.0
meant (R.Snd2 mode flags) lent = P.snd2 lent mode.0 flags.0
meant R.Data lent = P.chunk lent
meant (R.Done mtime) lent = P.done mtime
meant R.Quit lent = P.quit
