-- Which of the panel's replies the one of a kind is, with what is lent beside it. Assumes nothing.
use Rattle.std.specs.Prelude.{ℕ, List, Option, Some, None}
use Rattle.std.proofs.Math.Option as M
use Rattle.panel_reply.specs.Replies as P
use Rattle.panel_writer.specs.Meaning.{meant}
use Rattle.panel_writer.specs.declared.Reply.{Reply}

abbrev pub given : Option Reply → List ℕ → M.Option P.Reply
given (Some q) lent = M.some (meant q lent)
given None lent = M.none
