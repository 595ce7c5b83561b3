-- The request that a call's number stands for, if it is one's.
-- Assumes nothing.
use Rattle.std.specs.Prelude.{Option, Some, None}
use Rattle.std.proofs.Math.Option as M
use Rattle.request.specs.declared.Request.{Request}

abbrev pub asked : Option Request → M.Option Request
asked (Some q) = M.some q
asked None = M.none
