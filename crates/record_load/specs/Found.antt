-- What loading a record found.
-- Assumes nothing.
use Rattle.std.specs.Prelude.{Option, None, Some}
use Rattle.std.proofs.Math.Option as M
use Rattle.session.specs.declared.Session.{Session}

abbrev pub found : Option Session → M.Option Session
found (Some s) = M.some s
found None = M.none
