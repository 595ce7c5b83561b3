-- `panel_crossing::lent_len` meets its contract.
use native.Mathlib.Omega.{arith}
use lib.ListN.{length-take, length-drop}
use Rattle.panel_crossing.proofs.lent_len.Goals as goal

pub returns-then-bytes-lt-HEADER_SIZE : goal.returns-then-bytes-lt-HEADER_SIZE
returns-then-bytes-lt-HEADER_SIZE c = simp (length-take, length-drop) (omega arith)

pub returns-then-rest-n : goal.returns-then-rest-n
returns-then-rest-n c = simp (length-take, length-drop) (omega arith)

pub returns : goal.returns
returns c = simp (length-take, length-drop) (omega arith)
