-- `request_reader::read_data` meets its contract.
use mathlib.Core.Path.{sym}
use borrow.Author.Tests.{le-leb, lt-leb}
use Rattle.protocol.specs.Requests.{bytes, arg_ok, following, body_of}
use Rattle.request_reader.proofs.Steps.{on-refused, on-more, on-whole}
use Rattle.request_reader.proofs.read_data.Goals as goal

pub returns-then-n-gt-MAX_DATA : goal.returns-then-n-gt-MAX_DATA
unfolding arg_ok
returns-then-n-gt-MAX_DATA c = sym (on-refused bytes _ _ (lt-leb _ _ c.if-n-gt-MAX_DATA.true))

pub returns-then-s-size : goal.returns-then-s-size
unfolding arg_ok following
returns-then-s-size c = sym (on-more bytes _ _ (le-leb _ _ c.if-n-gt-MAX_DATA.false) c.if-s-size.true)

pub returns : goal.returns
unfolding arg_ok following body_of
returns c = sym (on-whole bytes _ _ (le-leb _ _ c.if-n-gt-MAX_DATA.false) c.if-s-size.false)
