-- `listing::list` meets its contract: the heading, and the lines behind it.
use native.Mathlib.Omega.{arith}
use lib.ListN.{length}
use Rattle.listing_lines.specs.Lines.{heading, heading_room}
use Rattle.listing_lines.proofs.Laws.{heading-length, laid-length, laid-laid, laid_of}
use Rattle.listing.specs.Listing.{printed}
use Rattle.listing.proofs.Opening.{session-is, not-refused}
use Rattle.listing.proofs.list.Goals as goal

pub walk-requires : goal.walk-requires
walk-requires c =
    let a = c.args in
    let p = c.requires in
    let l = laid_of heading_room a.out.now 0 heading (omega (arith, p)) c.put_heading-from.ensures in
    let h = heading-length in
    record {
      fresh = session-is (length a.rx.now) (length a.msg.now) p.least p.aside _ c.published-ids.ensures c.open-opened.ensures c.in-Ok.is;
      least = p.least;
      aside = p.aside;
      within = p.within;
      room = omega (arith, p, l, h, laid-length l (omega (arith, p, h)));
    }

pub returns-in-Ok : goal.returns-in-Ok
unfolding printed
returns-in-Ok c =
    let a = c.args in
    let p = c.requires in
    let l = laid_of heading_room a.out.now 0 heading (omega (arith, p)) c.put_heading-from.ensures in
    let w = c.walk.ensures in
    (laid-laid l (omega (arith, p, heading-length)) w.0, w.1)

pub returns-in-Err : goal.returns-in-Err
returns-in-Err c =
    let a = c.args in
    absurd (not-refused (length a.rx.now) (length a.msg.now) c.requires.least c.requires.aside _ c.published-ids.ensures c.open-opened.ensures c.in-Err.is)
