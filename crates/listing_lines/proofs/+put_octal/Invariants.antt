-- The measure of `listing_lines::put_octal` is the number.
use Rattle.listing_lines.proofs.+put_octal.Given as goal

abbrev pub decreases-put_octal : goal.decreases-put_octal
decreases-put_octal l = l.n
