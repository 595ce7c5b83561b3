-- Which of the panel's replies a `Reply` is, with what is lent beside it: an entry's name, a chunk's data, a FAIL's text.
-- Assumes nothing.
use Rattle.std.specs.Prelude.{ℕ, List, Bool, ◌&&◌, leb, length, Option, Some, None}
use Rattle.format_record.specs.Told.{told_stat, told_stat2}
use Rattle.protocol.specs.Bytes.{pick, over}
use Rattle.protocol.specs.Calls.{v1, v2}
use Rattle.protocol.specs.Ids.{Dialect}
use Rattle.panel_reply.specs.Replies as P
use Rattle.panel_reply.specs.Replies.{bytes_of_reply, is_short}
use Rattle.panel_writer.specs.declared.Reply.{Reply}
use Rattle.panel_writer.specs.declared.Reply.TheVariants as R

abbrev pub meant : Reply → List ℕ → P.Reply
meant (R.Stat s) lent = P.stat (told_stat s)
meant (R.StatV2 s) lent = P.stat2 (told_stat2 s)
meant (R.Entry s) lent = P.entry (told_stat s) lent
meant (R.EntryV2 s) lent = P.entry2 (told_stat2 s) lent
meant R.ListingEnd lent = P.listing_end v1
meant R.ListingEndV2 lent = P.listing_end v2
meant R.Chunk lent = P.chunk lent
meant R.TransferEnd lent = P.transfer_end
meant R.Okay lent = P.okay
meant R.Fail lent = P.fail lent

-- bytes at the front of a buffer, and how many: `written`, with none for its 0, "with nothing written", where a test fails or they do not fit
unfoldable pub taken : Bool → (m out : List ℕ) → List ℕ × Option ℕ
taken t m out = pick (t && leb (length m) (length out)) (over out 0 m, Some (length m)) (out, None)

-- a reply, and its length: `spoken`, with none for its 0, where it is not taken
abbrev pub answered : Dialect → P.Reply → List ℕ → List ℕ × Option ℕ
answered d r out = taken (is_short r) (bytes_of_reply d r) out

-- every byte of the lent buffer, and the length that is answered, or 0 for none: the laws `said-written` and `said-spoken` say that it is `written`, `spoken`
abbrev pub said : List ℕ → Option ℕ → List ℕ × ℕ
said out (Some n) = (out, n)
said out None = (out, 0)
