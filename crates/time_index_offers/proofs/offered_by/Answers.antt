-- `time_index_offers::offered_by` meets its contract: a law for each way out.
use native.Mathlib.Omega.{arith}
use borrow.Author.Rules.{rules}
use Rattle.time_index_offers.proofs.Laws.{offers-short, offers-other, offers-few, offers-many, Part, offers-out, offers-chunk, offers-entry2, offers-entry, offers-late}
use Rattle.time_index_offers.proofs.offered_by.Goals.{After-u64_at-len}
use Rattle.time_index_offers.proofs.offered_by.Goals as goal

-- where start and length were read
part : (b : After-u64_at-len) → Part b.args.told b.args.reply.now b.args.rx.now b.u64_at-kind.result b.u64_at-at.result b.u64_at-len.result
part b = search rules

pub returns-then-reply-lt-REPLY : goal.returns-then-reply-lt-REPLY
returns-then-reply-lt-REPLY c = (offers-short _ _ _ (omega arith), tt)

pub returns-then-told-ne0 : goal.returns-then-told-ne0
returns-then-told-ne0 c = (offers-other _ _ _ (omega arith) (λ e. omega arith), tt)

pub returns-then-kind-lt-ENTRY : goal.returns-then-kind-lt-ENTRY
returns-then-kind-lt-ENTRY c = (offers-few _ _ _ (omega arith) (omega arith) c.u64_at-kind.ensures (omega arith), tt)

pub returns-then-kind-gt-CHUNK : goal.returns-then-kind-gt-CHUNK
returns-then-kind-gt-CHUNK c = (offers-many _ _ _ (omega arith) (omega arith) c.u64_at-kind.ensures (omega arith), tt)

pub returns-then-rx-len : goal.returns-then-rx-len
returns-then-rx-len c = (offers-out (part (goal.at.returns-then-rx-len c).After-u64_at-len) (omega arith), tt)

pub returns-then-last-at : goal.returns-then-last-at
returns-then-last-at c = (offers-out (part (goal.at.returns-then-last-at c).After-u64_at-len) (omega arith), tt)

pub returns-then-kind-eq-CHUNK : goal.returns-then-kind-eq-CHUNK
returns-then-kind-eq-CHUNK c = (offers-chunk (part (goal.at.returns-then-kind-eq-CHUNK c).After-u64_at-len) (omega arith) (omega arith), tt)

pub returns-then-kind-eq-ENTRY_V2 : goal.returns-then-kind-eq-ENTRY_V2
returns-then-kind-eq-ENTRY_V2 c = (offers-entry2 (part (goal.at.returns-then-kind-eq-ENTRY_V2 c).After-u64_at-len) (omega arith) (omega arith) c.u64_at-time.ensures, omega arith)

pub returns-then-time-lt-V1_TIMES : goal.returns-then-time-lt-V1_TIMES
returns-then-time-lt-V1_TIMES c = (offers-entry (part (goal.at.returns-then-time-lt-V1_TIMES c).After-u64_at-len) (omega arith) (omega arith) c.u64_at-time-2.ensures (omega arith), omega arith)

pub returns : goal.returns
returns c = (offers-late (part (goal.at.returns c).After-u64_at-len) (omega arith) (omega arith) c.u64_at-time-2.ensures (omega arith), tt)
