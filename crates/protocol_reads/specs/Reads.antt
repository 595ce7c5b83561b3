-- How many reads the plain reader accepts, given how long each is (document 02, [8]). Nothing here knows of a session.
-- Assumes nothing.
use Rattle.std.specs.Prelude.{ℕ, ◌+◌, ◌-◌, ◌≤◌, ◌<◌, min, Bool, false, ◌||◌, List, [], ◌∷◌, ◌≡◌, eqb, ltb, length, take, drop}
use Rattle.std.proofs.Math.Option.{Option}
use Rattle.protocol.specs.Answers.{Answer, End, number}
use Rattle.protocol.specs.Bytes.{pick}
use Rattle.protocol.specs.Calls.{Call, Made}
use Rattle.protocol.specs.Hours.{Hours}
use Rattle.protocol.specs.Reader.{Prog, answer, need, skip, Config, Report, accepted, program, config_after, plain_call, plain_made}
use Rattle.protocol.specs.Refusal.{turned}

-- reads accepted; how many of the unread bytes have come then; the lengths of the reads that are still to be made
pub record Tally : Type 0 where
  pub reads : ℕ
  pub come : ℕ
  pub lengths : List ℕ

abbrev pub still : (come : ℕ) → (lengths : List ℕ) → Tally
still come ks = record { reads = 0; come = come; lengths = ks }

abbrev pub one_more : Tally → Tally
one_more t = record { reads = t.reads + 1; come = t.come; lengths = t.lengths }

-- "read until n are held": while fewer than n of the unread bytes have come and some are still to come, a read, of the next length
unfoldable pub reach : (n unread come : ℕ) → (lengths : List ℕ) → Tally
reach n unread come [] = still come []
reach n unread come (k ∷ ks) = pick (ltb come (min n unread)) (one_more (reach n unread (come + k) ks)) (still come (k ∷ ks))

-- .. and then
abbrev pub then : Tally → (ℕ → List ℕ → Tally) → Tally
then t f =
    let s = f t.come t.lengths in
    record { reads = t.reads + s.reads; come = s.come; lengths = s.lengths }

-- "A session asks for a read only at a need with n ≤ c, and only while it holds fewer than n bytes" (document 01)
unfoldable pub reads_of : (capacity : ℕ) → Prog → (unread : List ℕ) → (come : ℕ) → (lengths : List ℕ) → Tally
reads_of c (answer a) u come ks = still come ks
reads_of c (need n k) u come ks =
    pick (ltb c n) (still come ks)
    (then (reach n (length u) come ks) (λ come' ks'. pick (ltb (length u) n) (still come' ks') (reads_of c (k (take n u)) u come' ks')))
reads_of c (skip n p) u come ks = reads_of c p (drop n u) (come - n) ks

-- of a call, with r reported of its writes
abbrev pub call_reads : Config → Report → Call → List ℕ → (come : ℕ) → (lengths : List ℕ) → Tally
call_reads g r q u come ks = reads_of g.capacity (program g r q) u come ks

-- .. as it is made: one that the hours turn away reads nothing ([10])
abbrev pub made_reads : Option Hours → Config → Report → Made → List ℕ → (come : ℕ) → (lengths : List ℕ) → Tally
made_reads h g r m u come ks = pick (turned h g.setting m) (still come ks) (call_reads g r m.call u come ks)

-- a list of calls with all writes accepted: the reads of each. The lengths are those of all reads in turn, whichever call makes them.
unfoldable pub plain_reads : Option Hours → Config → End → List Made → List ℕ → (come : ℕ) → (lengths : List ℕ) → List ℕ
plain_reads h g e [] u come ks = []
plain_reads h g e (m ∷ ms) u come ks =
    let t = made_reads h g accepted m u come ks in
    t.reads ∷ plain_reads h (config_after g m.call) e ms (plain_made h g e m u).unread t.come t.lengths

-- ---- the ceiling

-- every read brings a byte
abbrev pub Positive : List ℕ → Type 0
Positive [] = Unit {0}
Positive (k ∷ ks) = (0 < k) × Positive ks

-- "ending in anything but 12 or 13"
abbrev pub by_link : Answer → Bool
by_link a = eqb (number a) 12 || eqb (number a) 13

abbrev pub OffLink : Answer → Type 0
OffLink a = by_link a ≡ false

-- "at most 8 more reads than bytes it consumed": consumed are those that were unread before, less those unread afterwards
abbrev pub Ceiling : Config → End → Report → Call → List ℕ → (reads : ℕ) → Type 0
Ceiling g e r q u n = OffLink (plain_call g e r q u).answer → n + length (plain_call g e r q u).unread ≤ length u + 8

-- of any call, on any bytes, any of which have come, whatever the reads
abbrev pub ReadsCeiling : Type 0
ReadsCeiling =
    (g : Config) (e : End) (r : Report) (q : Call) (u : List ℕ) (come : ℕ) (ks : List ℕ) → Positive ks → Ceiling g e r q u (call_reads g r q u come ks).reads
