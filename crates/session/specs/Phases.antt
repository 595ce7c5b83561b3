-- The phases: how many bytes each wants, and the turn it takes once they are held.
-- Assumes nothing.
use Rattle.std.specs.Prelude.{ℕ, ◌+◌, ◌-◌, min, List, eqb, leb, length, get_or, drop}
use Rattle.protocol.specs.Bytes.{pick, same}
use Rattle.protocol.specs.Ids.{Id, Dialect, STAT, STA2, DATA, DONE, OKAY, FAIL, DENT, DNT2}
use Rattle.protocol.specs.Records.{id_at, arg_at, stat_at, dent_at, stat2_at, dent2_at, Stat2}
use Rattle.format_record.specs.Told.{stat_of, dent_of, stat2_of, dent2_of}
use Rattle.session.specs.declared.Answer.{Answer}
use Rattle.session.specs.declared.Answer.TheVariants as A
use Rattle.session.specs.declared.Phase.{Phase}
use Rattle.session.specs.declared.Phase.TheVariants.{Header, Stat, Entry, Last, NameV1, NameV2, Body, Text, Rest}
use Rattle.session.specs.declared.Then.TheVariants.{Stop, Go}
use Rattle.session.specs.declared.Turn.{Turn}
use Rattle.session.specs.declared.Version.{Version}
use Rattle.session.specs.declared.Version.TheVariants.{V1, V2}
use Rattle.session.specs.declared.Want.{Want}
use Rattle.session.specs.declared.Want.TheVariants as W

abbrev pub stat_size_of : Version → ℕ
stat_size_of V1 = 16
stat_size_of V2 = 72

abbrev pub entry_size_of : Version → ℕ
entry_size_of V1 = 20
entry_size_of V2 = 76

-- how many bytes a phase wants, with capacity c
unfoldable pub wants : ℕ → Phase → ℕ
wants c (Header w) = 8
wants c (Stat v) = stat_size_of v
wants c (Entry v) = entry_size_of v
wants c (Last v) = entry_size_of v
wants c (NameV1 d) = d.namelen
wants c (NameV2 d) = d.namelen
wants c (Body n) = 8 + n
wants c (Text n) = min n c
wants c (Rest left text) = min left c

abbrev pub stopping : ℕ → Answer → Turn
stopping n a = record { drops = n; keeps = 0; then = Stop a }

abbrev pub going : ℕ → Phase → Turn
going n p = record { drops = n; keeps = 0; then = Go p }

-- ---- a header: its id's four bytes, and its arg; d says which ids are which

abbrev pub unexpected_of : List ℕ → Answer
unexpected_of id = A.Unexpected (get_or id 0 0) (get_or id 1 0) (get_or id 2 0) (get_or id 3 0)

abbrev pub strange : List ℕ → Turn
strange id = stopping 0 (unexpected_of id)

abbrev pub stat_id_of : Version → Id
stat_id_of V1 = STAT
stat_id_of V2 = STA2

abbrev pub entry_id_of : Version → Id
entry_id_of V1 = DENT
entry_id_of V2 = DNT2

abbrev pub proceed : Dialect → Want → List ℕ → ℕ → Turn
proceed d (W.Stat v) id arg = pick (same id (d.bytes (stat_id_of v))) (going 0 (Stat v)) (strange id)
proceed d (W.Entry v) id arg = pick (same id (d.bytes (entry_id_of v))) (going 0 (Entry v)) (pick (same id (d.bytes DONE)) (going 0 (Last v)) (strange id))
proceed d W.Chunk id arg = pick (same id (d.bytes DATA)) (going 0 (Body arg)) (pick (same id (d.bytes DONE)) (stopping 8 A.End) (strange id))
proceed d W.Okay id arg = pick (same id (d.bytes OKAY)) (stopping 8 A.Done) (strange id)
proceed d W.Nothing id arg = stopping 0 A.Closed

unfoldable pub headed : Dialect → Want → List ℕ → ℕ → Turn
headed d w id arg = pick (same id (d.bytes FAIL)) (going 8 (Text arg)) (proceed d w id arg)

-- ---- the other phases

abbrev pub stat_v2_answer : Stat2 → Answer
stat_v2_answer s = pick (eqb s.error 0) (A.StatV2 (stat2_of s)) (A.Errno s.error)

abbrev pub stat_turn : Version → List ℕ → Turn
stat_turn V1 x = stopping 16 (A.StatV1 (stat_of (stat_at x)))
stat_turn V2 x = stopping 72 (stat_v2_answer (stat2_at x))

abbrev pub entry_turn : Version → List ℕ → Turn
entry_turn V1 x = going 20 (NameV1 (dent_of (dent_at x)))
entry_turn V2 x = going 76 (NameV2 (dent2_of (dent2_at x)))

-- d bytes of a FAIL text are dropped, the first k of them kept; text is what was kept of it, left what is still to be dropped
unfoldable pub drained : ℕ → ℕ → ℕ → ℕ → Turn
drained d k left text = record { drops = d; keeps = k; then = pick (eqb left 0) (Stop (A.Fail text)) (Go (Rest left text)) }

-- the turn at a phase whose bytes are held from i on
unfoldable pub turn_at : Dialect → ℕ → Phase → List ℕ → ℕ → Turn
turn_at d c (Header w) rx i = headed d w (id_at (drop i rx)) (arg_at (drop i rx))
turn_at d c (Stat v) rx i = stat_turn v (drop i rx)
turn_at d c (Entry v) rx i = entry_turn v (drop i rx)
turn_at d c (Last v) rx i = stopping (entry_size_of v) A.End
turn_at d c (NameV1 e) rx i = stopping e.namelen (A.EntryV1 e.stat i e.namelen)
turn_at d c (NameV2 e) rx i = stopping e.namelen (A.EntryV2 e.stat i e.namelen)
turn_at d c (Body n) rx i = stopping (8 + n) (A.Chunk (i + 8) n)
turn_at d c (Text n) rx i = drained (min n c) (min n c) (n - min n c) (min n c)
turn_at d c (Rest left text) rx i = drained (min left c) 0 (left - min left c) text

-- ... and nothing where they are not
unfoldable pub turn_in : Dialect → ℕ → Phase → List ℕ → ℕ → Turn
turn_in d c p rx i = pick (leb (i + wants c p) (length rx)) (turn_at d c p rx i) (stopping 0 A.TooLarge)
