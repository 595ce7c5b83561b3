-- What is promised of the panel's side, as it crosses (document 02, [4]).
-- Assumes nothing.
use Rattle.std.specs.Prelude.{ℕ, ◌*◌, ◌≤◌, ◌<◌, ◌^◌, List, [], ◌∷◌, ◌++◌, map, true, ◌≡◌, length, take, drop, replicate}
use Rattle.std.proofs.Math.Option.{none, some}
use Rattle.protocol.specs.Answers.{Answer}
use Rattle.protocol.specs.Bytes.{Bytes, put}
use Rattle.protocol.specs.Calls.{v1, v2, call, Made}
use Rattle.protocol.specs.Features.{features_of}
use Rattle.protocol.specs.Ids.{Table, Legal, Dialect, under, DONE, OKAY}
use Rattle.protocol.specs.Messages as Q
use Rattle.protocol.specs.Messages.{HostWrites, bytes_of_request}
use Rattle.protocol.specs.Reader.{Report, plain_writes}
use Rattle.protocol.specs.Records.{Stat, Stat2, header_size}
use Rattle.protocol.specs.Requests.{read_request}
use Rattle.id_table.specs.Settings.{lent_in}
use Rattle.id_table.specs.Lent as L
use Rattle.record.specs.Narrow.{U32, U64, I64}
use Rattle.record.specs.Record.{words}
use Rattle.session.specs.Demand3.{Opening, System, Bound, Within, Side, AllWide, CodedReport, reader, log_from, answers_of}
use Rattle.session.specs.Host.{Entry, lent_of}
use Rattle.boundary.specs.Told.{out_size}
use Rattle.panel_reply.specs.Replies.{Reply, stat, stat2, entry, entry2, listing_end, chunk, transfer_end, okay, fail, bytes_of_reply, say_lent}
use Rattle.panel_side.specs.Crossing.{say_kind, say_numbers, reply_numbered, spoke, misplaced, long_reply, nothing, request_words, hearing, cross_speak, cross_heard}
use Rattle.panel_side.specs.ReadBack.{Utterance, Lends, Says, sent_all, read_as, Dialogue, NoneRefused, Held}

-- ---- a reply's numbers have the widths of their fields: every bit pattern of a field is such a number

pub record FitsStat (s : Stat) : Type 0 where
  pub mode : U32 s.mode
  pub size : U32 s.size
  pub mtime : U32 s.mtime

pub record FitsStat2 (s : Stat2) : Type 0 where
  pub error : U32 s.error
  pub dev : U64 s.dev
  pub ino : U64 s.ino
  pub mode : U32 s.mode
  pub nlink : U32 s.nlink
  pub uid : U32 s.uid
  pub gid : U32 s.gid
  pub size : U64 s.size
  pub atime : I64 s.atime
  pub mtime : I64 s.mtime
  pub ctime : I64 s.ctime

abbrev pub Fits : Reply → Type 0
Fits (stat s) = FitsStat s
Fits (stat2 s) = FitsStat2 s
Fits (entry s name) = FitsStat s
Fits (entry2 s name) = FitsStat2 s
Fits (listing_end v) = Unit {0}
Fits (chunk b) = Unit {0}
Fits transfer_end = Unit {0}
Fits okay = Unit {0}
Fits (fail t) = Unit {0}

-- ---- 20

-- "A reply that the buffer can't hold, data over 65,536 bytes, or a name or text of 2^32 bytes or more"
pub data TooLong (d : Dialect) (room : ℕ) : Reply → Type 0 where
  no_room : {r : Reply} → room < length (bytes_of_reply d r) → TooLong d room r
  much_data : {b : List ℕ} → 65536 < length b → TooLong d room (chunk b)
  long_name : {s : Stat} {name : List ℕ} → 2 ^ 32 ≤ length name → TooLong d room (entry s name)
  long_name2 : {s : Stat2} {name : List ℕ} → 2 ^ 32 ≤ length name → TooLong d room (entry2 s name)
  long_text : {t : List ℕ} → 2 ^ 32 ≤ length t → TooLong d room (fail t)

-- ---- what is written of a reply that is taken

-- its bytes at the front and the others as they were, its length in the slice
module _ (settings : List ℕ) (k : ℕ) (numbers lent out told : List ℕ) (m : List ℕ) where
  pub record Taken : Type 0 where
    pub number : (cross_speak settings k numbers lent out told).number ≡ 0
    pub said : (cross_speak settings k numbers lent out told).out ≡ m ++ drop (length m) out
    pub length_told : (cross_speak settings k numbers lent out told).told ≡ words (length m ∷ []) ++ drop 8 told

-- ---- reading back

-- what is left unread behind the calls of a log
abbrev pub left_after : List Entry → (incoming : List ℕ) → List ℕ
left_after [] u = u
left_after (e ∷ es) u = left_after es e.unread

module _ {X : Type 0} (S : System X) (o : Opening) (close : Report) (ms : List Made) (c : ℕ) (a : Side S c close) (answers : List Answer) (rest : List ℕ) where
  -- the session opens, its answers are these, and all that was said is read, and none of what is behind it
  pub record IsReadBack : Type 0 where
    pub opens : (S.opened a.x o a.rx a.msg).number ≡ 0
    pub reads : answers_of (log_from S o ms a) ≡ answers
    pub leaves : left_after (log_from S o ms a) a.incoming ≡ rest

-- ---- the claim: S is the system whose sessions read back, within the bound W ("those that read back under [4], are ones whose totals stay below
-- that": document 02, [7])

pub record PanelClaim {X : Type 0} (W : Bound) (S : System X) : Type 0 where
  -- every reply has its numbers, whatever the bits of its fields, whatever its name, data or text; and no other numbers are a reply's
  pub every_reply : (r : Reply) → Fits r → reply_numbered (say_kind r) (words (say_numbers r)) (say_lent r) ≡ some r
  pub only_fitting : (k : ℕ) (numbers lent : List ℕ) (r : Reply) → Bytes numbers → reply_numbered k numbers lent ≡ some r → Fits r
  -- what is answered, by cases: the slice for the length, the settings, the kind and its numbers ..
  pub short_slice : (settings : List ℕ) (k : ℕ) (numbers lent out told : List ℕ) → length told < out_size
      → cross_speak settings k numbers lent out told ≡ spoke out told misplaced
  pub no_table : (settings : List ℕ) (k : ℕ) (numbers lent out told : List ℕ) → out_size ≤ length told → (n : ℕ) → lent_in settings ≡ L.Refused n
      → cross_speak settings k numbers lent out told ≡ spoke out told n
  pub no_reply_lem : (settings : List ℕ) (t : Table) → Lends settings t → (k : ℕ) (numbers lent out told : List ℕ) → out_size ≤ length told
      → reply_numbered k numbers lent ≡ none → cross_speak settings k numbers lent out told ≡ spoke out told misplaced
  -- .. then 20 for a reply that is too long, "and nothing else"
  pub refuses : (settings : List ℕ) (t : Table) → Legal t → Lends settings t → (k : ℕ) (numbers lent out told : List ℕ) → out_size ≤ length told
      → (r : Reply) → reply_numbered k numbers lent ≡ some r → TooLong (under t) (length out) r → cross_speak settings k numbers lent out told ≡ spoke out told long_reply
  pub takes : (settings : List ℕ) (t : Table) → Legal t → Lends settings t → (k : ℕ) (numbers lent out told : List ℕ) → out_size ≤ length told
      → (r : Reply) → reply_numbered k numbers lent ≡ some r → (TooLong (under t) (length out) r → ⊥)
      → Taken settings k numbers lent out told (bytes_of_reply (under t) r)
  -- any other answer than 0 leaves every byte
  pub stays : (settings : List ℕ) (k : ℕ) (numbers lent out told : List ℕ) → ((cross_speak settings k numbers lent out told).number ≡ 0 → ⊥)
      → cross_speak settings k numbers lent out told ≡ spoke out told (cross_speak settings k numbers lent out told).number
  -- "All bytes after a DONE or OKAY id are zeros"
  pub listing_zeros : (d : Dialect) → bytes_of_reply d (listing_end v1) ≡ d.bytes DONE ++ replicate 16 0
  pub listing2_zeros : (d : Dialect) → bytes_of_reply d (listing_end v2) ≡ d.bytes DONE ++ replicate 72 0
  pub end_zeros : (d : Dialect) → bytes_of_reply d transfer_end ≡ d.bytes DONE ++ replicate 4 0
  pub okay_zeros : (d : Dialect) → bytes_of_reply d okay ≡ d.bytes OKAY ++ replicate 4 0
  -- "a fresh session with all seven features .., making the call each belongs to .., none refused": of every list of replies there are such calls,
  -- which write little
  pub has_calls : (o : Opening) → features_of o.banner ≡ replicate 7 true → (close : Report) (c : ℕ) (rs : List Reply)
      → (ms : List Made)
      × (Dialogue ms rs (map read_as rs) × (NoneRefused o.hours (reader o c close).setting ms × (AllWide ms × (length (plain_writes o.hours (reader o c close) ms) ≤ 8 * length rs))))
  -- any list of replies that are taken, any banner and table, any cuts, any bytes behind them, within the bound: a fresh session that makes
  -- their calls reads them, and no more
  pub reads_back : (o : Opening) (close : Report) (c : ℕ) → 8 ≤ c → CodedReport close
      → (us : List Utterance) (rs : List Reply) → Says o.table us rs → Held c rs
      → (ms : List Made) (answers : List Answer) → Dialogue ms rs answers → NoneRefused o.hours (reader o c close).setting ms → AllWide ms
      → (a : Side S c close) (rest : List ℕ) → a.incoming ≡ sent_all us ++ rest → Within W o.hours (reader o c close) ms a.incoming
      → IsReadBack S o close ms c a answers rest
  -- `yuglasno_heard` is the request reader, by the table in the settings: what is proved of that reader is proved of it ..
  pub hears_by : (settings : List ℕ) (t : Table) → Legal t → Lends settings t → (bytes out : List ℕ) → out_size ≤ length out
      → cross_heard settings bytes out ≡ hearing out (read_request (under t) bytes)
  -- .. so what a host writes is heard as it is meant, with any bytes behind it, and its path or data stands behind the header
  pub hears : (settings : List ℕ) (t : Table) → Legal t → Lends settings t → (q : Q.Request) → HostWrites (under t) q → (rest out : List ℕ) → out_size ≤ length out
      → cross_heard settings (bytes_of_request (under t) q ++ rest) out ≡ (put out 0 (words (request_words q (length (bytes_of_request (under t) q)))), 0)
  pub hears_lent : (t : Table) → Legal t → (q : Q.Request) (rest : List ℕ)
      → take (length (lent_of nothing (call q))) (drop header_size (bytes_of_request (under t) q ++ rest)) ≡ lent_of nothing (call q)
  pub hears_stays : (settings bytes out : List ℕ) → ((cross_heard settings bytes out).1 ≡ 0 → ⊥) → (cross_heard settings bytes out).0 ≡ out
