-- What `yuglasno_heard` comes to: the request reader, and where a request's path or data stands. Assumes nothing.
use Prim.Native.Nat.{ℕ, ◌+◌, ◌≤◌}
use mathlib.Core.List.{List, [], ◌∷◌, ◌++◌, append_assoc}
use mathlib.Core.Path.{◌≡◌, refl, ap, ◌∙◌}
use native.Mathlib.Omega.{arith}
use borrow.Author.Tests.{le-ltb}
use lib.Dec.{ltb}
use lib.ListN.{length, take, drop}
use lib.Seq.{take-append_seam}
use Rattle.protocol.specs.Bytes.{put}
use Rattle.protocol.specs.Calls.{call}
use Rattle.protocol.specs.Ids.{Id, Table, Legal, under, RCV2, SEND, SND2, DATA}
use Rattle.protocol.specs.Decimal.{decimal}
use Rattle.protocol.specs.Messages as Q
use Rattle.protocol.specs.Messages.{HostWrites, path_id, message_of, bytes_of_request, comma, joined, word}
use Rattle.protocol.specs.Records.{header_size}
use Rattle.protocol.specs.Requests.{Read, more, refused, request, read_request}
use Rattle.protocol.proofs.Bodies.{pick-cases}
use Rattle.protocol.proofs.Ids.{legal-sound}
use Rattle.protocol.proofs.Requests.{read_back_lem}
use Rattle.ids.specs.Ids.{dialect_of}
use Rattle.id_table.specs.Settings.{lent_in}
use Rattle.id_table.specs.Lent.{Lent}
use Rattle.id_table.specs.Lent as L
use Rattle.id_table.proofs.Laws.{id-tables}
use Rattle.record.specs.Record.{words}
use Rattle.session.specs.Host.{lent_of}
use Rattle.boundary.specs.Told.{out_size}
use Rattle.panel_side.specs.Crossing.{nothing, on_table, request_words, hearing, sliced, cross_heard}
use Rattle.panel_side.specs.ReadBack.{Lends}
use Rattle.panel_side.proofs.Replied.{is-four, behind-header}

pub hears_by : (settings : List ℕ) (t : Table) → Legal t → Lends settings t → (bytes out : List ℕ) → out_size ≤ length out
    → cross_heard settings bytes out ≡ hearing out (read_request (under t) bytes)
unfolding cross_heard
hears_by settings t legal lends bytes out h = rw (le-ltb _ _ h, lends, id-tables.dialect t legal)

pub hears : (settings : List ℕ) (t : Table) → Legal t → Lends settings t → (q : Q.Request) → HostWrites (under t) q → (rest out : List ℕ) → out_size ≤ length out
    → cross_heard settings (bytes_of_request (under t) q ++ rest) out ≡ (put out 0 (words (request_words q (length (bytes_of_request (under t) q)))), 0)
hears settings t legal lends q host rest out h =
    hears_by settings t legal lends (bytes_of_request (under t) q ++ rest) out h
    ∙ ap (hearing out) (read_back_lem (under t) (legal-sound t legal) (omega arith) q host rest)

-- ---- its path or data

-- the first part of a message
first_part : (t : Table) → Legal t → (i : Id) (n : ℕ) (p : List ℕ) (ps : List (List ℕ)) (rest : List ℕ)
    → take (length p) (drop header_size (((t i ++ word n) ++ joined (p ∷ ps)) ++ rest)) ≡ p
first_part t legal i n p ps rest =
    ap (λ (l : List ℕ). take (length p) (drop header_size (l ++ rest))) (append_assoc (t i) (word n) (p ++ joined ps))
    ∙ ap (take (length p)) (behind-header (t i) (p ++ joined ps) rest n (is-four (t i) ((legal-sound t legal).four i)) ∙ append_assoc p (joined ps) rest)
    ∙ take-append_seam p (joined ps ++ rest)

pub hears_lent : (t : Table) → Legal t → (q : Q.Request) (rest : List ℕ)
    → take (length (lent_of nothing (call q))) (drop header_size (bytes_of_request (under t) q ++ rest)) ≡ lent_of nothing (call q)
unfolding bytes_of_request message_of
hears_lent t legal (Q.ask i p) rest = first_part t legal (path_id i) (length p) p [] rest
hears_lent t legal (Q.rcv2 p f) rest = first_part t legal RCV2 (length p) p (t RCV2 ∷ word f ∷ []) rest
hears_lent t legal (Q.send p m) rest = first_part t legal SEND (length p + 1 + length (decimal m)) p (comma ∷ decimal m ∷ []) rest
hears_lent t legal (Q.snd2 p m f) rest = first_part t legal SND2 (length p) p (t SND2 ∷ word m ∷ word f ∷ []) rest
hears_lent t legal (Q.chunk x) rest = first_part t legal DATA (length x) x [] rest
hears_lent t legal (Q.done m) rest = refl
hears_lent t legal Q.quit rest = refl

-- ---- any other answer than 0 leaves every byte

module _ (out : List ℕ) where
  abbrev Stays : List ℕ × ℕ → Type 0
  Stays x = (x.1 ≡ 0 → ⊥) → x.0 ≡ out

  read_stays : (r : Read) → Stays (hearing out r)
  read_stays more f = absurd (f refl)
  read_stays refused f = refl
  read_stays (request q n) f = absurd (f refl)

  table_stays : (bytes : List ℕ) (l : Lent) → Stays (on_table (sliced out) (λ d. hearing out (read_request d bytes)) l)
  table_stays bytes (L.Ids t) f = read_stays (read_request (dialect_of t) bytes) f
  table_stays bytes (L.Refused n) f = refl

  pub hears_stays : (settings bytes : List ℕ) → Stays (cross_heard settings bytes out)
  unfolding cross_heard
  hears_stays settings bytes = pick-cases Stays (ltb (length out) out_size) (λ e f. refl) (λ e. table_stays bytes (lent_in settings))
