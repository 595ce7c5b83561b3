-- The claim on the panel's side: what is said for it is what a session reads. Assumes nothing.
use Prim.Native.Nat.{ℕ, ◌≤◌}
use mathlib.Core.Bool.{and-eq-true_iff}
use mathlib.Core.List.{List, [], ◌++◌, append-nil}
use mathlib.Core.Path.{◌≡◌, refl, sym, ap, ap₂, ◌∙◌}
use native.Mathlib.Omega.{arith}
use lib.Dec.{leb}
use lib.ListN.{length}
use Rattle.protocol.specs.Answers.{Answer}
use Rattle.protocol.specs.Calls.{Made}
use Rattle.protocol.specs.Ids.{Table, Legal, under}
use Rattle.protocol.specs.Reader.{Report, plain_answers}
use Rattle.protocol.proofs.Ids.{legal-sound}
use Rattle.session.specs.Demand3.{Opening, System, Bound, Within, Claim, Side, AllWide, CodedReport, Demand3, reader, log_from}
use Rattle.panel_reply.specs.Replies.{Reply, bytes_of_reply, behind_id, is_short}
use Rattle.panel_side.specs.Crossing.{Spoken}
use Rattle.panel_side.specs.Claim.{IsReadBack, PanelClaim}
use Rattle.panel_side.specs.ReadBack.{Utterance, Says, says_none, says_next, sent_all, Dialogue, NoneRefused, Held}
use Rattle.panel_side.proofs.Dialogues.{AllGood, bytes_of_all, plain_left, dialogue_read, dialogue_left, log-left}
use Rattle.panel_side.proofs.Calls.{has_calls}
use Rattle.panel_side.proofs.Heard.{hears_by, hears, hears_lent, hears_stays}
use Rattle.panel_side.proofs.Spoken.{is-taken, is-untaken, numbered-back, told-short, no_table, no_reply_lem, speaks, unspoken, taken-zero, sent, stays, fits-given}

-- ---- what was said

sent-all : (t : Table) → Legal t → {us : List Utterance} {rs : List Reply} → Says t us rs → sent_all us ≡ bytes_of_all (under t) rs
sent-all t legal says_none = refl
sent-all t legal (says_next u r lends bytes narrow given zero-told more) =
    ap₂ (λ (x y : List ℕ). x ++ y) (sent u.settings t legal lends u.kind u.numbers u.lent u.out u.told r given zero-told narrow) (sent-all t legal more)

all-good : (t : Table) → Legal t → (c : ℕ) {us : List Utterance} {rs : List Reply} → Says t us rs → Held c rs → AllGood c rs
all-good t legal c says_none h = tt
all-good t legal c (says_next u r lends bytes narrow given zero-told more) h = (
  record {
    fits = fits-given u.kind u.numbers u.lent r bytes given;
    short = ((and-eq-true_iff (is_short r) (leb (length (bytes_of_reply (under t) r)) (length u.out))).0 (taken-zero u.settings t legal lends u.kind u.numbers u.lent u.out u.told r given zero-told)).0;
    held = h.0;
  },
  all-good t legal c more h.1,
)

-- ---- what is read

module _ {X : Type 0} (W : Bound) (S : System X) (claim : Claim W S) (o : Opening) (close : Report) (c : ℕ) (least : 8 ≤ c) (coded : CodedReport close) (us : List Utterance) (rs : List Reply) (says : Says o.table us rs)
    (held : Held c rs) (ms : List Made) (answers : List Answer) (made : Dialogue ms rs answers) (free : NoneRefused o.hours (reader o c close).setting ms)
    (wide : AllWide ms) (a : Side S c close) (rest : List ℕ) (comes : a.incoming ≡ sent_all us ++ rest) (within : Within W o.hours (reader o c close) ms a.incoming) where
  third : Demand3 S o close ms c c a a
  third = claim o close ms c c least (omega arith) coded wide a a [] (sym (append-nil a.incoming)) within within

  came : a.incoming ≡ bytes_of_all (under o.table) rs ++ rest
  came = comes ∙ ap (λ (l : List ℕ). l ++ rest) (sent-all o.table o.legal says)

  good : AllGood c rs
  good = all-good o.table o.legal c says held

  is-read_back : IsReadBack S o close ms c a answers rest
  is-read_back =
      record {
        opens = third.opens_a;
        reads =
            third.answers_a
            ∙ ap (plain_answers o.hours (reader o c close) a.host.end ms) came
            ∙ dialogue_read o.hours (reader o c close) (legal-sound o.table o.legal) least a.host.end rest made good free;
        leaves =
            log-left o.hours (reader o c close) a.host.end ms a.incoming (log_from S o ms a) third.reads_a third.ends_a
            ∙ ap (plain_left o.hours (reader o c close) a.host.end ms) came
            ∙ dialogue_left o.hours (reader o c close) (legal-sound o.table o.legal) least a.host.end rest made good free;
      }

-- of any system that demand 3 is claimed of
pub panel_claim : {X : Type 0} (W : Bound) (S : System X) → Claim W S → PanelClaim W S
unfolding behind_id
panel_claim W S claim =
    record {
      every_reply = numbered-back;
      only_fitting = fits-given;
      short_slice = told-short;
      no_table = no_table;
      no_reply_lem = no_reply_lem;
      refuses = λ settings t legal lends k numbers lent out told h r given long. unspoken settings t legal lends k numbers lent out told r given h (is-untaken (under t) (length out) r long);
      takes = λ settings t legal lends k numbers lent out told h r given fits.
          let e = speaks settings t legal lends k numbers lent out told r given h (is-taken (under t) (length out) r fits) in
          record { number = ap (λ (x : Spoken). x.number) e; said = ap (λ (x : Spoken). x.out) e; length_told = ap (λ (x : Spoken). x.told) e };
      stays = λ settings k numbers lent out told. stays out told settings k numbers lent;
      listing_zeros = λ d. refl;
      listing2_zeros = λ d. refl;
      end_zeros = λ d. refl;
      okay_zeros = λ d. refl;
      has_calls = has_calls;
      reads_back = is-read_back W S claim;
      hears_by = hears_by;
      hears = hears;
      hears_lent = hears_lent;
      hears_stays = λ settings bytes out. hears_stays out settings bytes;
    }
