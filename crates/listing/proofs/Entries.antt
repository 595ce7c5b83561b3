-- The program's walk through the entries: the lines laid so far, and those that the plain reader has still to give. Assumes nothing.
use Prim.Native.Nat.{ℕ, zero, suc, ◌+◌, ◌*◌, ◌≤◌, ◌<◌}
use mathlib.Core.List.{List, [], ◌∷◌, ◌++◌, append_assoc}
use mathlib.Core.Path.{◌≡◌, refl, sym, ap, ◌∙◌, subst}
use native.Mathlib.Omega.{arith}
use lib.ListN.{length, take}
use lib.Seq.{length-take-le}
use Rattle.protocol.specs.Answers as P
use mathlib.Core.Option.{none}
use Rattle.protocol.specs.Calls.{anytimes}
use Rattle.protocol.specs.Reader.{Reply, plain_answers}
use Rattle.format_record.specs.Told.{told_stat}
use Rattle.format_record.specs.declared.StatV1.{StatV1}
use Rattle.listing_lines.specs.Lines.{entry_line, end_line, laid_in, entry_room, end_room, Laid}
use Rattle.listing_lines.proofs.Laws.{laid_none, laid-length, laid-laid, laid_of, entry_length_lem, end-length}
use Rattle.session_part.specs.Part.{handed}
use Rattle.session.specs.declared.Session.{Session}
use Rattle.session.specs.declared.Version.TheVariants.{V1}
use Rattle.session.specs.Calls.{entry_call}
use Rattle.session.specs.Shown.{paper}
use Rattle.session.specs.State.{st}
use Rattle.session.proofs.Turns.{held}
use Rattle.listing.specs.Listing.{lined, lines_of, steps, config, answers, listed}
use Rattle.listing.specs.Steps.{Told, told, ended, first_out, line_of, shown, Ready}
use Rattle.listing.specs.declared.Heard.{Heard}
use Rattle.listing.specs.declared.Line.{Line}
use Rattle.listing.specs.declared.Line.TheVariants as L
use Rattle.listing.proofs.Answers.{Fair, step-fair, entry-line, end_line_lem}
use Rattle.listing.proofs.Settled.{Settled, next-settled, first-settled}

-- the answer of a step
abbrev said : Told → P.Answer
said t = paper t.st.rx t.st.msg t.answer

module _ {c : ℕ} {u : List ℕ} {t : Told} (s : Settled c u t) where
  fair : Fair u (said t) (held t.st)
  fair = subst (λ (r : Reply). Fair u r.answer r.unread) s.same (step-fair c u)

  -- the plain reader's next answer is the step's
  answers_next : (k : ℕ) → answers c (suc k) u ≡ said t ∷ answers c k (held t.st)
  unfolding plain_answers
  answers_next k = ap (λ (r : Reply). r.answer ∷ plain_answers none (config c) (P.error 0) (anytimes (steps k)) r.unread) s.same

-- what is printed from a step on, and k more
abbrev pub ahead : ℕ → ℕ → Told → List ℕ
ahead c k t = lined (said t) (lines_of (answers c k (held t.st)))

pub listed-ahead : (c : ℕ) (u : List ℕ) (t : Told) → Settled c u t → listed c u ≡ ahead c (length u) t
unfolding listed
listed-ahead c u t s = ap lines_of (answers_next s (length u))

-- The walk, at a step that was settled on the unread bytes u: the text is laid, and what the plain reader has for u is still to be laid.
pub record Walk (c : ℕ) (target out₀ : List ℕ) (from : ℕ) (rx msg out : List ℕ) (at : ℕ) (h : Heard) : Type 0 where
  pub u : List ℕ
  pub k : ℕ
  pub text : List ℕ
  pub step : Settled c u (told h rx msg)
  pub more : length u < k
  pub whole : text ++ lines_of (answers c k u) ≡ target
  pub laid : Laid out₀ from text out at
  pub room : at + 2 * length u + end_room ≤ length out₀
  pub same : length out ≡ length out₀

pub walk_starts : (c : ℕ) (u out : List ℕ) (from : ℕ) (rx msg : List ℕ) (h : Heard) → Settled c u (told h rx msg) → from + 2 * length u + end_room ≤ length out
    → Walk c (ahead c (length u) (told h rx msg)) out from rx msg out from h
walk_starts c u out from rx msg h s r =
    record {
      u = u;
      k = suc (length u);
      text = [];
      step = s;
      more = omega arith;
      whole = ap lines_of (answers_next s (length u));
      laid = laid_none out from;
      room = r;
      same = refl;
    }

-- what is left to do: nothing at the end
abbrev pub rank : Line → ℕ → ℕ
rank (L.Entry s) n = suc n
rank (L.End n) m = 0

abbrev pub rank_of : Heard → List ℕ → List ℕ → ℕ
rank_of h rx msg = rank (line_of h.answer) (length (held (st h.session rx msg)))

pub rank_less : (c : ℕ) (u rx msg : List ℕ) (h : Heard) → Settled c u (told h rx msg) → rank_of h rx msg < suc (length u)
rank_less c u rx msg h s = go (line_of h.answer) refl
  where
    v : List ℕ
    v = held (st h.session rx msg)

    go : (l : Line) → line_of h.answer ≡ l → rank l (length v) < suc (length u)
    go (L.Entry t) e =
        let f = subst (λ (a : P.Answer). Fair u a v) (entry-line rx msg u v h.answer t (fair s) e) (fair s) in
        omega arith
    go (L.End n) e = omega arith

module _ {c : ℕ} {target out₀ : List ℕ} {from : ℕ} {rx msg out : List ℕ} {at : ℕ} {h : Heard} (w : Walk c target out₀ from rx msg out at h) where
  abbrev here : Told
  here = told h rx msg

  -- one answer more
  unfolds : (k : ℕ) (target text : List ℕ) → length w.u < k → text ++ lines_of (answers c k w.u) ≡ target
      → (j : ℕ) × ((k ≡ suc j) × (text ++ lined (said here) (lines_of (answers c j (held here.st))) ≡ target))
  unfolds zero target text l e = absurd (omega arith)
  unfolds (suc j) target text l e = (j, (refl, ap (λ (y : List P.Answer). text ++ lines_of y) (sym (answers_next w.step j)) ∙ e))

  within : from + length w.text ≤ length out₀
  within = omega (arith, w)

  -- an entry: its line is laid, and the next step is settled on what was left unread
  module _ (s : StatV1) (is : line_of h.answer ≡ L.Entry s) where
    abbrev name : List ℕ
    name = handed (said here)

    entry-is : said here ≡ P.entry (told_stat s) name
    entry-is = entry-line rx msg w.u (held here.st) h.answer s (fair w.step) is

    pub takes : length (held here.st) + (20 + length name) ≡ length w.u
    takes = subst (λ (a : P.Answer). Fair w.u a (held here.st)) entry-is (fair w.step)

    module _ (mode : s.mode.0 < 0x1_0000_0000) (size : s.size < 0x1_0000_0000) (mtime : s.mtime < 0x1_0000_0000) (rx' msg' out' : List ℕ) (at' : ℕ) (h' : Heard)
        (lays : ◌≡◌ {A = List ℕ × ℕ} (out', at') (shown out at (told_stat s) name))
        (goes : told h' rx' msg' ≡ ended (entry_call (st h.session rx msg) V1 0)) where
      abbrev line : List ℕ
      line = entry_line (told_stat s) name

      line-laid : Laid out at line out' at'
      line-laid = laid_of (entry_room name) out at line (omega (arith, w, takes)) lays

      next-step : Settled c (held here.st) (told h' rx' msg')
      next-step =
          subst (λ (t : Told). Settled c (held here.st) t) (sym goes)
          (subst (λ (d : ℕ). Settled d (held here.st) (ended (entry_call here.st V1 0))) w.step.size
          (next-settled here.st w.step.good w.step.still w.step.live w.step.own))

      pub walk_goes : Walk c target out₀ from rx' msg' out' at' h'
      unfolding lined
      walk_goes =
          let (j, (e, more)) = unfolds w.k target w.text w.more w.whole in
          let rest : List ℕ = lines_of (answers c j (held here.st)) in
          let fits : at + length line ≤ length out = omega (arith, w, takes, entry_length_lem (told_stat s) name mode size mtime) in
          record {
            u = held here.st;
            k = j;
            text = w.text ++ line;
            step = next-step;
            more = omega (arith, w, takes, e);
            whole = append_assoc w.text line rest ∙ ap (λ (a : P.Answer). w.text ++ lined a rest) (sym entry-is) ∙ more;
            laid = laid-laid w.laid within line-laid;
            room = omega (arith, w, takes, line-laid, entry_length_lem (told_stat s) name mode size mtime);
            same = laid-length line-laid fits ∙ w.same;
          }

      pub walk_falls : rank_of h' rx' msg' < rank_of h rx msg
      walk_falls =
          subst (λ (l : Line). rank_of h' rx' msg' < rank l (length (held here.st))) (sym is)
          (rank_less c (held here.st) rx' msg' h' next-step)

  -- the end: the text is whole
  pub walk_ends : (n : ℕ) → line_of h.answer ≡ L.End n → n < 0x1_0000_0000 → (out' : List ℕ) (r : ℕ)
      → ◌≡◌ {A = List ℕ × ℕ} (out', r) (laid_in end_room out at (end_line n)) → Laid out₀ from target out' r × (r ≤ length out')
  walk_ends n is small out' r lays =
      let (j, (e, more)) = unfolds w.k target w.text w.more w.whole in
      let l : Laid out at (end_line n) out' r = laid_of end_room out at (end_line n) (omega (arith, w)) lays in
      let last = end_line_lem rx msg w.u (held here.st) h.answer n (lines_of (answers c j (held here.st))) (fair w.step) is in
      let fits : at + length (end_line n) ≤ length out = omega (arith, w, end-length n small) in (
        subst (λ (m : List ℕ). Laid out₀ from m out' r) (ap (λ (y : List ℕ). w.text ++ y) (sym last) ∙ more) (laid-laid w.laid within l),
        omega (arith, l, laid-length l fits),
      )

-- ---- from the first step

module _ (s : Session) (rx msg : List ℕ) (n most from : ℕ) (ready : Ready s rx msg n most from) (rx₀ msg₀ : List ℕ) (h : Heard)
    (is : told h rx₀ msg₀ ≡ ended (first_out (st s rx msg) n)) (size : length rx₀ ≡ length rx) where
  first_step : Settled (length rx₀) (take n rx) (told h rx₀ msg₀)
  first_step =
      subst (λ (d : ℕ). Settled d (take n rx) (told h rx₀ msg₀)) (sym size)
      (subst (λ (t : Told). Settled (length rx) (take n rx) t) (sym (is ∙ ap (λ (x : Session). ended (first_out (st x rx msg) n)) ready.fresh))
      (first-settled rx msg ready.least ready.aside n ready.within))

  count : length (take n rx) ≡ n
  count = length-take-le n rx ready.within

  pub walk_first : (out : List ℕ) → length out ≡ most → Walk (length rx₀) (ahead (length rx₀) n (told h rx₀ msg₀)) out from rx₀ msg₀ out from h
  walk_first out e =
      subst (λ (k : ℕ). Walk (length rx₀) (ahead (length rx₀) k (told h rx₀ msg₀)) out from rx₀ msg₀ out from h) count
      (walk_starts (length rx₀) (take n rx) out from rx₀ msg₀ h first_step (omega (arith, ready, count)))

  pub listed-first : ahead (length rx₀) n (told h rx₀ msg₀) ≡ listed (length rx) (take n rx)
  listed-first =
      ap (λ (k : ℕ). ahead (length rx₀) k (told h rx₀ msg₀)) (sym count)
      ∙ sym (listed-ahead (length rx₀) (take n rx) (told h rx₀ msg₀) first_step)
      ∙ ap (λ (d : ℕ). listed d (take n rx)) size
