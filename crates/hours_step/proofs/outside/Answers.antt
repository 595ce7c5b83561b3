-- `hours_step::outside` meets its contract.
use Prim.Native.Nat.{ℕ, ◌-◌}
use mathlib.Core.List.{List}
use mathlib.Core.Bool.{true, and-true, and-false, not}
use mathlib.Core.Path.{◌≡◌, sym, ap, ◌∙◌}
use native.Mathlib.Omega.{arith}
use borrow.Author.Tests.{eq-eqb, ne_eqb, le-ltb}
use lib.ListN.{length, get_or, take, drop, length-drop}
use lib.Seq.{take_all, get_or-drop}
use Rattle.protocol.specs.Hours.{lets}
use Rattle.hours.specs.Slots.{hours_of}
use Rattle.totals.specs.Crossing.{record_size}
use Rattle.hours.specs.Settings.{hours_size, lets_in}
use Rattle.hours_totals.specs.Crossing.{timed_size, hours_at}
use Rattle.hours_step.proofs.outside.Goals as goal

-- the part behind a session with totals
module _ (rec : List ℕ) (here : length rec ≡ timed_size) (t : ℕ) where
  behind : lets_in (take (length rec - record_size) (drop record_size rec)) t ≡ lets (hours_at rec) t
  behind =
      ap (λ (l : List ℕ). lets_in l t) (take_all (length rec - record_size) (drop record_size rec) (omega (arith, length-drop record_size rec)))
      ∙ rw (le-ltb (length (drop record_size rec)) hours_size (omega (arith, here, length-drop record_size rec)))

-- "or none, when every moment will do"
none-there : (rec : List ℕ) (t : ℕ) → get_or rec record_size 0 ≡ 0 → lets (hours_at rec) t ≡ true
unfolding hours_of
none-there rec t e = rw (get_or-drop record_size rec 0 0 ∙ e)

pub returns-then-rec-eq0 : goal.returns-then-rec-eq0
returns-then-rec-eq0 c =
    let a = c.args in
    rw (none-there a.rec.now a.moment c.if-rec-eq0.true)

pub returns-then-call-eq-SEND : goal.returns-then-call-eq-SEND
returns-then-call-eq-SEND c =
    let a = c.args in
    rw (eq-eqb a.call 7 c.if-call-eq-SEND.true, and-true (not (lets (hours_at a.rec.now) a.moment)))
    (ap not (c.lets_in.ensures ∙ behind a.rec.now (omega arith) a.moment))

pub returns-then-call-eq-SND2 : goal.returns-then-call-eq-SND2
returns-then-call-eq-SND2 c =
    let a = c.args in
    rw (ne_eqb a.call 7 c.if-call-eq-SEND.false, eq-eqb a.call 8 c.if-call-eq-SND2.true, and-true (not (lets (hours_at a.rec.now) a.moment)))
    (ap not (c.lets_in-then-call-eq-SND2.ensures ∙ behind a.rec.now (omega arith) a.moment))

pub returns : goal.returns
returns c =
    let a = c.args in
    rw (ne_eqb a.call 7 c.if-call-eq-SEND.false, ne_eqb a.call 8 c.if-call-eq-SND2.false) (sym (and-false (not (lets (hours_at a.rec.now) a.moment))))
