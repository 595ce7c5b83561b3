-- What the program's functions come to, arm by arm. Assumes nothing.
use mathlib.Core.List.{List}
use mathlib.Core.Path.{◌≡◌, refl, sym, ap, ◌∙◌}
use Prim.Native.Nat.{ℕ}
use borrow.Author.Tests.{eq-eqb, ne_eqb}
use Rattle.session.specs.declared.Reply.{Reply}
use Rattle.session.specs.declared.Reply.TheVariants as R
use Rattle.session.specs.declared.Stepped.{Stepped}
use Rattle.session.specs.declared.Version.TheVariants.{V1}
use Rattle.session.specs.Calls.{entry_call}
use Rattle.session.specs.Reports.{report_read}
use Rattle.session.specs.State.{St, st, Out, out}
use Rattle.listing.specs.Steps.{Told, answer_of, told_by, ended_by, ended, first_out}

-- a step whose reply is q
pub told_of : (s : Stepped) (q : Reply) → s.reply ≡ q → (rx msg : List ℕ)
    → ◌≡◌ {A = Told} (record { st = st s.session rx msg; answer = answer_of q }) (told_by (out s rx msg))
told_of s q e rx msg = ap (λ (x : Reply). record { st = st s.session rx msg; answer = answer_of x }) (sym e)

pub ended_of : {t : Told} (o : Out) (q : Reply) → o.reply ≡ q → t ≡ ended_by o q → t ≡ ended o
unfolding ended
ended_of o q e h = h ∙ ap (ended_by o) (sym e)

-- a step that asks no read
pub ended-unasked : {t : Told} (o : Out) → ((at len : ℕ) → o.reply ≡ R.Read at len → ⊥) → t ≡ told_by o → t ≡ ended o
ended-unasked {t} o other h = go o.reply refl
  where
    go : (q : Reply) → o.reply ≡ q → t ≡ ended o
    go (R.Told a) e = ended_of o _ e h
    go (R.Read at len) e = absurd (other at len e)
    go (R.WriteRx at len) e = ended_of o _ e h
    go (R.WriteLent at len) e = ended_of o _ e h
    go (R.WriteBytes p) e = ended_of o _ e h
    go R.Close e = ended_of o _ e h

-- the first step, without input and with some
pub first-none : (s : St) (n : ℕ) → n ≡ 0 → first_out s n ≡ entry_call s V1 0
unfolding first_out
first-none s n e = rw (eq-eqb n 0 e)

pub first_some : (s : St) (n : ℕ) → (n ≡ 0 → ⊥) → first_out s n ≡ report_read (entry_call s V1 0).st 0 n
unfolding first_out
first_some s n e = rw (ne_eqb n 0 e)
