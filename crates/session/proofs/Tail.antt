-- Tail through a call's reads: it moves forward with each, and to the front only when it meets the end.
-- Assumes nothing.
use Prim.Native.Nat.{ℕ, zero, suc, ◌+◌, ◌-◌, ◌≤◌}
use mathlib.Core.Bool.{Bool, true, false}
use mathlib.Core.List.{List, ◌++◌}
use mathlib.Core.Path.{◌≡◌, refl, sym, ap, ◌∙◌}
use native.Mathlib.Omega.{arith}
use borrow.Author.Tests.{le-ltb, ltb-false, ne_eqb}
use lib.Dec.{ltb}
use lib.ListN.{length}
use Rattle.protocol.specs.Bytes.{pick, over as laid}
use Rattle.protocol.specs.Reader.{Result}
use Rattle.recv_buf.specs.declared.RecvBuf.{RecvBuf}
use Rattle.recv_buf.proofs.Laws.{held-length, compacted-head}
use Rattle.session.specs.declared.Answer.TheVariants as A
use Rattle.session.specs.declared.Pending.{Pending}
use Rattle.session.specs.declared.Pending.TheVariants.{Idle, Reading, Writing, Closing}
use Rattle.session.specs.declared.Phase.{Phase}
use Rattle.session.specs.declared.Then.{Then}
use Rattle.session.specs.declared.Then.TheVariants.{Stop, Go}
use Rattle.session.specs.Faithful.{window_at}
use Rattle.session.specs.Phases.{wants}
use Rattle.session.specs.Reports.{read_in}
use Rattle.session.specs.State.{St, st, Out, out, answering, beside, half, Good}
use Rattle.session.specs.Steps.{reading, asked, over, on_hop, turned, followed, turn_of, hopped, pumped, read_on}
use Rattle.session.specs.Sends.{tidied}
use Rattle.session.proofs.Buf.{held-tidied, sound-of}
use Rattle.session.proofs.Turns.{held, Frame, Reached, Nearer, Waits, wanted, count, fine, good-turned, came, good-came}

-- compaction: tail behind the held bytes
pub tidied-tail : (s : St) → Good s → (tidied s).ses.buf.tail ≡ length (held s)
tidied-tail s g =
    ap (λ (c : RecvBuf). c.tail) (compacted-head s.rx s.ses.buf (sound-of s g)) ∙ sym (held-length s.rx s.ses.buf (sound-of s g))

-- tail, with a read pending or nothing, where it was at t and n bytes are held
abbrev pub tail_in : ℕ → Pending → (held tail : ℕ) → ℕ
tail_in c Idle n t = t
tail_in c (Reading p until lost) n t = window_at c n t
tail_in c (Writing q from k) n t = t
tail_in c (Closing failed code) n t = t

abbrev pub Tails : ℕ → ℕ → Out → Type 0
Tails c t o = o.st.ses.buf.tail ≡ tail_in c o.st.ses.pending (length (held o.st)) t

module _ (s : St) (p : Phase) (lost : Bool) (g : Good s) where
  asked-tail : Tails s.ses.capacity s.ses.buf.tail (beside (asked s.ses s.rx p lost) s.msg)
  unfolding asked
  asked-tail = go (ltb s.ses.buf.tail s.ses.capacity) refl
    where
      go : (b : Bool) → ltb s.ses.buf.tail s.ses.capacity ≡ b
          → Tails s.ses.capacity s.ses.buf.tail
          (beside
          (pick b (half (reading s.ses s.ses.buf.head s.ses.buf.tail p lost) s.rx)
          (half (reading s.ses (tidied s).ses.buf.head (tidied s).ses.buf.tail p lost) (tidied s).rx))
          s.msg)
      go true e = rw e
      go false e = rw e (tidied-tail s g ∙ ap length (sym (held-tidied s g)))

  module _ (r : Reached s.ses.capacity p) (k : St → Phase → Out)
      (ih : (s' : St) (q : Phase) → Good s' → Reached s'.ses.capacity q → Tails s'.ses.capacity s'.ses.buf.tail (k s' q)) where
    follow-tail : (s' : St) (h b : ℕ) (t : Then) → Good s' → Nearer s'.ses.capacity h b t
        → Tails s'.ses.capacity s'.ses.buf.tail (on_hop k (followed s' t))
    follow-tail s' h b (Stop a) g' l = refl
    follow-tail s' h b (Go q) g' l = ih s' q g' l.1

    hop-tail : Tails s.ses.capacity s.ses.buf.tail (on_hop k (hopped s p lost))
    unfolding hopped
    hop-tail = go (ltb s.ses.capacity (wanted s p)) (ltb (count s) (wanted s p)) refl refl
      where
        go : (b₁ b₂ : Bool) → ltb s.ses.capacity (wanted s p) ≡ b₁ → ltb (count s) (wanted s p) ≡ b₂
            → Tails s.ses.capacity s.ses.buf.tail
            (on_hop k
            (pick b₁ (over (out (answering s.ses A.TooLarge) s.rx s.msg))
            (pick b₂ (over (beside (asked s.ses s.rx p lost) s.msg))
            (followed (turned s (turn_of s p)) (turn_of s p).then))))
        go true b₂ e₁ e₂ = refl
        go false true e₁ e₂ = asked-tail
        go false false e₁ e₂ =
            let f = ltb-false _ _ e₁ in
            let l = ltb-false _ _ e₂ in
            follow-tail (turned s (turn_of s p)) _ _ (turn_of s p).then (good-turned s p g r f l) (fine s p g r f l).nearer

pub pump_tail : (n : ℕ) (s : St) (p : Phase) (lost : Bool) → Good s → Reached s.ses.capacity p
    → Tails s.ses.capacity s.ses.buf.tail (pumped n s p lost)
unfolding pumped
pump_tail zero s p lost g r = asked-tail s p lost g
pump_tail (suc n) s p lost g r = hop-tail s p lost g r (λ s' q. pumped n s' q lost) (λ s' q g' r'. pump_tail n s' q lost g' r')

-- a read: bytes v came into the window, and any others lie behind them
module _ {φ : Frame} {F : List ℕ → Result} {lost : Bool} {s : St} {i n : ℕ} {p : Phase} (w : Waits φ F lost s i n p) (v junk : List ℕ)
    (some : 1 ≤ length v) (inside : i + length v + length junk ≤ s.ses.capacity) where
  pub stay-tail : Tails s.ses.capacity (i + length v)
      (read_in (st s.ses (laid s.rx i (v ++ junk)) s.msg) p (s.ses.buf.head + wants s.ses.capacity p) lost (length v))
  unfolding read_in
  stay-tail =
      rw (w.from, ne_eqb (length v) 0 (omega arith), le-ltb (s.ses.capacity - s.ses.buf.tail) (length v) (omega (arith, w)))
      (go (ltb t (s.ses.buf.head + wanted s p)) (ltb t s.ses.capacity) refl)
    where
      t : ℕ
      t = s.ses.buf.tail + length v

      on : Tails s.ses.capacity t (read_on (came s v junk) p lost)
      on = pump_tail 4 (came s v junk) p lost (good-came w v junk some inside) w.reached

      go : (b₁ b₂ : Bool) → ltb t s.ses.capacity ≡ b₂
          → Tails s.ses.capacity t
          (pick b₁
          (pick b₂ (beside (half (reading s.ses s.ses.buf.head t p lost) (came s v junk).rx) s.msg) (read_on (came s v junk) p lost))
          (read_on (came s v junk) p lost))
      go true true e = rw e
      go true false e = on
      go false b₂ e = on
