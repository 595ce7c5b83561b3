-- What the puts of a session come to. Assumes nothing.
use mathlib.Core.List.{List, ◌++◌}
use mathlib.Core.Path.{◌≡◌, sym, ap, ◌∙◌}
use Prim.Native.Nat.{ℕ}
use native.Mathlib.Omega.{arith}
use lib.ListN.{length, length-append}
use Rattle.protocol.specs.Bytes.{put}
use Rattle.record.specs.Fields.{fields, own_numbers, step_numbers, id_numbers, registers}
use Rattle.record.specs.Record.{size, words, stored}
use Rattle.record.proofs.Stored.{stored-length}
use Rattle.record.proofs.Numbers.{length-padded, own-length}
use Rattle.record.proofs.Words.{put_next, put_whole}
use Rattle.session.specs.declared.Session.{Session}

-- the registers of y, where x is y
pub registers-of : {A : Type 0} {x y : A} {l : List ℕ} (f : A → List ℕ) (b : List ℕ) → x ≡ y → l ≡ put b 96 (words (registers (f y)))
    → l ≡ put b 96 (words (registers (f x)))
registers-of f b e h = h ∙ ap (λ z. put b 96 (words (registers (f z)))) (sym e)

-- five numbers, and the registers behind them
pub step-put : {l₁ l₂ : List ℕ} (b ns r ms : List ℕ) → length b ≡ size → length ns ≡ 5
    → l₁ ≡ put b 56 (words ns) → l₂ ≡ put l₁ 96 (words (registers r)) → ns ++ registers r ≡ ms → l₂ ≡ put b 56 (words ms)
step-put b ns r ms e n p q h =
    put_next b 56 96 ns (registers r) p q (omega arith) (omega (arith, length-padded 12 r)) ∙ ap (λ (l : List ℕ). put b 56 (words l)) h

-- a session's own numbers, and its pending step's behind them, are the record
pub session-put : {l₁ l₂ l₃ : List ℕ} (b : List ℕ) (s : Session) → length b ≡ size
    → l₁ ≡ put b 0 (words (own_numbers s)) → l₂ ≡ put l₁ 56 (words (step_numbers s.pending)) → l₃ ≡ put l₂ 192 (words (id_numbers s.ids)) → l₃ ≡ stored s
unfolding stored fields
session-put b s e p q r =
    let n = own-length s s.pending in
    let o = length-append (own_numbers s) (step_numbers s.pending) in
    put_next b 0 192 (own_numbers s ++ step_numbers s.pending) (id_numbers s.ids)
    (put_next b 0 56 (own_numbers s) (step_numbers s.pending) p q (omega arith) (omega arith)) r (omega arith) (omega arith)
    ∙ put_whole b (words (fields s)) (omega (arith, stored-length s))
