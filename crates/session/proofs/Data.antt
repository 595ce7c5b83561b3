-- A call that sends data: message by message, each of at most 65,536 bytes, as the plain reader cuts it.
-- Assumes nothing.
use Prim.Native.Nat.{ℕ, zero, suc, ◌+◌, ◌-◌, ◌*◌, ◌≤◌, ◌<◌, min}
use mathlib.Core.Bool.{Bool, true, false}
use mathlib.Core.List.{List, [], ◌∷◌, ◌++◌, append_assoc, append-nil}
use mathlib.Core.Path.{◌≡◌, refl, sym, ap, ◌∙◌}
use native.Mathlib.Decide.{dec_le}
use native.Mathlib.Omega.{arith}
use borrow.Author.Tests.{eq-eqb, ne_eqb}
use lib.ListN.{length, drop, length-take, length-drop}
use Rattle.protocol.specs.Bytes.{pick}
use Rattle.protocol.specs.Calls.{call, cut_by, chunks}
use Rattle.protocol.specs.Messages.{chunk, pieces, data_most}
use Rattle.protocol.specs.Reader.{Report, accepted, written}
use Rattle.request.specs.declared.Request.TheVariants as Q
use Rattle.session.specs.declared.Answer.TheVariants as A
use Rattle.session.specs.Faithful.{pieces_of, compacts}
use Rattle.session.specs.Host.{Host, World}
use Rattle.session.specs.Shown.{paper}
use Rattle.session.specs.State.{dialect_in, St, beside}
use Rattle.session.specs.Sends.{carried, sent, resumed}
use Rattle.session.proofs.Follows.{Breaks, told-ok}
use Rattle.session.proofs.Sends.{message-ok}
use Rattle.session.proofs.Site.{Site, free, all, rests, Goes, later, Mid, mid_at, LetIn, rests_is}
use Rattle.session.proofs.Turns.{held}
use Rattle.session.proofs.Writes.{take-taken, part-is, next, next-is, cut-none, cut-some}

pub data_compacts : (r : Report) (x : List ℕ) → 0 < length x → compacts r (call (chunk x)) ≡ true
data_compacts r [] h = absurd (omega arith)
data_compacts r (b ∷ x) h = refl

pub data_stays : (r : Report) (x : List ℕ) → length x ≡ 0 → compacts r (call (chunk x)) ≡ false
data_stays r [] h = refl
data_stays r (b ∷ x) h = absurd (omega arith)

-- a call that sends x
module _ (h : Host) (w : World) (s : St) (x : List ℕ) where
  abbrev pub sending : Site
  sending = record { host = h; world = w; state = s; call = call (chunk x) }

  -- the messages of what is left from `from` on, m of them at most, and their pieces
  abbrev left : ℕ → ℕ → List (List ℕ)
  left m from = cut_by m (drop from x)

  abbrev pieces-left : ℕ → ℕ → List (List ℕ)
  pieces-left m from = pieces_of (dialect_in s.ses) (free sending) (chunks (left m from))

  -- what is claimed of them
  abbrev pub Cuts : ℕ → ℕ → Type 0
  Cuts m from =
      (z f i : ℕ) (xs : List (List ℕ)) (t : St) → Mid sending z t → (length (drop from x) ≡ 0 → rests sending accepted ≡ z) → all sending ≡ xs ++ pieces-left m from → later sending + 5 * length (left m from) ≤ f
      → Goes sending f i xs [] (beside (sent t.ses t.rx Q.Data from (carried Q.Data from x)) t.msg)

  module _ (lets : LetIn sending) (live : s.ses.ended ≡ false) (breaks : 0 < length x → Breaks sending (length (held s)) (later sending) Q.Data) where
    data_none : (m from : ℕ) → length (drop from x) ≡ 0 → Cuts m from
    unfolding sent written paper
    data_none m from none z f i xs t y rest_at e l =
        let k : length (carried Q.Data from x) ≡ 0 = rw (part-is x from) (omega (arith, length-take data_most (drop from x))) in
        rw (eq-eqb (length (carried Q.Data from x)) 0 k)
        (told-ok sending lets refl f i xs [] t A.Done (omega arith) (mid_at sending t y (rest_at none))
        (sym (e ∙ ap (λ (b : List (List ℕ)). xs ++ pieces_of (dialect_in s.ses) (free sending) (chunks b)) (cut-none m (drop from x) none) ∙ append-nil xs)) refl)

    data_some : (m from : ℕ) → 0 < length (drop from x) → Cuts m (next x from) → Cuts (suc m) from
    unfolding sent resumed
    data_some m from p go z f i xs t y rest_at e l =
        let part : List ℕ = carried Q.Data from x in
        let ps : List (List ℕ) = pieces (dialect_in s.ses) (free sending) (chunk part) in
        let rest : List (List ℕ) = pieces-left m (next x from) in
        let n : length part ≡ min data_most (length x - from) = rw (part-is x from, length-take, length-drop) in
        let moves : rests sending accepted ≡ length (held s) = rests_is sending lets accepted ∙ ap (λ (b : Bool). pick b (length (held s)) s.ses.buf.tail) (data_compacts accepted x (omega (arith, length-drop from x))) in
        let k : length (left (suc m) from) ≡ suc (length (left m (next x from))) = ap length (cut-some m x from p) in
        let upto : all sending ≡ xs ++ ps ++ rest =
        e ∙ ap (λ (b : List (List ℕ)). xs ++ pieces_of (dialect_in s.ses) (free sending) (chunks b)) (cut-some m x from p) ∙ sym (append_assoc xs ps rest) in
        rw (ne_eqb (length part) 0 (omega (arith, length-drop from x)))
        (message-ok sending live Q.Data (length (held s)) (later sending + 5 * length (left m (next x from)))
        (λ f' i' xs' b' r' t' e' l'. breaks (omega (arith, length-drop from x)) f' i' xs' b' r' t' e' (omega arith))
        from part (omega (arith, length-drop from x)) (rw (part-is x from) (take-taken data_most (drop from x))) (xs ++ ps) rest upto
        (λ f' i' t' l' y'. go (length (held s)) f' i' (xs ++ ps) t' y' (λ _. moves) upto l') refl f i xs t refl (λ a is e d. (e, d)) (omega arith) y refl)

    pub data_ok : (m from : ℕ) → length (drop from x) ≤ m → Cuts m from
    data_ok zero from l = data_none zero from (omega arith)
    data_ok (suc m) from l = step (data_ok m (next x from)) (dec_le 1 (length (drop from x)))
      where
        step : (length (drop (next x from) x) ≤ m → Cuts m (next x from)) → Dec (1 ≤ length (drop from x)) → Cuts (suc m) from
        step go (yes p) = data_some m from p (go (rw (next-is x from) (omega (arith, length-drop data_most (drop from x)))))
        step go (no f) = data_none (suc m) from (omega arith)
