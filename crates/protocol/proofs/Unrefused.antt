-- A call that is not refused writes messages that the host may write, so each of them is read back as meant (`read_back_lem`).
-- Assumes nothing.
use Prim.Native.Nat.{ℕ, zero, suc, ◌≤◌, ◌<◌, min}
use mathlib.Core.Bool.{Bool, true, false}
use mathlib.Core.List.{List, [], ◌∷◌}
use mathlib.Core.Option.{Option, none, some, none-ne-some}
use mathlib.Core.Path.{◌≡◌, refl, sym}
use native.Mathlib.Omega.{arith}
use borrow.Author.Tests.{ltb-false}
use lib.Dec.{ltb}
use lib.ListN.{length, drop, length-take}
use Rattle.protocol.specs.Answers.{Answer, refused}
use Rattle.protocol.specs.Bytes.{has}
use Rattle.protocol.specs.Calls.{Call, call, next_entry, next_chunk, cut, cut_by, chunks, messages}
use Rattle.protocol.specs.Refusal.{Setting, or_else, refuse, path_refusal, flag_refusal, transfer_refusal, ask_feature, request_refusal, refusal}
use Rattle.protocol.specs.Flags.{refused_flags}
use Rattle.protocol.specs.Ids.{Dialect}
use Rattle.protocol.specs.Messages.{Request, ask, rcv2, send, snd2, chunk, done, quit, PathOk, data_most}
use Rattle.protocol.specs.Unrefused.{Narrow, AllWritten}

-- none of two refusals
or_left : (a b : Option Answer) → or_else a b ≡ none → a ≡ none
or_left none b e = refl
or_left (some x) b e = e

or_right : (a b : Option Answer) → or_else a b ≡ none → b ≡ none
or_right none b e = e
or_right (some x) b e = absurd (none-ne-some x (sym e))

unrefused : (b : Bool) (a : Answer) → refuse b a ≡ none → b ≡ false
unrefused false a e = refl
unrefused true a e = absurd (none-ne-some a (sym e))

path-ok : (d : Dialect) (p : List ℕ) → path_refusal d p ≡ none → PathOk d p
unfolding path_refusal
path-ok d p e = go (has 0 p) (ltb d.longest (length p)) refl refl
  where
    go : (nul long : Bool) → has 0 p ≡ nul → ltb d.longest (length p) ≡ long → PathOk d p
    go false false z l = record { short = ltb-false _ _ l; no_nul = z }
    go false true z l = absurd (none-ne-some _ (sym (simp (z, l) at e)))
    go true false z l = absurd (none-ne-some _ (sym (simp (z, l) at e)))
    go true true z l = absurd (none-ne-some _ (sym (simp (z, l) at e)))

flags-ok : (pull : Bool) (f : ℕ) → flag_refusal pull f ≡ none → refused_flags pull f ≡ false
unfolding flag_refusal
flags-ok pull f e = unrefused _ (refused 9) e

-- path and flags of a transfer of version 2
transfer_ok : (g : Setting) (pull : Bool) (p : List ℕ) (f : ℕ)
    → or_else (path_refusal g.dialect p) (or_else (flag_refusal pull f) (transfer_refusal g.features f)) ≡ none
    → PathOk g.dialect p × (refused_flags pull f ≡ false)
transfer_ok g pull p f e =
    let v2 = or_else (flag_refusal pull f) (transfer_refusal g.features f) in
    let path = path_refusal g.dialect p in
    (path-ok _ p (or_left path v2 e), flags-ok pull f (or_left (flag_refusal pull f) (transfer_refusal g.features f) (or_right path v2 e)))

-- data in parts: none is empty, none is over 65,536
part-ok : (m n k : ℕ) → 0 < m → n ≡ min m (suc k) → (0 < n) × (n ≤ m)
part-ok m n k h e = (omega arith, omega arith)

parts-written : (d : Dialect) (f : ℕ) (x : List ℕ) → AllWritten d (chunks (cut_by f x))
parts-written d zero x = tt
parts-written d (suc f) [] = tt
parts-written d (suc f) (b ∷ x) = (part-ok data_most _ (length x) (omega arith) (length-take data_most (b ∷ x)), parts-written d f (drop data_most (b ∷ x)))

request-writes : (g : Setting) (q : Request) → request_refusal g q ≡ none → Narrow (call q) → AllWritten g.dialect (messages (call q))
unfolding request_refusal messages cut
request-writes g (ask i p) e n = (path-ok _ p (or_left (path_refusal g.dialect p) (ask_feature g.features i) e), tt)
request-writes g (rcv2 p f) e n = let t = transfer_ok g true p f e in ((t.0, (t.1, n)), tt)
request-writes g (send p m) e n = ((path-ok _ p e, n), tt)
request-writes g (snd2 p m f) e n = let t = transfer_ok g false p f e in ((t.0, (n.0, (t.1, n.1))), tt)
request-writes g (chunk x) e n = parts-written _ (length x) x
request-writes g (done t) e n = (n, tt)
request-writes g quit e n = (tt, tt)

pub unrefused-writes : (g : Setting) (q : Call) → refusal g q ≡ none → Narrow q → AllWritten g.dialect (messages q)
unfolding refusal messages
unrefused-writes g (call q) e n = request-writes g q (or_right (refuse g.ended (refused 6)) (request_refusal g q) e) n
unrefused-writes g (next_entry v) e n = tt
unrefused-writes g next_chunk e n = tt
