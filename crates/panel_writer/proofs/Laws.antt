-- Laws of bytes put one behind the other, and of what is said. Assumes nothing.
use mathlib.Core.Bool.{Bool, true, false, ◌&&◌, and-eq-true_iff}
use mathlib.Core.List.{List, ◌++◌}
use mathlib.Core.Path.{◌≡◌, refl, sym, ap, ◌∙◌}
use Prim.Native.Nat.{ℕ, ◌+◌, ◌≤◌, ◌<◌}
use native.Mathlib.Omega.{arith}
use borrow.Author.Tests.{leb-true, ltb-true, le-leb}
use lib.Dec.{leb}
use lib.ListN.{length, length-append}
use Rattle.std.specs.Prelude.{Option, Some, None}
use Rattle.protocol.specs.Bytes.{pick, over, put}
use Rattle.protocol.specs.Messages.{word}
use Rattle.protocol.proofs.Bytes.{put_in, put-put}
use Rattle.ids.specs.Ids.{number_of, dialect_of}
use Rattle.ids.specs.declared.Ids.{Ids}
use Rattle.panel_reply.specs.Replies as P
use Rattle.panel_reply.specs.Replies.{bytes_of_reply, behind_id, reply_id, with_length, fits32, is_short, spoken, written}
use Rattle.panel_writer.specs.Meaning.{meant, taken, answered, said}
use Rattle.panel_writer.specs.declared.Reply.{Reply}

-- bytes put behind bytes are put with them
pub put-behind : {l l' : List ℕ} (b : List ℕ) (at next : ℕ) (m n : List ℕ) → l ≡ put b at m → l' ≡ put l next n
    → at + length m ≡ next → next + length n ≤ length b → l' ≡ put b at (m ++ n)
put-behind b at next m n p q e h = q ∙ ap (λ (l : List ℕ). put l next n) p ∙ put-put b at next m n e h

-- the two cases of `taken`
module _ (t : Bool) (m out : List ℕ) where
  pub taken_out : t && leb (length m) (length out) ≡ false → (out, None) ≡ taken t m out
  unfolding taken
  taken_out e = rw e

  pub taken_in : {l : List ℕ} {n : ℕ} → t ≡ true → length m ≤ length out → l ≡ put out 0 m → n ≡ length m → ◌≡◌ {A = List ℕ × Option ℕ} (l, Some n) (taken t m out)
  unfolding taken
  taken_in e h p q = rw (e, le-leb (length m) (length out) h, p, q, put_in out 0 m (omega arith))

  -- with 0 for none it is what is written
  pub said-written : {l : List ℕ} {o : Option ℕ} → (l, o) ≡ taken t m out → said l o ≡ written t m out
  unfolding taken written
  said-written e = ap (λ (p : List ℕ × Option ℕ). said p.0 p.1) e ∙ go (t && leb (length m) (length out))
    where
      go : (b : Bool) → (λ (p : List ℕ × Option ℕ). said p.0 p.1) (pick b (over out 0 m, Some (length m)) (out, None)) ≡ pick b (over out 0 m, length m) (out, 0)
      go true = refl
      go false = refl

-- the test of `has_room`: k bytes and what is lent behind them
module _ (k : ℕ) (x out : List ℕ) {t : Bool} (test : t ≡ fits32 (length x) && leb (k + length x) (length out)) where
  held : t ≡ true → (fits32 (length x) ≡ true) × (leb (k + length x) (length out) ≡ true)
  held h = (and-eq-true_iff (fits32 (length x)) (leb (k + length x) (length out))).0 (sym test ∙ h)

  pub room : t ≡ true → (length x < 0x1_0000_0000) × (k + length x ≤ length out)
  room h = (ltb-true _ _ (held h).0, leb-true _ _ (held h).1)

  -- ... of which all but four are f, and four the count of what is lent
  module _ (f : List ℕ) (e : length f + 4 ≡ k) where
    all : length (f ++ with_length x) ≡ k + length x
    all = omega (arith, length-append f (with_length x), length-append (word (length x)) x)

    pub no_room : t ≡ false → (out, None) ≡ taken (fits32 (length x)) (f ++ with_length x) out
    no_room h = taken_out (fits32 (length x)) (f ++ with_length x) out (rw all (sym test ∙ h))

    pub counted-said : {l l' : List ℕ} (next : ℕ) → length f ≡ next → t ≡ true → l ≡ put out 0 f → l' ≡ put l next (with_length x)
        → ◌≡◌ {A = List ℕ × Option ℕ} (l', Some (k + length x)) (taken (fits32 (length x)) (f ++ with_length x) out)
    counted-said next g h p q =
        let r = room h in
        let n = length-append (word (length x)) x in
        taken_in (fits32 (length x)) (f ++ with_length x) out (held h).0 (omega (arith, all)) (put-behind out 0 next f (with_length x) p q (omega arith) (omega arith)) (sym all)

-- a reply said with its id by the number is answered
pub replied : {s : List ℕ × Option ℕ} {q : Reply} {n : ℕ} (ids : Ids) (r : Reply) (lent out : List ℕ) → q ≡ r → n ≡ number_of ids (reply_id (meant r lent))
    → s ≡ taken (is_short (meant r lent)) (word n ++ behind_id (meant r lent)) out → s ≡ answered (dialect_of ids) (meant q lent) out
replied ids r lent out e i h =
    h
    ∙ ap (λ (n : ℕ). taken (is_short (meant r lent)) (word n ++ behind_id (meant r lent)) out) i
    ∙ ap (λ (q : Reply). answered (dialect_of ids) (meant q lent) out) (sym e)

-- with 0 for none it is what is spoken
pub said-spoken : {l : List ℕ} {o : Option ℕ} (ids : Ids) (r : P.Reply) (out : List ℕ) → (l, o) ≡ answered (dialect_of ids) r out → said l o ≡ spoken (dialect_of ids) r out
said-spoken ids r out e = said-written (is_short r) (bytes_of_reply (dialect_of ids) r) out e
