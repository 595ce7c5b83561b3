-- What is handed back is what demand 3's answers show. Assumes nothing.
use mathlib.Core.Bool.{Bool, true, false}
use mathlib.Core.List.{List, []}
use mathlib.Core.Path.{◌≡◌, refl, sym, ap, ◌∙◌}
use Prim.Native.Nat.{ℕ, ◌+◌, ◌≤◌, ◌<◌}
use borrow.Author.Tests.{le-leb, lt-leb}
use lib.Dec.{leb}
use lib.ListN.{length, take, drop}
use Rattle.protocol.specs.Answers as P
use Rattle.protocol.specs.Bytes.{pick}
use Rattle.format_record.specs.declared.StatV1.{StatV1}
use Rattle.format_record.specs.declared.StatV2.{StatV2}
use Rattle.session.specs.Shown.{part_of, paper}
use Rattle.session.specs.declared.Answer.{Answer}
use Rattle.session.specs.declared.Answer.TheVariants as A
use Rattle.session_part.specs.Part.{inside, handed}

-- a part that lies in its buffer, and one that does not
module _ (b : List ℕ) (at len : ℕ) where
  pub inside-in : (n : ℕ) → n ≡ len → at + len ≤ length b → take n (drop at b) ≡ inside b at len
  unfolding inside
  inside-in n e h = rw (le-leb _ _ h, e)

  pub inside-out : length b < at + len → inside b at len ≡ []
  unfolding inside
  inside-out h = rw (lt-leb _ _ h)

  -- `paper` takes the same part, and says 0 for one that does not lie in its buffer
  pub part-handed : (f : List ℕ → P.Answer) → ((x : List ℕ) → handed (f x) ≡ x) → handed (part_of b at len f) ≡ inside b at len
  unfolding inside part_of
  part-handed f h = go (leb (at + len) (length b))
    where
      go : (q : Bool) → handed (pick q (f (take len (drop at b))) (P.refused 0)) ≡ pick q (take len (drop at b)) []
      go true = h (take len (drop at b))
      go false = refl

-- What is handed back is all the bytes that an answer carries, but for an unexpected id's, which are told as numbers.
pub part-shown : (a : P.Answer) → ((i : List ℕ) → a ≡ P.unexpected i → ⊥) → handed a ≡ P.bytes a
part-shown P.done h = refl
part-shown P.end h = refl
part-shown (P.stat s) h = refl
part-shown (P.stat2 s) h = refl
part-shown (P.entry s name) h = refl
part-shown (P.entry2 s name) h = refl
part-shown (P.chunk b) h = refl
part-shown (P.refused n) h = refl
part-shown (P.missing f) h = refl
part-shown (P.broken e) h = refl
part-shown (P.fail t) h = refl
part-shown (P.unexpected i) h = absurd (h i refl)
part-shown (P.errno c) h = refl
part-shown P.too_large h = refl

-- an arm of a `match` on an answer
pub arm : {x y : Answer} {l : List ℕ} (rx msg : List ℕ) → x ≡ y → l ≡ handed (paper rx msg y) → l ≡ handed (paper rx msg x)
arm rx msg e h = h ∙ ap (λ (a : Answer). handed (paper rx msg a)) (sym e)

-- an answer that has no part
pub no_part : (rx msg : List ℕ) (a : Answer) → ((s : StatV1) (at len : ℕ) → a ≡ A.EntryV1 s at len → ⊥) → ((s : StatV2) (at len : ℕ) → a ≡ A.EntryV2 s at len → ⊥)
    → ((at len : ℕ) → a ≡ A.Chunk at len → ⊥) → ((len : ℕ) → a ≡ A.Fail len → ⊥) → [] ≡ handed (paper rx msg a)
unfolding paper
no_part rx msg (A.EntryV1 s at len) f g h k = absurd (f s at len refl)
no_part rx msg (A.EntryV2 s at len) f g h k = absurd (g s at len refl)
no_part rx msg (A.Chunk at len) f g h k = absurd (h at len refl)
no_part rx msg (A.Fail len) f g h k = absurd (k len refl)
no_part rx msg _ f g h k = refl
