-- The length of the piece that was last asked, by the number of a reply. Assumes nothing.
use Rattle.std.proofs.Common.{◌≡◌, ℕ, ◌+◌, ◌%◌, ◌<◌, ◌≤◌, Bool, true, false, eqb, List, length, take, drop, sym, refl, ◌∙◌, lt_of_not-le, arith, length-drop, length-take-le, ne_eqb}
use native.Mathlib.Decide.{dec_le, ℕ_discrete}
use Rattle.protocol.specs.Answers.{Answer}
use Rattle.protocol.specs.Bytes.{pick}
use Rattle.boundary.specs.Heard.{at, heard}
use Rattle.session.specs.Host.{Show, told}
use Rattle.totals.specs.Crossing.{piece_asked}
use Rattle.totals_step.specs.Settled.{asked_by}

-- what a host reads of the buffers alters nothing
pub asks-alike : (n : ℕ) (out rx msg : List ℕ) (b : ℕ) → asked_by n out b ≡ piece_asked (heard n out rx msg) b
unfolding asked_by heard
asks-alike n out rx msg b = go (eqb (n % 256) 0) _ _ _
  where
    go : (t : Bool) (x y : Answer) (z : Show) → piece_asked (pick t (told x) z) b ≡ piece_asked (pick t (told y) z) b
    go true x y z = refl
    go false x y z = refl

module _ (n : ℕ) (out : List ℕ) (b : ℕ) where
  on-told : n % 256 ≡ 0 → asked_by n out b ≡ b
  unfolding asked_by heard
  on-told e = rw e

  on_read_lem : n % 256 ≡ 1 → asked_by n out b ≡ b
  unfolding asked_by heard
  on_read_lem e = rw e

  on-rx : n % 256 ≡ 2 → asked_by n out b ≡ at out 1
  unfolding asked_by heard
  on-rx e = rw e

  on-lent : n % 256 ≡ 3 → asked_by n out b ≡ at out 1
  unfolding asked_by heard
  on-lent e = rw e

  -- told, or a read is asked: as it was
  pub asks_none : n % 256 < 2 → asked_by n out b ≡ b
  asks_none h = go (ℕ_discrete (n % 256) 0)
    where
      go : Dec (n % 256 ≡ 0) → asked_by n out b ≡ b
      go (yes e) = on-told e
      go (no f) = on_read_lem (omega arith)

  -- a part is asked to be written, some bytes, or none
  pub asks-part : 2 ≤ n % 256 → n % 256 < 4 → asked_by n out b ≡ at out 1
  asks-part g h = go (ℕ_discrete (n % 256) 2)
    where
      go : Dec (n % 256 ≡ 2) → asked_by n out b ≡ at out 1
      go (yes e) = on-rx e
      go (no f) = on-lent (omega arith)

  asks-bytes : n % 256 ≡ 4 → asked_by n out b ≡ length (take (at out 0) (drop 8 out))
  unfolding asked_by heard
  asks-bytes e = rw e

  -- as many bytes as are said, where they stand there
  pub asks-said : {k : ℕ} → n % 256 ≡ 4 → k ≡ at out 0 → 8 + at out 0 ≤ length out → k ≡ asked_by n out b
  asks-said e f h = f ∙ sym (asks-bytes e ∙ length-take-le (at out 0) (drop 8 out) (omega (arith, length-drop 8 out)))

  pub asks-close : 4 < n % 256 → asked_by n out b ≡ 0
  unfolding asked_by heard
  asks-close h =
      rw (
        ne_eqb (n % 256) 0 (λ e. omega arith),
        ne_eqb (n % 256) 1 (λ e. omega arith),
        ne_eqb (n % 256) 2 (λ e. omega arith),
        ne_eqb (n % 256) 3 (λ e. omega arith),
        ne_eqb (n % 256) 4 (λ e. omega arith),
      )

-- anything but a read is asked: whatever it was
pub asks-new : (n : ℕ) (out : List ℕ) (b c : ℕ) → 2 ≤ n % 256 → asked_by n out b ≡ asked_by n out c
asks-new n out b c h = go (dec_le (n % 256) 3) (ℕ_discrete (n % 256) 4)
  where
    go : Dec (n % 256 ≤ 3) → Dec (n % 256 ≡ 4) → asked_by n out b ≡ asked_by n out c
    go (yes g) d = asks-part n out b h (omega arith) ∙ sym (asks-part n out c h (omega arith))
    go (no g) (yes e) = asks-bytes n out b e ∙ sym (asks-bytes n out c e)
    go (no g) (no f) =
        let k = lt_of_not-le g in
        asks-close n out b (omega arith) ∙ sym (asks-close n out c (omega arith))
