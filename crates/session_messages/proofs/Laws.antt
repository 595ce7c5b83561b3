-- The cases of what a message carries. Assumes nothing.
use Prim.Native.Nat.{ℕ, ◌-◌, min}
use mathlib.Core.Bool.{true, false}
use mathlib.Core.List.{List, []}
use mathlib.Core.Path.{◌≡◌, ◌∙◌}
use native.Mathlib.Omega.{arith}
use lib.ListN.{length, take, drop, length-drop}
use lib.Seq.{take_all}
use Rattle.std.proofs.lemmas.List.{take_min, drop_min}
use Rattle.protocol.specs.Messages.{data_most}
use Rattle.request.specs.declared.Request.{Request}
use Rattle.session.specs.Sends.{is_data, carried}

module _ (q : Request) (from : ℕ) (lent : List ℕ) where
  pub carried-all : is_data q ≡ false → lent ≡ carried q from lent
  unfolding carried
  carried-all e = rw e

  -- of data: behind `from`, and no more than a message takes
  pub carried-part : (i n : ℕ) → is_data q ≡ true → i ≡ min from (length lent) → n ≡ min data_most (length (take (length lent - i) (drop i lent)))
      → take n (take (length lent - i) (drop i lent)) ≡ carried q from lent
  unfolding carried
  carried-part i n e f g =
      let rest : take (length lent - i) (drop i lent) ≡ drop from lent =
      take_all (length lent - i) (drop i lent) (omega (arith, length-drop i lent)) ∙ rw f (drop_min from lent) in
      rw (g, rest, take_min data_most (drop from lent), e)
