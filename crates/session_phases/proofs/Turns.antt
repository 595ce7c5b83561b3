-- The cases of a turn, and that it drops and keeps no more than was wanted. Assumes nothing.
use mathlib.Core.Bool.{Bool, true, false}
use mathlib.Core.List.{List}
use mathlib.Core.Path.{◌≡◌, sym, ap, ◌∙◌}
use Prim.Native.Nat.{ℕ, ◌+◌, ◌≤◌}
use native.Mathlib.Omega.{arith}
use borrow.Author.Tests.{le-leb}
use lib.ListN.{length, drop}
use Rattle.protocol.specs.Bytes.{pick, same}
use Rattle.protocol.specs.Ids.{Dialect, DATA, DONE, OKAY, FAIL}
use Rattle.protocol.specs.Records.{id_at, arg_at}
use Rattle.session.specs.declared.Phase.{Phase}
use Rattle.session.specs.declared.Phase.TheVariants.{Header, Stat, Entry, Last, NameV1, NameV2, Body, Text, Rest}
use Rattle.session.specs.declared.Turn.{Turn}
use Rattle.session.specs.declared.Version.{Version}
use Rattle.session.specs.declared.Version.TheVariants.{V1, V2}
use Rattle.session.specs.declared.Want.{Want}
use Rattle.session.specs.declared.Want.TheVariants as W
use Rattle.session.specs.Phases.{wants, stat_size_of, entry_size_of, stat_id_of, entry_id_of, proceed, headed, drained, turn_at, turn_in}

-- a case of a function by cases is taken
pub case : {A B : Type 0} {o : B} (f : A → B) {p q : A} → p ≡ q → o ≡ f q → o ≡ f p
case f e h = h ∙ sym (ap f e)

pub stat_size-small : (v : Version) → stat_size_of v ≤ 76
stat_size-small V1 = omega arith
stat_size-small V2 = omega arith

pub entry-size_small : (v : Version) → entry_size_of v ≤ 76
entry-size_small V1 = omega arith
entry-size_small V2 = omega arith

-- where the bytes are held, the turn is the phase's
pub turn_in_lem : (δ : Dialect) (c : ℕ) (p : Phase) (rx : List ℕ) (i : ℕ) → i + wants c p ≤ length rx → turn_in δ c p rx i ≡ turn_at δ c p rx i
unfolding turn_in
turn_in_lem δ c p rx i h = simp (le-leb _ _ h)

-- drops and keeps at most n bytes
abbrev Within : ℕ → Turn → Type 0
Within n t = (t.drops ≤ n) × (t.keeps ≤ n)

either : (n : ℕ) (b : Bool) (t u : Turn) → Within n t → Within n u → Within n (pick b t u)
either n true t u g h = g
either n false t u g h = h

proceed-within : (δ : Dialect) (w : Want) (id : List ℕ) (arg : ℕ) → Within 8 (proceed δ w id arg)
proceed-within δ (W.Stat v) id arg = either 8 (same id (δ.bytes (stat_id_of v))) _ _ (omega arith) (omega arith)
proceed-within δ (W.Entry v) id arg =
    either 8 (same id (δ.bytes (entry_id_of v))) _ _ (omega arith) (either 8 (same id (δ.bytes DONE)) _ _ (omega arith) (omega arith))
proceed-within δ W.Chunk id arg = either 8 (same id (δ.bytes DATA)) _ _ (omega arith) (either 8 (same id (δ.bytes DONE)) _ _ (omega arith) (omega arith))
proceed-within δ W.Okay id arg = either 8 (same id (δ.bytes OKAY)) _ _ (omega arith) (omega arith)
proceed-within δ W.Nothing id arg = omega arith

turn_within : (δ : Dialect) (c : ℕ) (p : Phase) (rx : List ℕ) (i : ℕ) → Within (wants c p) (turn_at δ c p rx i)
unfolding wants turn_at headed drained
turn_within δ c (Header w) rx i = either 8 (same (id_at (drop i rx)) (δ.bytes FAIL)) _ _ (omega arith) (proceed-within δ w (id_at (drop i rx)) (arg_at (drop i rx)))
turn_within δ c (Stat V1) rx i = omega arith
turn_within δ c (Stat V2) rx i = omega arith
turn_within δ c (Entry V1) rx i = omega arith
turn_within δ c (Entry V2) rx i = omega arith
turn_within δ c (Last v) rx i = omega arith
turn_within δ c (NameV1 d) rx i = omega arith
turn_within δ c (NameV2 d) rx i = omega arith
turn_within δ c (Body n) rx i = omega arith
turn_within δ c (Text n) rx i = omega arith
turn_within δ c (Rest left text) rx i = omega arith

-- a turn drops and keeps no more than was wanted
module _ (δ : Dialect) (c : ℕ) (p : Phase) (rx : List ℕ) (i : ℕ) where
  pub turn_drops : (turn_at δ c p rx i).drops ≤ wants c p
  turn_drops = (turn_within δ c p rx i).0

  pub turn_keeps : (turn_at δ c p rx i).keeps ≤ wants c p
  turn_keeps = (turn_within δ c p rx i).1
