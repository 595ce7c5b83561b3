-- The table in some settings, by its places and by its numbers. Assumes nothing.
use mathlib.Core.List.{List, [], ◌∷◌, map}
use mathlib.Core.Bool.{Bool, true, false}
use mathlib.Core.Path.{◌≡◌, refl, sym, ap, ◌∙◌}
use Rattle.std.specs.Prelude.{Result, Ok, Err}
use Prim.Native.Nat.{ℕ, zero, suc, ◌+◌, ◌*◌, ◌≤◌}
use native.Mathlib.Omega.{arith}
use lib.ListN.{length, take, drop}
use lib.Seq.{drop-drop}
use Rattle.protocol.specs.Bytes.{le, whole}
use Rattle.protocol.specs.Ids.{all}
use Rattle.protocol.specs.Records.{u32_at, u64_at}
use Rattle.protocol.proofs.Records.{u64_in}
use Rattle.ids.specs.Ids.{ids_of}
use Rattle.ids.specs.declared.Ids.{Ids}
use Rattle.id_table.specs.IdsFile.{count, IdsRead, ids, refused, are_values, two_equal, checked}
use Rattle.id_table.specs.Places.{groups, fault_of}
use Rattle.id_table.specs.Refusal.{number_of, answer_of}
use Rattle.id_table.specs.Settings.{settings_size, table_in}
use Rattle.id_table.specs.declared.IdsRefusal.{IdsRefusal}
use Rattle.id_table.specs.declared.IdsRefusal.TheVariants.{Misplaced, BadForm, EqualValues}
use Rattle.id_table.proofs.Form.{checked-bad, checked-equal, checked-good}
use Rattle.id_table.proofs.Groups.{word_in}

-- the fifteen of the settings, each at its place
abbrev places : (n k : ℕ) → List ℕ
places zero k = []
places (suc n) k = k ∷ places n (k + 4)

groups-places : (n k : ℕ) (s : List ℕ) → groups 4 n (drop k s) ≡ map (λ (j : ℕ). take 4 (drop j s)) (places n k)
unfolding groups
groups-places zero k s = refl
groups-places (suc n) k s = ap (λ (l : List (List ℕ)). take 4 (drop k s) ∷ l) (ap (groups 4 n) (drop-drop 4 k s) ∙ groups-places n (k + 4) s)

pub in_groups : (s : List ℕ) → map (table_in s) all ≡ groups 4 count s
in_groups s = sym (groups-places count 0 s)

-- two ids as one number
pub pair_in : (s : List ℕ) (off : ℕ) → off + 8 ≤ length s
    → whole 8 0 (u64_at 0) s off ≡ le (take 4 (drop off s)) + 0x1_0000_0000 * le (take 4 (drop (off + 4) s))
pair_in s off h = u64_in s off h ∙ rw (word_in s off (omega arith), word_in s (off + 4) (omega arith))

-- the eight numbers of the settings are those of their table
pub numbers-in : (s : List ℕ) → length s ≡ settings_size
    → ◌≡◌ {A = Ids}
    (record {
      stat = whole 8 0 (u64_at 0) s 0;
      list = whole 8 0 (u64_at 0) s 8;
      send = whole 8 0 (u64_at 0) s 16;
      recv = whole 8 0 (u64_at 0) s 24;
      «data» = whole 8 0 (u64_at 0) s 32;
      okay = whole 8 0 (u64_at 0) s 40;
      dent = whole 8 0 (u64_at 0) s 48;
      quit = whole 4 0 (u32_at 0) s 56;
    })
    (ids_of (table_in s))
numbers-in s e =
    cc (
      pair_in s 0 (omega arith),
      pair_in s 8 (omega arith),
      pair_in s 16 (omega arith),
      pair_in s 24 (omega arith),
      pair_in s 32 (omega arith),
      pair_in s 40 (omega arith),
      pair_in s 48 (omega arith),
      word_in s 56 (omega arith),
    )

-- what a fault says, by its number
pub refused-by : (vs : List (List ℕ)) (n : ℕ) → n ≡ fault_of (checked vs) → (n ≡ 0 → ⊥) → checked vs ≡ refused n
refused-by vs n e f = go (checked vs) e
  where
    go : (r : IdsRead) → n ≡ fault_of r → r ≡ refused n
    go (ids us) g = absurd (f g)
    go (refused k) g = ap refused (sym g)

pub taken-by : (vs : List (List ℕ)) (n : ℕ) → length vs ≡ count → n ≡ fault_of (checked vs) → n ≡ 0 → checked vs ≡ ids vs
taken-by vs n fifteen e z = go (are_values vs) refl (two_equal vs) refl
  where
    go : (t : Bool) → are_values vs ≡ t → (u : Bool) → two_equal vs ≡ u → checked vs ≡ ids vs
    go true h false k = checked-good vs fifteen h k
    go true h true k = absurd (omega (arith, ap fault_of (checked-equal vs fifteen h k)))
    go false h u k = absurd (omega (arith, ap fault_of (checked-bad vs h)))

some-number : (w : IdsRefusal) → number_of w ≡ 0 → ⊥
some-number Misplaced h = omega (arith, h)
some-number BadForm h = omega (arith, h)
some-number EqualValues h = omega (arith, h)

-- the same of what the code answers
module _ (vs : List (List ℕ)) (r : Result Unit IdsRefusal) (e : answer_of r ≡ fault_of (checked vs)) where
  pub refused_why : (why : IdsRefusal) → r ≡ Err why → checked vs ≡ refused (number_of why)
  refused_why why f = refused-by vs (number_of why) (ap answer_of (sym f) ∙ e) (some-number why)

  pub taken_ok : length vs ≡ count → (u : Unit) → r ≡ Ok u → checked vs ≡ ids vs
  taken_ok fifteen u f = taken-by vs 0 fifteen (ap answer_of (sym f) ∙ e) refl
