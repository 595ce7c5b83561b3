-- The index at three replies: the hypotheses of its claim can be met, and what the exported functions then tell is what document 02 says.
-- Assumes nothing.
use Prim.Native.Nat.{ℕ, ◌≤◌}
use mathlib.Core.List.{List, [], ◌∷◌}
use mathlib.Core.Option.{some}
use mathlib.Core.Path.{◌≡◌, refl}
use native.Mathlib.Omega.{arith}
use lib.IntN.{pos}
use lib.ListN.{length}
use Rattle.protocol.specs.Bytes.{ascii, number_at}
use Rattle.boundary.specs.Heard.{done_heard, answer_heard, heard}
use Rattle.boundary.specs.Told.{out_size}
use Rattle.session.specs.Shown.{part_of}
use Rattle.time_index.specs.Claim.{Hears, AllKnown, afterwards, numbers_of, between_heard, latest_heard, Holding}
use Rattle.time_index.specs.Crossing.{cross_index_open}
use Rattle.time_index.specs.Index.{offered, has_room, taken, answered, inserted, in_time, keep, between, latest, held_after}
use Rattle.time_index.specs.Slots.{slots_size}
use Rattle.time_index.proofs.Index.{index_claim}
use Rattle.time_index.proofs.Known.{an_entry}
use Rattle.claims.specs.Jobs.{reply, told, entries, area, a, b, c}
use Rattle.claims.proofs.Applied.{below-bytes}

hears : Hears told entries
unfolding heard answer_heard done_heard part_of number_at
hears =
    (omega arith, (below-bytes (reply 5) refl, (refl, (omega arith, (below-bytes (reply 3) refl, (refl, (omega arith, (below-bytes (reply 5) refl, (refl, tt)))))))))

known : AllKnown entries
unfolding offered
known = (an_entry (pos 5) (ascii "a"), (an_entry (pos 3) (ascii "b"), (an_entry (pos 5) (ascii "c"), tt)))

-- whatever stood in the slots and in the slice of a reply
module _ (s : List ℕ) (size : length s ≡ slots_size) (out : List ℕ) (room : out_size ≤ length out) where
  abbrev slots : List ℕ
  slots = (afterwards (cross_index_open s 9).0 area told).0

  abbrev named : List ℕ
  named = (afterwards (cross_index_open s 9).0 area told).1

  held : Holding area (held_after 9 [] entries) slots named
  held = index_claim.holds s area size (omega arith) told entries hears known

  pub jobs_told : (numbers_of (cross_index_open s 9).0 area told ≡ 0 ∷ 0 ∷ 0 ∷ [])
      × (named ≡ ascii "abc......")
      × (between_heard slots named out (pos 3) (pos 5) ≡ some (b ∷ a ∷ c ∷ []))
      × (between_heard slots named out (pos 5) (pos 4) ≡ some [])
      × (latest_heard slots named out (pos 5) ≡ some (a ∷ []))
      × (latest_heard slots named out (pos 4) ≡ some (b ∷ []))
      × (latest_heard slots named out (pos 2) ≡ some [])
  unfolding offered has_room taken answered inserted in_time keep between latest
  jobs_told = (
    index_claim.answers s area size (omega arith) told entries hears known,
    held.area_names,
    held.between_told (pos 3) (pos 5) out room,
    held.between_told (pos 5) (pos 4) out room,
    held.latest_told (pos 5) out room,
    held.latest_told (pos 4) out room,
    held.latest_told (pos 2) out room,
  )
