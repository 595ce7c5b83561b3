-- The cases of opening into a record. Assumes nothing.
use mathlib.Core.List.{List}
use mathlib.Core.Path.{◌≡◌, sym, ap, ◌∙◌}
use Prim.Native.Nat.{ℕ, ◌≤◌, ◌<◌}
use borrow.Author.Tests.{lt-ltb, le-ltb, eq-eqb, ne_eqb}
use lib.Dec.{eqb}
use lib.ListN.{length}
use Rattle.protocol.specs.Bytes.{pick}
use Rattle.protocol.specs.Features.{features_of}
use Rattle.boundary.specs.Crossing.{opened_with, cross_open}
use Rattle.id_table.specs.Settings.{lent_in}
use Rattle.id_table.specs.Lent.{Lent}
use Rattle.id_table.specs.Lent as L
use Rattle.ids.specs.declared.Ids.{Ids}
use Rattle.record.specs.Record.{size, stored}
use Rattle.session.specs.Calls.{fresh, open_refusal}
use Rattle.session.specs.Core.{features_from}
use Rattle.session.specs.declared.Session.{Session}
use Rattle.boundary_step.specs.Opened.{open_crossed}

module _ (rec settings banner : List ℕ) (rx msg n : ℕ) (e : n ≡ open_refusal rx msg) where
  -- 1 or 2
  pub open_refused_lem : 0 < n → open_crossed rec n ≡ cross_open rec settings banner rx msg
  unfolding cross_open
  open_refused_lem h = rw (← e, lt-ltb 0 n h)

  module _ (z : n ≤ 0) where
    -- 3 for the record
    pub open_other : (length rec ≡ size → ⊥) → open_crossed rec 3 ≡ cross_open rec settings banner rx msg
    unfolding cross_open
    open_other h = rw (← e, le-ltb 0 n z, ne_eqb (length rec) size h)

    module _ (h : length rec ≡ size) (t : Lent) (f : t ≡ lent_in settings) where
      taken : opened_with rec (features_from (features_of banner)) rx msg t ≡ cross_open rec settings banner rx msg
      unfolding cross_open
      taken = rw (← e, le-ltb 0 n z, eq-eqb (length rec) size h, f)

      -- the settings are refused, or a fresh session is stored
      pub open_none : (k : ℕ) → t ≡ L.Refused k → open_crossed rec k ≡ cross_open rec settings banner rx msg
      open_none k g = ap (opened_with rec (features_from (features_of banner)) rx msg) (sym g) ∙ taken

      pub open_in : (ids : Ids) → t ≡ L.Ids ids → (s : Session) → s ≡ fresh rx msg (features_from (features_of banner)) ids
          → (rec' : List ℕ) → rec' ≡ pick (eqb (length rec) size) (stored s) rec → open_crossed rec' 0 ≡ cross_open rec settings banner rx msg
      open_in ids g s i rec' j =
          let k : rec' ≡ stored (fresh rx msg (features_from (features_of banner)) ids) = (rw (eq-eqb (length rec) size h) at j) ∙ ap stored i in
          rw k (ap (opened_with rec (features_from (features_of banner)) rx msg) (sym g) ∙ taken)
