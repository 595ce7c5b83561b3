-- A stat's reply at the front of some bytes, as the code reads it and tells it. Assumes nothing.
use mathlib.Core.Bool.{true, false}
use mathlib.Core.List.{List, ◌∷◌}
use mathlib.Core.Path.{◌≡◌, refl, ap, ◌∙◌}
use Prim.Native.Nat.{ℕ, ◌≤◌, ◌<◌}
use borrow.Author.Tests.{le-leb, lt-leb}
use lib.ListN.{length}
use Rattle.protocol.specs.Bytes.{whole, number_at, put}
use Rattle.protocol.specs.Ids.{Dialect}
use Rattle.protocol.specs.Records.{u32_at, stat_at, stat2_at, stat2_body}
use Rattle.boundary.specs.Told.{stat_words, stat_v2_words, reply_bytes}
use Rattle.format_record.specs.Told.{told_stat, told_stat2, zero_stat, zero_stat2}
use Rattle.format_record.specs.declared.StatV1.{StatV1}
use Rattle.format_record.specs.declared.StatV2.{StatV2}
use Rattle.record.specs.Record.{words}
use Rattle.session.specs.Phases.{stat_size_of, stat_id_of}
use Rattle.session.specs.declared.Reply.TheVariants.{Told}
use Rattle.session.specs.declared.Version.{Version}
use Rattle.session.specs.declared.Version.TheVariants.{V1, V2}
use Rattle.fast_replies.specs.Direct.{heads, errorless, is_stat, stat_told}
use Rattle.fast_replies.proofs.Entries.{v1_words, v2_words}

-- the error stands behind the id
pub error-number : (x : List ℕ) → u32_at 4 x ≡ (stat2_at x).error
unfolding stat2_body number_at
error-number x = refl

-- the cases of `is_stat`
module _ (d : Dialect) (v : Version) (x : List ℕ) where
  pub stat-short : length x < stat_size_of v → false ≡ is_stat d v x
  unfolding is_stat
  stat-short h = rw (lt-leb (stat_size_of v) (length x) h)

  module _ (there : stat_size_of v ≤ length x) where
    pub stat-other : heads d (d.bytes (stat_id_of v)) x ≡ false → false ≡ is_stat d v x
    unfolding is_stat
    stat-other e = rw (le-leb (stat_size_of v) (length x) there, e)

    pub stat-fine : heads d (d.bytes (stat_id_of v)) x ≡ true → errorless v x ≡ is_stat d v x
    unfolding is_stat
    stat-fine e = rw (le-leb (stat_size_of v) (length x) there, e)

module _ (out x : List ℕ) {l : List ℕ} where
  pub v1_replied : (r : StatV1) → 16 ≤ length x → told_stat r ≡ whole 16 zero_stat stat_at x 0
      → l ≡ put out 0 (words (2 ∷ 0 ∷ 0 ∷ stat_words r)) → l ≡ put out 0 (reply_bytes (Told (stat_told V1 x)))
  unfolding reply_bytes
  v1_replied r h e p = p ∙ ap (λ (w : List ℕ). put out 0 (words (2 ∷ 0 ∷ 0 ∷ w))) (v1_words x r h e)

  pub v2_replied : (r : StatV2) → 72 ≤ length x → told_stat2 r ≡ whole 72 zero_stat2 stat2_at x 0
      → l ≡ put out 0 (words (3 ∷ 0 ∷ 0 ∷ stat_v2_words r)) → l ≡ put out 0 (reply_bytes (Told (stat_told V2 x)))
  unfolding reply_bytes
  v2_replied r h e p = p ∙ ap (λ (w : List ℕ). put out 0 (words (3 ∷ 0 ∷ 0 ∷ w))) (v2_words x r h e)
