-- An entry at the front of some bytes, as the code reads it and tells it. Assumes nothing.
use mathlib.Core.Bool.{true, false}
use mathlib.Core.List.{List, ◌∷◌}
use mathlib.Core.Path.{◌≡◌, refl, sym, ap, ◌∙◌}
use Prim.Native.Nat.{ℕ, ◌+◌, ◌-◌, ◌≤◌, ◌<◌}
use native.Mathlib.Omega.{arith}
use borrow.Author.Tests.{le-leb, lt-leb}
use lib.ListN.{length, take, drop}
use Rattle.protocol.specs.Bytes.{whole, number_at, put}
use Rattle.protocol.specs.Ids.{Dialect}
use Rattle.protocol.specs.Records.{Stat, Stat2, u32_at, stat_at, stat2_at, dent_at, dent2_at}
use Rattle.protocol.proofs.Bytes.{whole_in}
use Rattle.boundary.specs.Told.{stat_words, stat_v2_words, reply_bytes}
use Rattle.format_record.specs.Told.{told_stat, told_stat2, stat_of, stat2_of, zero_stat, zero_stat2}
use Rattle.format_record.specs.declared.StatV1.{StatV1}
use Rattle.format_record.specs.declared.StatV2.{StatV2}
use Rattle.record.specs.Record.{words}
use Rattle.recv_buf.specs.RecvBuf.{cursor, held_bytes}
use Rattle.recv_buf.proofs.Laws.{Sound, slice-part, held_in_lem, held-length}
use Rattle.session.specs.Phases.{entry_size_of, entry_id_of}
use Rattle.session.specs.declared.Reply.TheVariants.{Told}
use Rattle.session.specs.declared.Version.{Version}
use Rattle.session.specs.declared.Version.TheVariants.{V1, V2}
use Rattle.fast_record.specs.Standing.{number_in}
use Rattle.fast_replies.specs.Direct.{dialect_held, heads, held_in, name_length_of, entry_length, entry_in, entry_told}
use Rattle.fast_replies.proofs.Whole.{whole_of}

-- a number that the code reads
pub u32_read : (x : List ℕ) (off : ℕ) → off + 4 ≤ length x → whole 4 0 (u32_at 0) x off ≡ u32_at off x
unfolding number_at
u32_read x off h = whole_in 4 0 (u32_at 0) x off h

-- the length of the name is an entry's last number
pub name-number : (v : Version) (x : List ℕ) → u32_at (entry_size_of v - 4) x ≡ name_length_of v x
unfolding dent_at dent2_at
name-number V1 x = refl
name-number V2 x = refl

-- the cases of `entry_length`
module _ (d : Dialect) (v : Version) (x : List ℕ) where
  pub entry-short : length x < entry_size_of v → 0 ≡ entry_length d v x
  unfolding entry_length
  entry-short h = rw (lt-leb (entry_size_of v) (length x) h)

  module _ (there : entry_size_of v ≤ length x) where
    pub entry_other : heads d (d.bytes (entry_id_of v)) x ≡ false → 0 ≡ entry_length d v x
    unfolding entry_length
    entry_other e = rw (le-leb (entry_size_of v) (length x) there, e)

    pub entry-cut : heads d (d.bytes (entry_id_of v)) x ≡ true → length x < entry_size_of v + name_length_of v x → 0 ≡ entry_length d v x
    unfolding entry_length
    entry-cut e h = rw (le-leb (entry_size_of v) (length x) there, e, lt-leb (entry_size_of v + name_length_of v x) (length x) h)

    pub entry-all : heads d (d.bytes (entry_id_of v)) x ≡ true → entry_size_of v + name_length_of v x ≤ length x
        → entry_size_of v + name_length_of v x ≡ entry_length d v x
    unfolding entry_length
    entry-all e h = rw (le-leb (entry_size_of v) (length x) there, e, le-leb (entry_size_of v + name_length_of v x) (length x) h)

-- ---- the numbers of a stat, as they are told

pub v1_words : (x : List ℕ) (r : StatV1) → 16 ≤ length x → told_stat r ≡ whole 16 zero_stat stat_at x 0 → stat_words r ≡ stat_words (stat_of (stat_at x))
v1_words x r h e = ap (λ (s : Stat). stat_words (stat_of s)) (e ∙ whole_in 16 zero_stat stat_at x 0 h)

pub v2_words : (x : List ℕ) (r : StatV2) → 72 ≤ length x → told_stat2 r ≡ whole 72 zero_stat2 stat2_at x 0
    → stat_v2_words r ≡ stat_v2_words (stat2_of (stat2_at x))
v2_words x r h e = ap (λ (s : Stat2). stat_v2_words (stat2_of s)) (e ∙ whole_in 72 zero_stat2 stat2_at x 0 h)

module _ (out x : List ℕ) (at len : ℕ) {l : List ℕ} where
  pub v1_told : (r : StatV1) → 20 ≤ length x → len ≡ name_length_of V1 x → told_stat r ≡ whole 16 zero_stat stat_at x 0
      → l ≡ put out 0 (words (4 ∷ at ∷ len ∷ stat_words r)) → l ≡ put out 0 (reply_bytes (Told (entry_told V1 x at)))
  unfolding reply_bytes dent_at
  v1_told r h n e p =
      p
      ∙ ap (λ (k : ℕ). put out 0 (words (4 ∷ at ∷ k ∷ stat_words r))) n
      ∙ ap (λ (w : List ℕ). put out 0 (words (4 ∷ at ∷ name_length_of V1 x ∷ w))) (v1_words x r (omega arith) e)

  pub v2_told : (r : StatV2) → 76 ≤ length x → len ≡ name_length_of V2 x → told_stat2 r ≡ whole 72 zero_stat2 stat2_at x 0
      → l ≡ put out 0 (words (5 ∷ at ∷ len ∷ stat_v2_words r)) → l ≡ put out 0 (reply_bytes (Told (entry_told V2 x at)))
  unfolding reply_bytes dent2_at
  v2_told r h n e p =
      p
      ∙ ap (λ (k : ℕ). put out 0 (words (5 ∷ at ∷ k ∷ stat_v2_words r))) n
      ∙ ap (λ (w : List ℕ). put out 0 (words (5 ∷ at ∷ name_length_of V2 x ∷ w))) (v2_words x r (omega arith) e)

-- ---- the held bytes, as the code parts them off

module _ (rx : List ℕ) (a b : ℕ) (o : a ≤ b) (i : b ≤ length rx) where
  sound : Sound rx (cursor a b)
  sound = record { ordered = o; within = i }

  pub held-part : (h t : ℕ) → h ≡ a → t ≡ b → take (t - h) (drop h rx) ≡ held_bytes rx (cursor a b)
  held-part h t p q = rw (p, q) (slice-part a b rx o i ∙ sym (held_in_lem rx (cursor a b) sound))

  pub held-count : length (held_bytes rx (cursor a b)) ≡ b - a
  held-count = held-length rx (cursor a b) sound

pub entry-within : (rec rx : List ℕ) (v : Version) → number_in rec 2 ≤ number_in rec 3 → number_in rec 3 ≤ length rx → 0 < entry_in rec rx v
    → number_in rec 2 + entry_in rec rx v ≤ number_in rec 3
entry-within rec rx v o i h =
    let w = whole_of (dialect_held rec) v (held_in rec rx) h in
    omega (arith, w.all, w.name, held-count rx (number_in rec 2) (number_in rec 3) o i)
