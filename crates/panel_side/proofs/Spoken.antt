-- What `yuglasno_speak` comes to: which replies it takes, what it writes of them, and what the bytes that are sent are. Assumes nothing.
use Prim.Native.Nat.{ℕ, zero, suc, ◌≤◌, ◌<◌, ◌^◌}
use mathlib.Core.Bool.{Bool, true, false, ◌&&◌, and-eq-true_iff, and-false}
use mathlib.Core.List.{List, [], ◌∷◌, ◌++◌}
use mathlib.Core.Option.{Option, none, some, none-ne-some, some-injective}
use mathlib.Core.Path.{◌≡◌, refl, sym, ap, ap₂, subst, ◌∙◌}
use native.Mathlib.Decide.{dec_le}
use native.Mathlib.Nat.{lt_of_not-le, zero-add}
use native.Mathlib.Omega.{arith}
use borrow.Author.Tests.{lt-ltb, le-ltb, le-leb, lt-leb, ltb-true, leb-true}
use lib.Dec.{leb, ltb}
use lib.ListN.{length, take, drop}
use lib.Seq.{take-append_seam}
use Rattle.protocol.specs.Bytes.{Bytes, pick, over, number_at}
use Rattle.protocol.proofs.Bodies.{pick-cases}
use Rattle.protocol.proofs.Bytes.{le-bytes_of}
use Rattle.protocol.proofs.Words.{number-below}
use Rattle.ids.specs.Ids.{dialect_of}
use Rattle.protocol.specs.Calls.{v1, v2}
use Rattle.protocol.specs.Ids.{Table, Legal, Dialect, under}
use Rattle.protocol.specs.Records.{Stat, Stat2}
use Rattle.id_table.specs.Settings.{lent_in}
use Rattle.id_table.specs.Lent.{Lent}
use Rattle.id_table.specs.Lent as L
use Rattle.id_table.proofs.Laws.{id-tables}
use Rattle.record.specs.Narrow.{U64}
use Rattle.record.specs.Record.{words}
use Rattle.record.proofs.Numbers.{at_all, signed_back, unsigned-wide}
use Rattle.record.proofs.Words.{word-words}
use Rattle.boundary.specs.Heard.{at}
use Rattle.boundary.specs.Told.{out_size}
use Rattle.boundary.proofs.Heard.{put_front}
use Rattle.boundary.proofs.Narrow.{signed-fits}
use Rattle.panel_reply.specs.Replies.{Reply, stat, stat2, entry, entry2, listing_end, chunk, transfer_end, okay, fail, bytes_of_reply, is_short, is_taken, say_lent}
use Rattle.panel_side.specs.Crossing.{stat_in, stat2_in, stat_narrow, stat2_narrow, numbers_of_stat, numbers_of_stat2, stat_room, stat2_room, with_stat, with_stat2, reply_numbered, say_kind, say_numbers, Spoken, spoke, saying, if_given, on_table, long_reply, misplaced, cross_speak}
use Rattle.panel_side.specs.Claim.{FitsStat, FitsStat2, Fits, TooLong, no_room, much_data, long_name, long_name2, long_text}
use Rattle.panel_side.specs.ReadBack.{Lends}
use Rattle.panel_side.proofs.Narrow.{narrow, narrow2}

-- ---- what is taken, and what is too long

short-or_long : (d : Dialect) (room : ℕ) (r : Reply) → (TooLong d room r → ⊥) → is_short r ≡ true
unfolding is_short
short-or_long d room (stat s) f = refl
short-or_long d room (stat2 s) f = refl
short-or_long d room (entry s name) f = lt-ltb _ _ (lt_of_not-le (λ h. f (long_name h)))
short-or_long d room (entry2 s name) f = lt-ltb _ _ (lt_of_not-le (λ h. f (long_name2 h)))
short-or_long d room (listing_end v) f = refl
short-or_long d room (chunk b) f = lt-ltb (length b) 65537 (lt_of_not-le (λ h. f (much_data (omega (arith, h)))))
short-or_long d room transfer_end f = refl
short-or_long d room okay f = refl
short-or_long d room (fail t) f = lt-ltb _ _ (lt_of_not-le (λ h. f (long_text h)))

pub is-taken : (d : Dialect) (room : ℕ) (r : Reply) → (TooLong d room r → ⊥) → is_taken d r room ≡ true
is-taken d room r f = rw (short-or_long d room r f) (le-leb _ _ (go (dec_le (length (bytes_of_reply d r)) room)))
  where
    go : Dec (length (bytes_of_reply d r) ≤ room) → length (bytes_of_reply d r) ≤ room
    go (yes h) = h
    go (no n) = absurd (f (no_room (lt_of_not-le n)))

pub is-untaken : (d : Dialect) (room : ℕ) (r : Reply) → TooLong d room r → is_taken d r room ≡ false
unfolding is_short
is-untaken d room r (no_room h) = rw (lt-leb _ _ h) (and-false (is_short r))
is-untaken d room (chunk b) (much_data h) = rw (le-ltb (length b) 65537 (omega arith))
is-untaken d room (entry s name) (long_name h) = rw (le-ltb _ _ h)
is-untaken d room (entry2 s name) (long_name2 h) = rw (le-ltb _ _ h)
is-untaken d room (fail t) (long_text h) = rw (le-ltb _ _ h)

-- ---- a reply by its numbers

module _ (s : Stat) (f : FitsStat s) where
  stat-in : stat_in (words (numbers_of_stat s)) ≡ s
  stat-in =
      let w = word-words (numbers_of_stat s) (at_all (numbers_of_stat s) (omega arith)) in
      rw (w 0, w 1, w 2)

  stat-given : (k : Stat → Reply) → with_stat (words (numbers_of_stat s)) k ≡ some (k s)
  unfolding with_stat
  stat-given k =
      subst (λ (z : Stat). pick (stat_narrow z) (some (k z)) none ≡ some (k s)) (sym stat-in)
      (rw (lt-ltb _ _ f.mode, lt-ltb _ _ f.size, lt-ltb _ _ f.mtime))

module _ (s : Stat2) (f : FitsStat2 s) where
  stat2-in : stat2_in (words (numbers_of_stat2 s)) ≡ s
  stat2-in =
      let a = unsigned-wide s.atime f.atime in
      let m = unsigned-wide s.mtime f.mtime in
      let c = unsigned-wide s.ctime f.ctime in
      let w = word-words (numbers_of_stat2 s) (at_all (numbers_of_stat2 s) (omega arith)) in
      rw (w 0, w 1, w 2, w 3, w 4, w 5, w 6, w 7, w 8, w 9, w 10, signed_back s.atime f.atime, signed_back s.mtime f.mtime, signed_back s.ctime f.ctime)

  stat2-given : (k : Stat2 → Reply) → with_stat2 (words (numbers_of_stat2 s)) k ≡ some (k s)
  unfolding with_stat2
  stat2-given k =
      subst (λ (z : Stat2). pick (stat2_narrow z) (some (k z)) none ≡ some (k s)) (sym stat2-in)
      (rw (lt-ltb _ _ f.error, lt-ltb _ _ f.mode, lt-ltb _ _ f.nlink, lt-ltb _ _ f.uid, lt-ltb _ _ f.gid))

pub numbered-back : (r : Reply) → Fits r → reply_numbered (say_kind r) (words (say_numbers r)) (say_lent r) ≡ some r
numbered-back (stat s) f = stat-given s f stat
numbered-back (stat2 s) f = stat2-given s f stat2
numbered-back (entry s name) f = stat-given s f (λ z. entry z name)
numbered-back (entry2 s name) f = stat2-given s f (λ z. entry2 z name)
numbered-back (listing_end v1) f = refl
numbered-back (listing_end v2) f = refl
numbered-back (chunk b) f = refl
numbered-back transfer_end f = refl
numbered-back okay f = refl
numbered-back (fail t) f = refl

-- a number at the front
number-back : (n : ℕ) (rest : List ℕ) → U64 n → at (words (n ∷ []) ++ rest) 0 ≡ n
unfolding number_at
number-back n rest h = le-bytes_of 8 n h

-- ---- a slice too short for the length

pub told-short : (settings : List ℕ) (k : ℕ) (numbers lent out told : List ℕ) → length told < out_size
    → cross_speak settings k numbers lent out told ≡ spoke out told misplaced
unfolding cross_speak
told-short settings k numbers lent out told h = rw (lt-ltb _ _ h)

pub no_table : (settings : List ℕ) (k : ℕ) (numbers lent out told : List ℕ) → out_size ≤ length told → (n : ℕ) → lent_in settings ≡ L.Refused n
    → cross_speak settings k numbers lent out told ≡ spoke out told n
unfolding cross_speak
no_table settings k numbers lent out told h n e = rw (le-ltb _ _ h, e)

-- ---- on settings that have a table

pub no_reply_lem : (settings : List ℕ) (t : Table) → Lends settings t → (k : ℕ) (numbers lent out told : List ℕ) → out_size ≤ length told
    → reply_numbered k numbers lent ≡ none → cross_speak settings k numbers lent out told ≡ spoke out told misplaced
unfolding cross_speak
no_reply_lem settings t lends k numbers lent out told h e = rw (le-ltb _ _ h, lends, e)

module _ (settings : List ℕ) (t : Table) (legal : Legal t) (lends : Lends settings t) (k : ℕ) (numbers lent out told : List ℕ) (r : Reply)
    (given : reply_numbered k numbers lent ≡ some r) where
  abbrev m : List ℕ
  m = bytes_of_reply (under t) r

  speak_is : out_size ≤ length told → cross_speak settings k numbers lent out told ≡ saying (under t) out told r
  unfolding cross_speak
  speak_is h = rw (le-ltb _ _ h, lends, id-tables.dialect t legal, given)

  -- what is taken, and what it writes
  pub speaks : out_size ≤ length told → is_taken (under t) r (length out) ≡ true
      → cross_speak settings k numbers lent out told ≡ spoke (m ++ drop (length m) out) (words (length m ∷ []) ++ drop 8 told) 0
  unfolding over
  speaks h e =
      speak_is h
      ∙ rw e (ap₂ (λ (x y : List ℕ). spoke x y 0) (rw zero-add) (put_front told h (words (length m ∷ [])) (omega arith)))

  pub unspoken : out_size ≤ length told → is_taken (under t) r (length out) ≡ false → cross_speak settings k numbers lent out told ≡ spoke out told long_reply
  unspoken h e = speak_is h ∙ rw e

  -- answered 0: there was a slice for the length, and the reply is taken
  module _ (zero-told : (cross_speak settings k numbers lent out told).number ≡ 0) where
    room-told : out_size ≤ length told
    room-told = go (dec_le out_size (length told))
      where
        go : Dec (out_size ≤ length told) → out_size ≤ length told
        go (yes h) = h
        go (no n) = absurd (omega (arith, sym (ap (λ (x : Spoken). x.number) (told-short settings k numbers lent out told (lt_of_not-le n))) ∙ zero-told))

    pub taken-zero : is_taken (under t) r (length out) ≡ true
    taken-zero = go (is_taken (under t) r (length out)) refl
      where
        go : (q : Bool) → is_taken (under t) r (length out) ≡ q → is_taken (under t) r (length out) ≡ true
        go true e = e
        go false e = absurd (omega (arith, sym (ap (λ (x : Spoken). x.number) (unspoken room-told e)) ∙ zero-told))

    -- the bytes that are sent
    pub sent : length out < 2 ^ 63
        → take (at (cross_speak settings k numbers lent out told).told 0) (cross_speak settings k numbers lent out told).out ≡ m
    sent narrow =
        let l : length m ≤ length out = leb-true _ _ ((and-eq-true_iff (is_short r) (leb (length m) (length out))).0 taken-zero).1 in
        let e = speaks room-told taken-zero in
        rw e (ap (λ (n : ℕ). take n (m ++ drop (length m) out)) (number-back (length m) (drop 8 told) (omega arith)) ∙ take-append_seam m (drop (length m) out))

-- ---- any other answer than 0 leaves every byte

module _ (out told : List ℕ) where
  abbrev Stays : Spoken → Type 0
  Stays x = (x.number ≡ 0 → ⊥) → x ≡ spoke out told x.number

  saying-stays : (d : Dialect) (r : Reply) → Stays (saying d out told r)
  saying-stays d r = pick-cases Stays (is_taken d r (length out)) (λ e f. absurd (f refl)) (λ e f. refl)

  given_stays : (d : Dialect) (o : Option Reply) → Stays (if_given out told (saying d out told) o)
  given_stays d none f = refl
  given_stays d (some r) f = saying-stays d r f

  table_stays : (o : Option Reply) (l : Lent) → Stays (on_table (spoke out told) (λ d. if_given out told (saying d out told) o) l)
  table_stays o (L.Ids t) f = given_stays (dialect_of t) o f
  table_stays o (L.Refused n) f = refl

  pub stays : (settings : List ℕ) (k : ℕ) (numbers lent : List ℕ) → Stays (cross_speak settings k numbers lent out told)
  unfolding cross_speak
  stays settings k numbers lent =
      pick-cases Stays (ltb (length told) out_size) (λ e f. refl) (λ e. table_stays (reply_numbered k numbers lent) (lent_in settings))

-- ---- the numbers of a reply that was given have the widths of their fields

given-if : (test : Bool) (r z : Reply) → pick test (some z) none ≡ some r → (test ≡ true) × (z ≡ r)
given-if true r z e = (refl, some-injective z r e)
given-if false r z e = absurd (none-ne-some r e)

stat-fits : (n : List ℕ) (f : Stat → Reply) (r : Reply) → with_stat n f ≡ some r → FitsStat (stat_in n) × (f (stat_in n) ≡ r)
unfolding with_stat
stat-fits n f r e =
    let g = given-if (leb stat_room (length n) && stat_narrow (stat_in n)) r (f (stat_in n)) e in
    let x = narrow n g.0 in
    (record { mode = ltb-true _ _ x.mode; size = ltb-true _ _ x.size; mtime = ltb-true _ _ x.mtime }, g.1)

stat2-fits : (n : List ℕ) (f : Stat2 → Reply) (r : Reply) → Bytes n → with_stat2 n f ≡ some r → FitsStat2 (stat2_in n) × (f (stat2_in n) ≡ r)
unfolding with_stat2
stat2-fits n f r w e =
    let g = given-if (leb stat2_room (length n) && stat2_narrow (stat2_in n)) r (f (stat2_in n)) e in
    let x = narrow2 n g.0 in (
      record {
        error = ltb-true _ _ x.error;
        dev = number-below 8 n 8 w;
        ino = number-below 8 n 16 w;
        mode = ltb-true _ _ x.mode;
        nlink = ltb-true _ _ x.nlink;
        uid = ltb-true _ _ x.uid;
        gid = ltb-true _ _ x.gid;
        size = number-below 8 n 56 w;
        atime = signed-fits (at n 8) (number-below 8 n 64 w);
        mtime = signed-fits (at n 9) (number-below 8 n 72 w);
        ctime = signed-fits (at n 10) (number-below 8 n 80 w);
      },
      g.1,
    )

-- a kind that carries no numbers
plain_fits : (z r : Reply) → Fits z → some z ≡ some r → Fits r
plain_fits z r f e = subst Fits (some-injective z r e) f

pub fits-given : (k : ℕ) (n lent : List ℕ) (r : Reply) → Bytes n → reply_numbered k n lent ≡ some r → Fits r
fits-given zero n lent r w e = plain_fits okay r tt e
fits-given (suc zero) n lent r w e = plain_fits transfer_end r tt e
fits-given (suc (suc zero)) n lent r w e = let f = stat-fits n stat r e in subst Fits f.1 f.0
fits-given (suc (suc (suc zero))) n lent r w e = let f = stat2-fits n stat2 r w e in subst Fits f.1 f.0
fits-given (suc (suc (suc (suc zero)))) n lent r w e = let f = stat-fits n (λ s. entry s lent) r e in subst Fits f.1 f.0
fits-given (suc (suc (suc (suc (suc zero))))) n lent r w e = let f = stat2-fits n (λ s. entry2 s lent) r w e in subst Fits f.1 f.0
fits-given (suc (suc (suc (suc (suc (suc zero)))))) n lent r w e = plain_fits (chunk lent) r tt e
fits-given (suc (suc (suc (suc (suc (suc (suc zero))))))) n lent r w e = plain_fits (fail lent) r tt e
fits-given (suc (suc (suc (suc (suc (suc (suc (suc zero)))))))) n lent r w e = plain_fits (listing_end v1) r tt e
fits-given (suc (suc (suc (suc (suc (suc (suc (suc (suc zero))))))))) n lent r w e = plain_fits (listing_end v2) r tt e
fits-given (suc (suc (suc (suc (suc (suc (suc (suc (suc (suc k)))))))))) n lent r w e = absurd (none-ne-some r e)
