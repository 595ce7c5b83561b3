-- A list of calls over the bytes of the replies that belong to them, by the plain reader. Assumes nothing.
use Prim.Native.Nat.{ℕ, ◌≤◌}
use mathlib.Core.Bool.{Bool, true, false, ◌&&◌, true≢false}
use mathlib.Core.List.{List, [], ◌∷◌, ◌++◌, append_assoc}
use mathlib.Core.Option.{Option, none, some}
use mathlib.Core.Path.{◌≡◌, refl, sym, ap, ◌∙◌}
use native.Mathlib.Omega.{arith}
use lib.ListN.{length}
use Rattle.protocol.specs.Answers as A
use Rattle.protocol.specs.Answers.{Answer, End}
use Rattle.protocol.specs.Bytes.{pick}
use Rattle.protocol.specs.Calls.{Call, Made}
use Rattle.protocol.specs.Hours.{Hours}
use Rattle.protocol.specs.Ids.{Dialect, Sound}
use Rattle.protocol.specs.Reader.{Config, accepted, ended, plain, written, reply, plain_call, config_after, plain_made, plain_answers}
use Rattle.protocol.specs.Reader as R
use Rattle.protocol.specs.Refusal.{Setting, or_else, refuse, is_none, refusal, closed_hours, outside, turned, refusal_at}
use Rattle.session.specs.Demand3.{ReadsAt}
use Rattle.session.specs.Host.{Entry}
use Rattle.panel_reply.specs.Replies.{Reply, bytes_of_reply, is_short}
use Rattle.panel_side.specs.Claim.{Fits, left_after}
use Rattle.panel_side.specs.ReadBack.{stat_reads, stat2_reads, step_reads, chunk_reads, done_reads, BelongsTo, of_stat, of_stat2, of_entry, of_entry2, of_listing_end, of_chunk, of_transfer_end, of_okay, of_fail, read_as, Writes, list_writes, list2_writes, recv_writes, recv2_writes, send_writes, send2_writes, data_writes, Dialogue, over, reading, writing, NoneRefused, capacity_for}
use Rattle.panel_side.proofs.Replied.{reply-read}

-- ---- one call

-- a call that reads, or only writes, is not the last
goes_on : (g : Config) {r : Reply} {q : Call} → BelongsTo r q → config_after g q ≡ g
goes_on g (of_stat s path) = refl
goes_on g (of_stat2 s path) = refl
goes_on g (of_entry s name) = refl
goes_on g (of_entry2 s name) = refl
goes_on g (of_listing_end v) = refl
goes_on g (of_chunk b) = refl
goes_on g of_transfer_end = refl
goes_on g (of_okay t) = refl
goes_on g (of_fail t (stat_reads path)) = refl
goes_on g (of_fail t (stat2_reads path)) = refl
goes_on g (of_fail t (step_reads v)) = refl
goes_on g (of_fail t chunk_reads) = refl
goes_on g (of_fail t (done_reads m)) = refl

writes-on : (g : Config) {q : Call} → Writes q → config_after g q ≡ g
writes-on g (list_writes path) = refl
writes-on g (list2_writes path) = refl
writes-on g (recv_writes path) = refl
writes-on g (recv2_writes path flags) = refl
writes-on g (send_writes path mode) = refl
writes-on g (send2_writes path mode flags) = refl
writes-on g (data_writes b) = refl

only-written : (g : Config) {q : Call} → Writes q → (u : List ℕ) → plain g.capacity (written g q) u ≡ ended A.done u
unfolding written plain
only-written g (list_writes path) u = refl
only-written g (list2_writes path) u = refl
only-written g (recv_writes path) u = refl
only-written g (recv2_writes path flags) u = refl
only-written g (send_writes path mode) u = refl
only-written g (send2_writes path mode flags) u = refl
only-written g (data_writes b) u = refl

-- what a call that is not refused comes to
called : (g : Config) (e : End) (q : Call) (u v : List ℕ) (a : Answer) → refusal g.setting q ≡ none → plain g.capacity (written g q) u ≡ ended a v
    → plain_call g e accepted q u ≡ record { answer = a; unread = v }
called g e q u v a h p = rw h (ap (reply e) p)

-- ---- lists of them

-- what replies that are read back are
pub record Good (c : ℕ) (r : Reply) : Type 0 where
  pub fits : Fits r
  pub short : is_short r ≡ true
  pub held : capacity_for r ≤ c

abbrev pub AllGood : ℕ → List Reply → Type 0
AllGood c [] = Unit {0}
AllGood c (r ∷ rs) = Good c r × AllGood c rs

abbrev pub bytes_of_all : Dialect → List Reply → List ℕ
bytes_of_all d [] = []
bytes_of_all d (r ∷ rs) = bytes_of_reply d r ++ bytes_of_all d rs

-- what the plain reader leaves behind a list of calls
unfoldable pub plain_left : Option Hours → Config → End → List Made → List ℕ → List ℕ
plain_left h g e [] u = u
plain_left h g e (m ∷ ms) u = plain_left h (config_after g m.call) e ms (plain_made h g e m u).unread

-- a call that nothing refuses, the hours neither
let_in : (h : Option Hours) (g : Setting) (m : Made) → refusal_at h g m ≡ none → (refusal g m.call ≡ none) × (turned h g m ≡ false)
let_in h g m = go (refusal g m.call) (outside h m) refl refl
  where
    go : (o : Option Answer) (b : Bool) → refusal g m.call ≡ o → outside h m ≡ b → or_else o (refuse b (A.refused closed_hours)) ≡ none
        → (refusal g m.call ≡ none) × (turned h g m ≡ false)
    go (some a) b r x e = absurd (true≢false (sym (ap is_none e)))
    go none true r x e = absurd (true≢false (sym (ap is_none e)))
    go none false r x e = (r, ap (λ (y : Bool). y && is_none (refusal g m.call)) x)

module _ (h : Option Hours) (g : Config) (sound : Sound g.setting.dialect) (least : 8 ≤ g.capacity) (e : End) (rest : List ℕ) where
  abbrev incoming : List Reply → List ℕ
  incoming rs = bytes_of_all g.setting.dialect rs ++ rest

  -- a call with its reply, the next ones behind it
  read_one : {r : Reply} {q : Call} (rs : List Reply) → BelongsTo r q → Good g.capacity r → refusal g.setting q ≡ none
      → plain_call g e accepted q (incoming (r ∷ rs)) ≡ record { answer = read_as r; unread = incoming rs }
  read_one {r} {q} rs b good h =
      ap (plain_call g e accepted q) (append_assoc (bytes_of_reply g.setting.dialect r) (bytes_of_all g.setting.dialect rs) rest)
      ∙ called g e q _ _ _ h (reply-read g sound least (incoming rs) b good.fits good.short good.held)

  -- .. as they are made
  made_as : (m : Made) (u : List ℕ) (y : R.Reply) → refusal_at h g.setting m ≡ none → (refusal g.setting m.call ≡ none → plain_call g e accepted m.call u ≡ y)
      → plain_made h g e m u ≡ y
  made_as m u y free same =
      let l = let_in h g.setting m free in
      ap (λ (b : Bool). pick b (record { answer = A.refused closed_hours; unread = u }) (plain_call g e accepted m.call u)) l.1 ∙ same l.0

  pub dialogue_read : {ms : List Made} {rs : List Reply} {as' : List Answer} → Dialogue ms rs as' → AllGood g.capacity rs → NoneRefused h g.setting ms
      → plain_answers h g e ms (incoming rs) ≡ as'
  unfolding plain_answers
  dialogue_read over good free = refl
  dialogue_read (reading {m = m} {r = r} {rs = rs} b more) good free =
      rw (goes_on g b, made_as m (incoming (r ∷ rs)) _ free.0 (read_one rs b good.0)) (ap (λ (l : List Answer). read_as r ∷ l) (dialogue_read more good.1 free.1))
  dialogue_read (writing {m = m} {rs = rs} w more) good free =
      rw (writes-on g w, made_as m (incoming rs) _ free.0 (λ f. called g e m.call (incoming rs) _ _ f (only-written g w (incoming rs)))) (ap (λ (l : List Answer). A.done ∷ l) (dialogue_read more good free.1))

  pub dialogue_left : {ms : List Made} {rs : List Reply} {as' : List Answer} → Dialogue ms rs as' → AllGood g.capacity rs → NoneRefused h g.setting ms
      → plain_left h g e ms (incoming rs) ≡ rest
  unfolding plain_left
  dialogue_left over good free = refl
  dialogue_left (reading {m = m} {r = r} {rs = rs} b more) good free =
      rw (goes_on g b, made_as m (incoming (r ∷ rs)) _ free.0 (read_one rs b good.0)) (dialogue_left more good.1 free.1)
  dialogue_left (writing {m = m} {rs = rs} w more) good free =
      rw (writes-on g w, made_as m (incoming rs) _ free.0 (λ f. called g e m.call (incoming rs) _ _ f (only-written g w (incoming rs)))) (dialogue_left more good free.1)

-- a log that reads where the plain reader does leaves what it leaves
pub log-left : (h : Option Hours) (g : Config) (e : End) (ms : List Made) (v : List ℕ) (es : List Entry) → ReadsAt h g e ms v es → length es ≡ length ms
    → left_after es v ≡ plain_left h g e ms v
unfolding plain_left
log-left h g e [] v [] r l = refl
log-left h g e [] v (x ∷ xs) r l = absurd (omega arith)
log-left h g e (m ∷ ms) v [] r l = absurd r
log-left h g e (m ∷ ms) v (x ∷ xs) r l =
    log-left h (config_after g m.call) e ms x.unread xs r.1.1.1 (omega arith) ∙ ap (plain_left h (config_after g m.call) e ms) r.1.1.0
