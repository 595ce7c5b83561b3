-- A faithful log in which every write was accepted, as demand 3 reads it: an entry for each call, the plain reader's answers, bytes
-- written, reads, closes and unread bytes.
-- Assumes nothing.
use Prim.Native.Nat.{ℕ, zero, suc, ◌-◌, ◌≤◌}
use mathlib.Core.Bool.{Bool, true, false, ◌&&◌, not, true≢false}
use mathlib.Core.List.{List, [], ◌∷◌, ◌++◌, append_assoc}
use mathlib.Core.Option.{Option, none, some}
use mathlib.Core.Path.{◌≡◌, refl, sym, ap, ◌∙◌, subst}
use native.Mathlib.Omega.{arith}
use lib.ListN.{length, get_or}
use Rattle.protocol.specs.Answers.{Answer, End, refused}
use Rattle.protocol.specs.Bytes.{pick}
use Rattle.protocol.specs.Calls.{Call, call, next_entry, next_chunk, messages, joined_messages, Made}
use Rattle.protocol.specs.Hours.{Hours, lets}
use Rattle.protocol.specs.Refusal.{Setting, is_none, refusal, is_push, closed_hours, outside, turned}
use Rattle.protocol.specs.Ids.{Dialect}
use Rattle.protocol.specs.Messages.{Request, ask, rcv2, send, snd2, chunk, done, quit, joined, pieces}
use Rattle.protocol.specs.Reader.{Config, accepted, config_after, Reply, plain_call, unless_written, writes, is_quit, plain_answers, plain_writes}
use Rattle.protocol.proofs.Messages.{pieces-joined}
use Rattle.protocol_readers.specs.Wider.{unread_at}
use Rattle.session.specs.Demand3.{answers_of, written_of, AsksAt, ReadsAt, ClosesAt, unreads}
use Rattle.session.specs.Faithful.{AllAtNeeds, pieces_of, unless_pieces, call_pieces, Accepted, closes_for, reply_of, AsMade, Faithful}
use Rattle.session.specs.Host.{Broken, Stop, outcome_of, Entry}
use Rattle.session.proofs.Accepts.{AllAccepted}

-- ---- the pieces of a call, joined, are what it writes

joined-append : (xs ys : List (List ℕ)) → joined (xs ++ ys) ≡ joined xs ++ joined ys
joined-append [] ys = refl
joined-append (x ∷ xs) ys = ap (λ (z : List ℕ). x ++ z) (joined-append xs ys) ∙ sym (append_assoc x (joined xs) (joined ys))

joined-messages : (d : Dialect) (free : ℕ) (qs : List Request) → joined (pieces_of d free qs) ≡ joined_messages d qs
joined-messages d free [] = refl
joined-messages d free (q ∷ qs) = rw (joined-append (pieces d free q) (pieces_of d free qs), pieces-joined d free q, joined-messages d free qs)

joined-call : (g : Config) (q : Call) (n : ℕ) → joined (call_pieces g q n) ≡ writes g q
unfolding writes
joined-call g q n = go (refusal g.setting q)
  where
    go : (o : Option Answer) → joined (unless_pieces o (pieces_of g.setting.dialect (g.capacity - n) (messages q))) ≡ unless_written o (joined_messages g.setting.dialect (messages q))
    go (some a) = refl
    go none = joined-messages g.setting.dialect (g.capacity - n) (messages q)

-- ---- a call that was turned away is a push start

and_left : (x y : Bool) → (x && y) ≡ true → x ≡ true
and_left true y e = refl
and_left false y e = e

and_right : (x y : Bool) → (x && y) ≡ true → y ≡ true
and_right true y e = e
and_right false y e = absurd (true≢false (sym e))

pub turned-push : (h : Option Hours) (g : Setting) (m : Made) → turned h g m ≡ true → is_push m.call ≡ true
turned-push h g m t = and_right (not (lets h m.moment)) (is_push m.call) (and_left (outside h m) (is_none (refusal g m.call)) t)

push_closes : (q : Call) → is_push q ≡ true → (ended : Bool) (ps : List (List ℕ)) → closes_for (is_quit q) ended ps ≡ []
push_closes (call (ask i p)) e ended ps = refl
push_closes (call (rcv2 p f)) e ended ps = refl
push_closes (call (send p m)) e ended ps = refl
push_closes (call (snd2 p m f)) e ended ps = refl
push_closes (call (chunk x)) e ended ps = refl
push_closes (call (done t)) e ended ps = refl
push_closes (call quit) e ended ps = absurd (true≢false (sym e))
push_closes (next_entry v) e ended ps = refl
push_closes next_chunk e ended ps = refl

-- ---- an entry whose writes were accepted

-- b: the hours turned the call away
record Told (b : Bool) (g : Config) (e : End) (q : Call) (v : List ℕ) (x : Entry) : Type 0 where
  answer : x.answer ≡ (pick b (record { answer = refused closed_hours; unread = v }) (plain_call g e accepted q v)).answer
  unread : x.unread ≡ (pick b (record { answer = refused closed_hours; unread = v }) (plain_call g e accepted q v)).unread
  asks : AsksAt b g q v x.pieces x.asks
  written : joined x.pieces ≡ pick b [] (writes g q)

told : (b : Bool) (g : Config) (e : End) (q : Call) (v : List ℕ) (x : Entry) → (x.broken ≡ []) × (x.stopped ≡ none) → AsMade b g e q v x → Told b g e q v x
told true g e q v x o r = record { answer = r.answer; unread = r.unread; asks = r.asks; written = ap joined r.pieces }
told false g e q v x (o, p) r =
    record {
      answer = r.answer ∙ ap (λ (y : Reply). y.answer) whole;
      unread = r.unread ∙ ap (λ (y : Reply). y.unread) whole;
      asks = subst (λ (bs : List Broken). AllAtNeeds g (outcome_of bs) q v x.pieces x.asks) o r.asks;
      written = ap joined (subst (λ (bs : List Broken). Accepted (call_pieces g q (length x.held)) x.pieces bs) o r.pieces) ∙ joined-call g q
          (length x.held);
    }
  where
    whole : reply_of x.stopped g e (outcome_of x.broken) q v ≡ plain_call g e accepted q v
    whole = ap (λ (s : Option Stop). reply_of s g e (outcome_of x.broken) q v) p ∙ ap (λ (bs : List Broken). plain_call g e (outcome_of bs) q v) o

-- ---- the log

module _ (h : Option Hours) (e : End) where
  pub log-ends : (g : Config) (ms : List Made) (v : List ℕ) (es : List Entry) → Faithful h g e ms v es → length es ≡ length ms
  log-ends g [] v [] f = refl
  log-ends g [] v (x ∷ es) f = absurd f
  log-ends g (m ∷ ms) v [] f = absurd f
  log-ends g (m ∷ ms) v (x ∷ es) f = ap suc (log-ends (config_after g m.call) ms x.unread es f.1)

  pub log-reads : (g : Config) (ms : List Made) (v : List ℕ) (es : List Entry) → AllAccepted es → Faithful h g e ms v es → ReadsAt h g e ms v es
  log-reads g [] v es o f = tt
  log-reads g (m ∷ ms) v [] o f = absurd f
  log-reads g (m ∷ ms) v (x ∷ es) o f =
      let t = told (turned h g.setting m) g e m.call v x o.0 f.0 in
      (t.asks, (t.written, (t.unread, log-reads (config_after g m.call) ms x.unread es o.1 f.1)))

  closes-made : (g : Config) (m : Made) (v : List ℕ) (x : Entry) (b : Bool) → turned h g.setting m ≡ b → AsMade b g e m.call v x
      → x.closes ≡ closes_for (is_quit m.call) g.setting.ended x.pieces
  closes-made g m v x true t f = f.closes ∙ sym (push_closes m.call (turned-push h g.setting m t) g.setting.ended x.pieces)
  closes-made g m v x false t f = f.closes

  pub log-closes : (g : Config) (ms : List Made) (v : List ℕ) (es : List Entry) → Faithful h g e ms v es → ClosesAt g ms es
  log-closes g [] v es f = tt
  log-closes g (m ∷ ms) v [] f = absurd f
  log-closes g (m ∷ ms) v (x ∷ es) f =
      (closes-made g m v x (turned h g.setting m) refl f.0, log-closes (config_after g m.call) ms x.unread es f.1)

  pub log-answers : (g : Config) (ms : List Made) (v : List ℕ) (es : List Entry) → AllAccepted es → Faithful h g e ms v es
      → answers_of es ≡ plain_answers h g e ms v
  unfolding plain_answers
  log-answers g [] v [] o f = refl
  log-answers g [] v (x ∷ es) o f = absurd f
  log-answers g (m ∷ ms) v [] o f = absurd f
  log-answers g (m ∷ ms) v (x ∷ es) o f =
      let t = told (turned h g.setting m) g e m.call v x o.0 f.0 in
      rw (t.answer, log-answers (config_after g m.call) ms x.unread es o.1 f.1, t.unread)

  pub log-written : (g : Config) (ms : List Made) (v : List ℕ) (es : List Entry) → AllAccepted es → Faithful h g e ms v es
      → written_of es ≡ plain_writes h g ms
  unfolding plain_writes
  log-written g [] v [] o f = refl
  log-written g [] v (x ∷ es) o f = absurd f
  log-written g (m ∷ ms) v [] o f = absurd f
  log-written g (m ∷ ms) v (x ∷ es) o f =
      let t = told (turned h g.setting m) g e m.call v x o.0 f.0 in
      rw (t.written, log-written (config_after g m.call) ms x.unread es o.1 f.1)

  -- what is unread before the k-th call
  pub log-unread : (g : Config) (ms : List Made) (v : List ℕ) (es : List Entry) → AllAccepted es → Faithful h g e ms v es → (k : ℕ) → k ≤ length ms
      → get_or (v ∷ unreads es) k [] ≡ unread_at h g e ms v k
  unfolding unread_at
  log-unread g ms v es o f zero l = refl
  log-unread g [] v es o f (suc k) l = absurd (omega arith)
  log-unread g (m ∷ ms) v [] o f (suc k) l = absurd f
  log-unread g (m ∷ ms) v (x ∷ es) o f (suc k) l =
      let t = told (turned h g.setting m) g e m.call v x o.0 f.0 in
      log-unread (config_after g m.call) ms x.unread es o.1 f.1 k (omega arith) ∙ ap (λ (y : List ℕ). unread_at h (config_after g m.call) e ms y k) t.unread
