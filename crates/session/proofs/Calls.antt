-- Every call, against any host, is the plain reader's, and so is every list of calls.
-- Assumes nothing.
use Prim.Native.Nat.{ℕ, suc, ◌+◌, ◌≤◌}
use mathlib.Core.Bool.{Bool, true, false}
use mathlib.Core.List.{List, [], ◌∷◌, ◌++◌}
use mathlib.Core.Option.{Option, none, some}
use mathlib.Core.Path.{◌≡◌, refl, sym, ap, ◌∙◌}
use native.Mathlib.Omega.{arith}
use lib.ListN.{length}
use Rattle.protocol.specs.Answers as P
use Rattle.protocol.specs.Answers.{closed, error}
use Rattle.protocol.specs.Bytes.{pick}
use Rattle.protocol.specs.Calls.{v1, v2, Call, call, next_entry, next_chunk, chunks, cut, messages, Made}
use Rattle.protocol.specs.Refusal.{refusal}
use Rattle.protocol.specs.Messages.{stat, sta2, list, lis2, recv, ask, rcv2, send, snd2, chunk, done, quit, message_of}
use Rattle.protocol.specs.Reader.{answer, plain, accepted, broke, written, write_broke, is_quit}
use Rattle.request.specs.Meaning.{meant}
use Rattle.request.specs.declared.Request.{Request}
use Rattle.request.specs.declared.Request.TheVariants as Q
use Rattle.session.specs.declared.Answer.TheVariants as A
use Rattle.session.specs.declared.Pending.TheVariants.{Idle}
use Rattle.session.specs.declared.Phase.TheVariants.{Header}
use Rattle.session.specs.declared.Version.TheVariants.{V1, V2}
use Rattle.session.specs.declared.Want.{Want}
use Rattle.session.specs.declared.Want.TheVariants as W
use Rattle.session.specs.Calls.{setting_of}
use Rattle.session.specs.Core.{request_of, core}
use Rattle.session.specs.Faithful.{Composed, meets_header}
use Rattle.session.specs.Host.{Host, World, enough, run_call}
use Rattle.session.specs.Phases.{wants}
use Rattle.session.specs.Reports.{write_fault}
use Rattle.session.specs.State.{dialect_in, St, beside, begun, Good}
use Rattle.session.specs.Steps.{read_on}
use Rattle.session.specs.Sends.{tidied, carried, message_out, sent, told, resumed}
use Rattle.session.proofs.Data.{data_compacts, data_stays, sending, data_ok}
use Rattle.session.proofs.Follows.{Breaks, header_ok, plain-breaks, push_breaks, close-ok, done-follows}
use Rattle.session.proofs.Refusals.{open_of, Begins, begins, refused}
use Rattle.session.proofs.Run.{config_of, Comes, fault-told}
use Rattle.session.proofs.Sends.{Behind, path-ok, bare_ok}
use Rattle.session.proofs.Site.{once, Site, lent, all, rests, Goes, later, started, Mid, mid_at, mid_started, mid_tidied, LetIn, rests_is, all-is}
use Rattle.session.proofs.Turns.{held, cont, rest_of}

-- ---- a call that is let in

length-chunks : (xs : List (List ℕ)) → length (chunks xs) ≡ length xs
length-chunks [] = refl
length-chunks (x ∷ xs) = ap suc (length-chunks xs)

module _ (h : Host) (w : World) (s : St) (good : Good s) (live : s.ses.ended ≡ false) where
  abbrev at : Call → Site
  at q = record { host = h; world = w; state = s; call = q }

  -- a call that is done once its one message is out
  starts : (q : Call) → LetIn (at q) → Behind (at q) → (rq : Request) → Breaks (at q) (length (held s)) (later (at q)) rq → rests (at q) accepted ≡ length (held s) → is_quit q ≡ false
      → messages q ≡ meant rq (lent (at q)) ∷ [] → carried rq 0 (lent (at q)) ≡ lent (at q) → ((t : St) → resumed t rq 0 (lent (at q)) ≡ told t A.Done)
      → written (config_of s.ses h.close) q ≡ answer P.done → length w.left + 7 ≤ enough q w
      → Goes (at q) (enough q w) w.writes [] [] (beside (message_out (begun s.ses (length (lent (at q)))) s.rx rq 0 (lent (at q))) s.msg)
  starts q lets behind rq breaks rest_at stays one carries goes ends l =
      path-ok (at q) lets good live rq (length (held s)) breaks (done-follows (at q) lets rq (length (held s)) rest_at stays goes ends) (enough q w) refl behind one carries
      (omega arith)

  -- a call that reads a header, all it writes accepted
  reads : (q : Call) → LetIn (at q) → (f i : ℕ) (xs : List (List ℕ)) (t : St) (x : Want) → is_quit q ≡ false → later (at q) ≤ f → Mid (at q) (rests (at q) accepted) t → xs ≡ all (at q)
      → ((msg y : List ℕ) → plain s.ses.capacity (written (config_of s.ses h.close) q) y
      ≡ plain s.ses.capacity (rest_of (dialect_in s.ses) s.ses.capacity msg (Header x)) y)
      → meets_header (written (config_of s.ses h.close) q) ≡ true
      → Goes (at q) f i xs [] (read_on t (Header x) false)
  reads q lets f i xs t x stays l m e goes meets = header_ok (at q) lets stays f i xs [] t x false live l m e goes fault-told meets

  -- stat: its reply follows
  stat-ok : (q : Call) → LetIn (at q) → Behind (at q) → (rq : Request) (x : Want) → Breaks (at q) (length (held s)) (later (at q)) rq → rests (at q) accepted ≡ length (held s) → is_quit q ≡ false
      → messages q ≡ meant rq (lent (at q)) ∷ [] → carried rq 0 (lent (at q)) ≡ lent (at q)
      → ((t : St) → resumed t rq 0 (lent (at q)) ≡ read_on t (Header x) false)
      → ((msg y : List ℕ) → plain s.ses.capacity (written (config_of s.ses h.close) q) y
      ≡ plain s.ses.capacity (rest_of (dialect_in s.ses) s.ses.capacity msg (Header x)) y)
      → meets_header (written (config_of s.ses h.close) q) ≡ true → length w.left + 7 ≤ enough q w
      → Goes (at q) (enough q w) w.writes [] [] (beside (message_out (begun s.ses (length (lent (at q)))) s.rx rq 0 (lent (at q))) s.msg)
  stat-ok q lets behind rq x breaks rest_at stays one carries resumes goes meets l =
      path-ok (at q) lets good live rq (length (held s)) breaks
      (λ f i t m y. rw (resumes t) (reads q lets f i (all (at q)) t x stays m (mid_at (at q) t y rest_at) refl goes meets)) (enough q w) refl behind one carries
      (omega arith)

  quit-breaks : LetIn (at (call quit)) → Breaks (at (call quit)) s.ses.buf.tail (later (at (call quit))) Q.Quit
  unfolding write_fault write_broke
  quit-breaks lets f i xs b rest t closed l x split =
      close-ok (at (call quit)) lets f i xs (once xs b closed) false 0 t live refl (omega arith) (mid_at (at (call quit)) t x (rests_is (at (call quit)) lets (broke closed))) (rest, (split, refl)) refl
  quit-breaks lets f i xs b rest t (error k) l x split =
      close-ok (at (call quit)) lets f i xs (once xs b (error k)) true k t live refl (omega arith) (mid_at (at (call quit)) t x (rests_is (at (call quit)) lets (broke (error k)))) (rest, (split, refl)) refl

  open_ok : (q : Call) → LetIn (at q) → Goes (at q) (enough q w) w.writes [] [] (open_of q (lent (at q)) s)
  unfolding messages carried sent write_fault write_broke written resumed cont wants message_of cut
  open_ok (call (ask stat p)) lets =
      let c : Site = at (call (ask stat p)) in
      stat-ok c.call lets (λ i is e d. (e, d)) Q.Stat (W.Stat V1) (plain-breaks c lets refl Q.Stat _ (λ e. rests_is c lets (broke e)) (λ t e. refl) (λ e. refl)) (rests_is c lets accepted) refl refl refl (λ t. refl) (λ msg y. refl) refl
      (omega arith)
  open_ok (call (ask sta2 p)) lets =
      let c : Site = at (call (ask sta2 p)) in
      stat-ok c.call lets (λ i is e d. (e, d)) Q.Sta2 (W.Stat V2) (plain-breaks c lets refl Q.Sta2 _ (λ e. rests_is c lets (broke e)) (λ t e. refl) (λ e. refl)) (rests_is c lets accepted) refl refl refl (λ t. refl) (λ msg y. refl) refl
      (omega arith)
  open_ok (call (ask list p)) lets =
      let c : Site = at (call (ask list p)) in
      starts c.call lets (λ i is e d. (e, d)) Q.List (plain-breaks c lets refl Q.List _ (λ e. rests_is c lets (broke e)) (λ t e. refl) (λ e. refl)) (rests_is c lets accepted) refl refl refl (λ t. refl) refl (omega arith)
  open_ok (call (ask lis2 p)) lets =
      let c : Site = at (call (ask lis2 p)) in
      starts c.call lets (λ i is e d. (e, d)) Q.Lis2 (plain-breaks c lets refl Q.Lis2 _ (λ e. rests_is c lets (broke e)) (λ t e. refl) (λ e. refl)) (rests_is c lets accepted) refl refl refl (λ t. refl) refl (omega arith)
  open_ok (call (ask recv p)) lets =
      let c : Site = at (call (ask recv p)) in
      starts c.call lets (λ i is e d. (e, d)) Q.Recv (plain-breaks c lets refl Q.Recv _ (λ e. rests_is c lets (broke e)) (λ t e. refl) (λ e. refl)) (rests_is c lets accepted) refl refl refl (λ t. refl) refl (omega arith)
  open_ok (call (rcv2 p f)) lets =
      let c : Site = at (call (rcv2 p f)) in
      let rq : Request = request_of (rcv2 p f) in
      starts c.call lets (λ i is e d. (e, d)) rq (plain-breaks c lets refl rq _ (λ e. rests_is c lets (broke e)) (λ t e. refl) (λ e. refl)) (rests_is c lets accepted) refl refl refl (λ t. refl) refl (omega arith)
  open_ok (call (send p m)) lets =
      let c : Site = at (call (send p m)) in
      let rq : Request = request_of (send p m) in
      starts c.call lets (λ i is e d. (e, d)) rq (push_breaks c lets refl rq _ (λ e. rests_is c lets (broke e)) live (λ t e. refl) (λ e. refl) (λ e. refl)) (rests_is c lets accepted) refl refl refl (λ t. refl) refl (omega arith)
  open_ok (call (snd2 p m f)) lets =
      let c : Site = at (call (snd2 p m f)) in
      let rq : Request = request_of (snd2 p m f) in
      starts c.call lets (λ i is e d. (e, d)) rq (push_breaks c lets refl rq _ (λ e. rests_is c lets (broke e)) live (λ t e. refl) (λ e. refl) (λ e. refl)) (rests_is c lets accepted) refl refl refl (λ t. refl) refl (omega arith)
  open_ok (call (chunk x)) lets =
      let c : Site = sending h w s x in
      let moves : Bool → ℕ = λ b. pick b (length (held s)) s.ses.buf.tail in
      data_ok h w s x lets live
      (λ some. push_breaks c lets refl Q.Data _ (λ e. rests_is c lets (broke e) ∙ ap moves (data_compacts (broke e) x some)) live (λ t e. refl) (λ e. refl)
      (λ e. refl))
      (length x) 0 (omega arith) s.ses.buf.tail (enough c.call w) w.writes [] (started c) (mid_started c good)
      (λ none. rests_is c lets accepted ∙ ap moves (data_stays accepted x none)) (all-is c lets) (omega (arith, length-chunks (cut x)))
  open_ok (call (done t)) lets =
      let c : Site = at (call (done t)) in
      bare_ok c lets good live (Q.Done t) s.ses.buf.tail (push_breaks c lets refl (Q.Done t) _ (λ e. rests_is c lets (broke e)) live (λ t e. refl) (λ e. refl) (λ e. refl))
      (λ f i t l x. reads c.call lets f i (all c) (tidied t) W.Okay refl l (mid_at c (tidied t) (mid_tidied c t x) (rests_is c lets accepted)) refl (λ msg y. refl) refl)
      (enough c.call w) refl refl refl (λ j. refl) (omega arith)
  open_ok (call quit) lets =
      let c : Site = at (call quit) in
      bare_ok c lets good live Q.Quit s.ses.buf.tail (quit-breaks lets)
      (λ f i t l x. close-ok c lets f i (all c) [] false 0 t live refl (omega arith) (mid_at c t x (rests_is c lets accepted)) refl refl)
      (enough c.call w) refl refl refl (λ j. refl) (omega arith)
  open_ok (next_entry v1) lets =
      let c : Site = at (next_entry v1) in
      reads c.call lets (enough c.call w) w.writes [] (started c) (W.Entry V1) refl (omega arith) (mid_at c (started c) (mid_started c good) (rests_is c lets accepted)) (sym (all-is c lets)) (λ msg y. refl) refl
  open_ok (next_entry v2) lets =
      let c : Site = at (next_entry v2) in
      reads c.call lets (enough c.call w) w.writes [] (started c) (W.Entry V2) refl (omega arith) (mid_at c (started c) (mid_started c good) (rests_is c lets accepted)) (sym (all-is c lets)) (λ msg y. refl) refl
  open_ok next_chunk lets =
      let c : Site = at next_chunk in
      reads c.call lets (enough c.call w) w.writes [] (tidied (started c)) W.Chunk refl (omega arith)
      (mid_at c (tidied (started c)) (mid_tidied c (started c) (mid_started c good)) (rests_is c lets accepted))
      (sym (all-is c lets)) (λ msg y. refl) refl

-- ---- every call

composed-none : (q : Call) (n : ℕ) → Composed q n []
composed-none (call (ask i p)) n = tt
composed-none (call (rcv2 p f)) n = tt
composed-none (call (send p m)) n = tt
composed-none (call (snd2 p m f)) n = tt
composed-none (call (chunk x)) n = tt
composed-none (call (done t)) n = refl
composed-none (call quit) n = refl
composed-none (next_entry v) n = refl
composed-none next_chunk n = refl

-- One call: it ends, as the plain reader does.
pub call_ok : (h : Host) (w : World) (s : St) (m : Made) → Good s → s.ses.pending ≡ Idle
    → Comes (config_of s.ses h.close) h.end m.call (held s ++ w.left) (length (held s)) s.ses.buf.tail s.msg (run_call core h m w s.ses s.rx s.msg)
unfolding plain
call_ok h w s m good i = go (refusal (setting_of s.ses) q) refl (begins (h.spare w) s q good i)
  where
    q : Call
    q = m.call

    go : (o : Option P.Answer) → refusal (setting_of s.ses) q ≡ o → Begins (h.spare w) s q o
        → Comes (config_of s.ses h.close) h.end q (held s ++ w.left) (length (held s)) s.ses.buf.tail s.msg (run_call core h m w s.ses s.rx s.msg)
    go none r b = rw b.1 (open_ok h w s good b.0 q r [] (composed-none q (length (held s))))
    go (some a) r b =
        rw (refused h w s m a good i r)
        (record { good = good; still = i; config = rw b.1.0; same = rw r; heeds = record { asks = tt; pieces = rw r; composed = composed-none q (length (held s)); closes = sym b.1.1; windows = tt }; settled = λ x. rw r refl; ends = rw r; kept = rw r })
