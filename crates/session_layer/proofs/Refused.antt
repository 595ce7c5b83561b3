-- A call of a faithful log that answers with a refusal, one of the caller's numbers or 25, has asked the host nothing: no other leaf of the plain reader's
-- programs is one.
-- Assumes nothing.
use Prim.Native.Nat.{ℕ, zero, suc, ◌-◌, min}
use mathlib.Core.Bool.{Bool, true, false, true≢false}
use mathlib.Core.List.{List, [], ◌∷◌}
use mathlib.Core.Option.{Option, none, some, none-ne-some}
use mathlib.Core.Path.{◌≡◌, refl, sym, ap, ◌∙◌}
use native.Mathlib.Omega.{arith}
use lib.Dec.{eqb, ltb}
use lib.ListN.{length, take, drop, length-append}
use Rattle.protocol.specs.Answers as A
use Rattle.protocol.specs.Answers.{Answer, End, closed, error}
use Rattle.protocol.specs.Bytes.{pick, same}
use Rattle.protocol.specs.Calls.{Version, v1, v2, Call, call, next_entry, next_chunk, messages, Made}
use Rattle.protocol.specs.Hours.{Hours}
use Rattle.protocol.specs.Ids.{Dialect, FAIL}
use Rattle.protocol.specs.Messages.{stat, sta2, list, lis2, recv, ask, rcv2, send, snd2, chunk, done, quit}
use Rattle.protocol.specs.Reader.{Prog, answer, need, skip, ended, short, plain, drain, failing, Way, among_ways, next_on, next, taking, stat_ways, entry_ways, chunk_ways, okay_ways, Config, Report, accepted, broke, closing, written, push_broke, write_broke, on_report, unless_refused, program, is_quit, config_after, end_of, reply, plain_call}
use Rattle.protocol.specs.Records.{id_at, arg_at, Stat2, stat2_at}
use Rattle.protocol.specs.Refusal.{Setting, or_else, refuse, request_refusal, refusal, turned}
use Rattle.session.specs.Faithful.{AllAtNeeds, comes_out, pieces_of, unless_pieces, call_pieces, Accepted, closes_for, reply_of, AsReader, AsMade, Faithful}
use Rattle.session.specs.Host.{Ask, Broken, Stop, Entry, outcome_of}
use Rattle.session_layer.specs.Layer.{was_refused}

-- ---- programs that answer with no refusal

abbrev Serves : Prog → Type 0
Serves (answer a) = was_refused a ≡ false
Serves (need n k) = (x : List ℕ) → Serves (k x)
Serves (skip n p) = Serves p

broken-serves : (e : End) → was_refused (A.broken e) ≡ false
broken-serves closed = refl
broken-serves (error c) = refl

plain-serves : (c : ℕ) (e : End) (p : Prog) (u : List ℕ) → Serves p → was_refused (reply e (plain c p u)).answer ≡ false
unfolding plain
plain-serves c e (answer a) u s = s
plain-serves c e (need n k) u s = go (ltb c n) (ltb (length u) n) (plain-serves c e (k (take n u)) u (s (take n u)))
  where
    go : (b b' : Bool) → was_refused (reply e (plain c (k (take n u)) u)).answer ≡ false
        → was_refused (reply e (pick b (ended A.too_large u) (pick b' (short n u) (plain c (k (take n u)) u)))).answer ≡ false
    go true b' r = refl
    go false true r = broken-serves e
    go false false r = r
plain-serves c e (skip n p) u s = plain-serves c e p (drop n u) s

pick-serves : (b : Bool) (p q : Prog) → Serves p → Serves q → Serves (pick b p q)
pick-serves true p q x y = x
pick-serves false p q x y = y

drain-serves : (c f left : ℕ) (t : List ℕ) → Serves (drain c f left t)
unfolding drain
drain-serves c zero left t = refl
drain-serves c (suc f) left t =
    pick-serves (eqb left 0) (answer (A.fail t)) (taking (min left c) (λ x. drain c f (left - min left c) t)) refl (λ x. drain-serves c f (left - min left c) t)

abbrev AllServe : List Way → Type 0
AllServe [] = Unit {0}
AllServe (w ∷ ws) = ((h : List ℕ) → Serves (w.on h)) × AllServe ws

ways_serve : (d : Dialect) (ws : List Way) (h : List ℕ) (o : Answer) → was_refused o ≡ false → AllServe ws → Serves (among_ways d ws h o)
ways_serve d [] h o e a = e
ways_serve d (w ∷ ws) h o e (x, a) = pick-serves (same (id_at h) (d.bytes w.id)) (w.on h) (among_ways d ws h o) (x h) (ways_serve d ws h o e a)

header-serves : (d : Dialect) (c : ℕ) (ws : List Way) (f : List ℕ → Answer) → ((i : List ℕ) → was_refused (f i) ≡ false) → AllServe ws → Serves (need 8 (next_on d c ws f))
header-serves d c ws f e a h =
    pick-serves (same (id_at h) (d.bytes FAIL)) (failing c (arg_at h)) (among_ways d ws h (f (id_at h)))
    (λ t. drain-serves c (arg_at h) (arg_at h - min (arg_at h) c) t) (ways_serve d ws h (f (id_at h)) (e (id_at h)) a)

stat2-serves : (s : Stat2) (b : Bool) → was_refused (pick b (A.stat2 s) (A.errno s.error)) ≡ false
stat2-serves s true = refl
stat2-serves s false = refl

stat-ways : (v : Version) → AllServe (stat_ways v)
stat-ways v1 = ((λ h x. refl), tt)
stat-ways v2 = ((λ h x. stat2-serves (stat2_at x) (eqb (stat2_at x).error 0)), tt)

entry-ways : (v : Version) → AllServe (entry_ways v)
entry-ways v1 = ((λ h x y. refl), ((λ h x. refl), tt))
entry-ways v2 = ((λ h x y. refl), ((λ h x. refl), tt))

next-serves : (g : Config) (ws : List Way) → AllServe ws → Serves (next g.setting.dialect g.capacity ws)
next-serves g ws a = header-serves g.setting.dialect g.capacity ws A.unexpected (λ i. refl) a

closing-serves : (r : Report) → was_refused (closing r) ≡ false
closing-serves accepted = refl
closing-serves (broke e) = broken-serves e

written-serves : (g : Config) (q : Call) → Serves (written g q)
unfolding written
written-serves g (call (ask stat p)) = next-serves g (stat_ways v1) (stat-ways v1)
written-serves g (call (ask sta2 p)) = next-serves g (stat_ways v2) (stat-ways v2)
written-serves g (call (ask list p)) = refl
written-serves g (call (ask lis2 p)) = refl
written-serves g (call (ask recv p)) = refl
written-serves g (call (rcv2 p f)) = refl
written-serves g (call (send p m)) = refl
written-serves g (call (snd2 p m f)) = refl
written-serves g (call (chunk x)) = refl
written-serves g (call (done t)) = next-serves g okay_ways ((λ h. refl), tt)
written-serves g (call quit) = closing-serves g.close
written-serves g (next_entry v) = next-serves g (entry_ways v) (entry-ways v)
written-serves g next_chunk = next-serves g chunk_ways ((λ h x. refl), ((λ h. refl), tt))

push_serves : (g : Config) (e : End) → Serves (push_broke g e)
push_serves g closed = header-serves g.setting.dialect g.capacity [] (λ id. A.broken closed) (λ i. refl) tt
push_serves g (error c) = refl

broke-serves : (g : Config) (e : End) (q : Call) → Serves (write_broke g e q)
unfolding write_broke
broke-serves g e (call (ask i p)) = broken-serves e
broke-serves g e (call (rcv2 p f)) = broken-serves e
broke-serves g e (call (send p m)) = push_serves g e
broke-serves g e (call (snd2 p m f)) = push_serves g e
broke-serves g e (call (chunk x)) = push_serves g e
broke-serves g e (call (done t)) = push_serves g e
broke-serves g closed (call quit) = closing-serves g.close
broke-serves g (error c) (call quit) = refl
broke-serves g e (next_entry v) = written-serves g (next_entry v)
broke-serves g e next_chunk = written-serves g next_chunk

report-serves : (g : Config) (r : Report) (q : Call) → Serves (on_report g r q)
report-serves g accepted q = written-serves g q
report-serves g (broke e) q = broke-serves g e q

-- ---- what is answered with a refusal was refused, and with that

pub refused-by : (g : Config) (e : End) (r : Report) (q : Call) (u : List ℕ) → was_refused (plain_call g e r q u).answer ≡ true
    → refusal g.setting q ≡ some (plain_call g e r q u).answer
unfolding plain
refused-by g e r q u = go (refusal g.setting q) refl
  where
    go : (o : Option Answer) → refusal g.setting q ≡ o → was_refused (reply (end_of e r q) (plain g.capacity (unless_refused o (on_report g r q)) u)).answer ≡ true
        → o ≡ some (reply (end_of e r q) (plain g.capacity (unless_refused o (on_report g r q)) u)).answer
    go (some a) i z = refl
    go none i z = absurd (true≢false (sym z ∙ plain-serves g.capacity (end_of e r q) (on_report g r q) u (report-serves g r q)))

-- also where a read came to a fault
reply-refused : (s : Option Stop) (g : Config) (e : End) (r : Report) (q : Call) (v : List ℕ) → was_refused (reply_of s g e r q v).answer ≡ true
    → refusal g.setting q ≡ some (reply_of s g e r q v).answer
reply-refused none g e r q v z = refused-by g e r q v z
reply-refused (some s) g e r q v z = refused-by g s.fault r q (take (length v - length s.rest) v) z

-- ---- then nothing was asked

abbrev pub Unasked : List Ask → List (List ℕ) → List Broken → List (List (List ℕ)) → Type 0
Unasked asks pieces broken closes = (asks ≡ []) × ((pieces ≡ []) × ((broken ≡ []) × (closes ≡ [])))

none-asked : (g : Config) (r : Report) (q : Call) (v : List ℕ) (ps : List (List ℕ)) (xs : List Ask) (a : Answer) → refusal g.setting q ≡ some a → AllAtNeeds g r q v ps xs → xs ≡ []
unfolding plain
none-asked g r q v ps [] a e n = refl
none-asked g r q v ps (x ∷ xs) a e (n, (m, ns)) =
    let y : plain g.capacity (program g r q) n.come ≡ ended a n.come = ap (λ (o : Option Answer). plain g.capacity (unless_refused o (on_report g r q)) n.come) e in
    absurd (true≢false (ap comes_out (sym y ∙ n.falls)))

none-offered : (ps xs : List (List ℕ)) (bs : List Broken) → ps ≡ [] → Accepted ps xs bs → (xs ≡ []) × (bs ≡ [])
none-offered ps xs [] e h = (h ∙ e, refl)
none-offered ps xs (b ∷ []) e (rest, (s, x)) = absurd (omega (arith, ap length (sym s ∙ e), length-append xs (b.piece ∷ rest)))
none-offered ps xs (b ∷ c ∷ bs) e h = absurd h

-- only a quit closes, and it is refused once the session has ended
none-closed : (g : Setting) (q : Call) (ps : List (List ℕ)) (a : Answer) → refusal g q ≡ some a → closes_for (is_quit q) g.ended ps ≡ []
unfolding refusal request_refusal
none-closed g (call (ask i p)) ps a e = refl
none-closed g (call (rcv2 p f)) ps a e = refl
none-closed g (call (send p m)) ps a e = refl
none-closed g (call (snd2 p m f)) ps a e = refl
none-closed g (call (chunk x)) ps a e = refl
none-closed g (call (done t)) ps a e = refl
none-closed g (call quit) ps a e = go g.ended e
  where
    go : (b : Bool) → or_else (refuse b (A.refused 6)) none ≡ some a → closes_for true b ps ≡ []
    go true z = refl
    go false z = absurd (none-ne-some a z)
none-closed g (next_entry v) ps a e = refl
none-closed g next_chunk ps a e = refl

entry-unasked : (g : Config) (e : End) (q : Call) (v : List ℕ) (x : Entry) → AsReader g e q v x → was_refused x.answer ≡ true
    → Unasked x.asks x.pieces x.broken x.closes
entry-unasked g e q v x r z =
    let a : Answer = (reply_of x.stopped g e (outcome_of x.broken) q v).answer in
    let s : refusal g.setting q ≡ some a = reply-refused x.stopped g e (outcome_of x.broken) q v (ap was_refused (sym r.answer) ∙ z) in
    let o = none-offered (call_pieces g q (length x.held)) x.pieces x.broken (ap (λ (y : Option Answer). unless_pieces y (pieces_of g.setting.dialect (g.capacity - length x.held) (messages q))) s) r.pieces in
    (none-asked g (outcome_of x.broken) q v x.pieces x.asks a s r.asks, (o.0, (o.1, r.closes ∙ none-closed g.setting q x.pieces a s)))

-- .. nor where the hours turned it away
made-unasked : (b : Bool) (g : Config) (e : End) (q : Call) (v : List ℕ) (x : Entry) → AsMade b g e q v x → was_refused x.answer ≡ true
    → Unasked x.asks x.pieces x.broken x.closes
made-unasked true g e q v x r z = (r.asks, (r.pieces, (r.broken, r.closes)))
made-unasked false g e q v x r z = entry-unasked g e q v x r z

-- .. in every call of a log
abbrev pub RefusedUnasked : List Entry → Type 0
RefusedUnasked [] = Unit {0}
RefusedUnasked (x ∷ xs) = (was_refused x.answer ≡ true → Unasked x.asks x.pieces x.broken x.closes) × RefusedUnasked xs

pub log-unasked : (h : Option Hours) (e : End) (g : Config) (ms : List Made) (v : List ℕ) (es : List Entry) → Faithful h g e ms v es → RefusedUnasked es
log-unasked h e g [] v [] f = tt
log-unasked h e g [] v (x ∷ es) f = absurd f
log-unasked h e g (m ∷ ms) v [] f = absurd f
log-unasked h e g (m ∷ ms) v (x ∷ es) (f, fs) =
    (made-unasked (turned h g.setting m) g e m.call v x f, log-unasked h e (config_after g m.call) ms x.unread es fs)
