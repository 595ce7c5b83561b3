-- Every answer of the plain reader over bytes is known to the index: none is refused with 0, and no entry of v1 has a time past 32 bits.
-- Assumes nothing.
use Prim.Native.Nat.{ℕ, zero, suc, ◌-◌, ◌<◌, min}
use mathlib.Core.Bool.{Bool, true, false, ◌&&◌, not}
use mathlib.Core.List.{List, [], ◌∷◌}
use mathlib.Core.Option.{Option, none, some}
use mathlib.Core.Path.{◌≡◌}
use native.Mathlib.Omega.{arith}
use borrow.Author.Tests.{lt-ltb}
use lib.Dec.{eqb, ltb}
use lib.IntN.{ℤ}
use lib.ListN.{length, get_or, take, drop}
use Rattle.protocol.specs.Answers as A
use Rattle.protocol.specs.Answers.{Answer, End}
use Rattle.protocol.specs.Bytes.{Bytes, pick, same, has, number_at}
use Rattle.protocol.specs.Calls.{Version, v1, v2, Call, call, next_entry, next_chunk, Made}
use Rattle.protocol.specs.Flags.{bit, dry_run, refused_flags}
use Rattle.protocol.specs.Ids.{Dialect, FAIL}
use Rattle.protocol.specs.Messages.{PathOnly, stat, sta2, list, lis2, recv, Request, ask, rcv2, send, snd2, chunk, done, quit}
use Rattle.protocol.specs.Reader.{Prog, answer, need, skip, Result, ended, short, plain, drain, failing, Way, among_ways, next, stat_ways, entry_ways, chunk_ways, okay_ways, Report, accepted, broke, Config, closing, written, unless_refused, program, reply, plain_call, config_after, plain_made, plain_answers}
use Rattle.protocol.specs.Hours.{Hours}
use Rattle.protocol.specs.Records.{Stat, id_at, arg_at, stat_at, dent_at, stat2_at}
use Rattle.protocol.specs.Refusal.{Setting, or_else, refuse, path_refusal, flag_refusal, feature_refusal, transfer_refusal, ask_feature, request_refusal, call_refusal, refusal, closed_hours, turned}
use Rattle.protocol.proofs.Bytes.{bytes_drop}
use Rattle.protocol.proofs.Words.{bytes_take, le_below}
use Rattle.time_index.specs.Index.{entry, nothing, unknown, offered, Known}
use Rattle.time_index.specs.Claim.{AllKnown}

quiet : nothing ≡ unknown → ⊥
quiet e = let z : ◌≡◌ {A = ℕ} 0 1 = cc in omega arith

pub an_entry : (t : ℤ) (name : List ℕ) → entry t name ≡ unknown → ⊥
an_entry t name e = let z : ◌≡◌ {A = ℕ} 0 1 = cc in omega arith

entry_known : (s : Stat) (name : List ℕ) → s.mtime < 0x1_0000_0000 → Known (A.entry s name)
unfolding offered
entry_known s name h = rw (lt-ltb _ _ h) (an_entry _ name)

-- ---- programs

abbrev KnownProg : Prog → Type 0
KnownProg (answer a) = Known a
KnownProg (need n k) = (x : List ℕ) → Bytes x → KnownProg (k x)
KnownProg (skip n p) = KnownProg p

abbrev KnownResult : Result → Type 0
KnownResult (ended a u) = Known a × Bytes u
KnownResult (short n u) = Bytes u

plain-keeps : (c : ℕ) (p : Prog) (u : List ℕ) → Bytes u → KnownProg p → KnownResult (plain c p u)
unfolding plain offered
plain-keeps c (answer a) u b h = (h, b)
plain-keeps c (need n k) u b h = go (ltb c n) (ltb (length u) n) (plain-keeps c (k (take n u)) u b (h (take n u) (bytes_take n u b)))
  where
    go : (p q : Bool) → KnownResult (plain c (k (take n u)) u)
        → KnownResult (pick p (ended A.too_large u) (pick q (short n u) (plain c (k (take n u)) u)))
    go true q r = (quiet, b)
    go false true r = b
    go false false r = r
plain-keeps c (skip n p) u b h = plain-keeps c p (drop n u) (bytes_drop n u b) h

either : (b : Bool) (p q : Prog) → KnownProg p → KnownProg q → KnownProg (pick b p q)
either true p q h k = h
either false p q h k = k

drain-known : (c f left : ℕ) (t : List ℕ) → KnownProg (drain c f left t)
unfolding drain offered
drain-known c zero left t = quiet
drain-known c (suc f) left t =
    either (eqb left 0) (answer (A.fail t)) (need (min left c) (λ x. skip (min left c) (drain c f (left - min left c) t))) quiet
    (λ x b. drain-known c f (left - min left c) t)

abbrev KnownWays : List Way → Type 0
KnownWays [] = Unit {0}
KnownWays (w ∷ ws) = ((h : List ℕ) → Bytes h → KnownProg (w.on h)) × KnownWays ws

among-known : (d : Dialect) (ws : List Way) (h : List ℕ) (other : Answer) → Bytes h → Known other → KnownWays ws → KnownProg (among_ways d ws h other)
among-known d [] h other b k w = k
among-known d (w ∷ ws) h other b k r =
    either (same (id_at h) (d.bytes w.id)) (w.on h) (among_ways d ws h other) (r.0 h b) (among-known d ws h other b k r.1)

-- `next` of known ways
next_known : (g : Config) (ws : List Way) → KnownWays ws → KnownProg (next g.setting.dialect g.capacity ws)
unfolding offered
next_known g ws w h b =
    let d = g.setting.dialect in
    let c = g.capacity in
    either (same (id_at h) (d.bytes FAIL)) (failing c (arg_at h)) (among_ways d ws h (A.unexpected (id_at h)))
    (λ t y. drain-known c (arg_at h) (arg_at h - min (arg_at h) c) t) (among-known d ws h (A.unexpected (id_at h)) b quiet w)

stat-ways : (v : Version) → KnownWays (stat_ways v)
unfolding offered
stat-ways v1 = (λ h b x y. quiet, tt)
stat-ways v2 = (λ h b x y. go (eqb (stat2_at x).error 0) x, tt)
  where
    go : (p : Bool) (x : List ℕ) → Known (pick p (A.stat2 (stat2_at x)) (A.errno (stat2_at x).error))
    go true x = quiet
    go false x = quiet

entry-ways : (v : Version) → KnownWays (entry_ways v)
unfolding offered dent_at stat_at number_at
entry-ways v1 = (λ h b x y name z. entry_known (stat_at x) name (le_below 4 (drop 12 x) (bytes_drop 12 x y)), (λ h b x y. quiet, tt))
entry-ways v2 = (λ h b x y name z. an_entry _ name, (λ h b x y. quiet, tt))

closing-known : (r : Report) → Known (closing r)
unfolding offered
closing-known accepted = quiet
closing-known (broke e) = quiet

written_known : (g : Config) (q : Call) → KnownProg (written g q)
unfolding written offered
written_known g (call (ask stat p)) = next_known g (stat_ways v1) (stat-ways v1)
written_known g (call (ask sta2 p)) = next_known g (stat_ways v2) (stat-ways v2)
written_known g (call (ask list p)) = quiet
written_known g (call (ask lis2 p)) = quiet
written_known g (call (ask recv p)) = quiet
written_known g (call (rcv2 p f)) = quiet
written_known g (call (send p m)) = quiet
written_known g (call (snd2 p m f)) = quiet
written_known g (call (chunk x)) = quiet
written_known g (call (done t)) = next_known g okay_ways (λ h b. quiet, tt)
written_known g (call quit) = closing-known g.close
written_known g (next_entry v) = next_known g (entry_ways v) (entry-ways v)
written_known g next_chunk = next_known g chunk_ways (λ h b x y. quiet, (λ h b. quiet, tt))

-- ---- refusals

data KnownIf : Option Answer → Type 0 where
  unrefused : KnownIf none
  refused : {a : Answer} → Known a → KnownIf (some a)

or_known : {a b : Option Answer} → KnownIf a → KnownIf b → KnownIf (or_else a b)
or_known unrefused k = k
or_known (refused h) k = refused h

refuse-known : (b : Bool) (a : Answer) → Known a → KnownIf (refuse b a)
refuse-known true a h = refused h
refuse-known false a h = unrefused

path-known : (d : Dialect) (p : List ℕ) → KnownIf (path_refusal d p)
unfolding path_refusal offered
path-known d p = or_known (refuse-known (has 0 p) (A.refused 8) quiet) (refuse-known (ltb d.longest (length p)) (A.refused 7) quiet)

feature_known : (has : List Bool) (needed : Bool) (n : ℕ) → KnownIf (feature_refusal has needed n)
unfolding feature_refusal offered
feature_known has needed zero = unrefused
feature_known has needed (suc n) = refuse-known (needed && not (get_or has n false)) (A.missing (suc n)) quiet

ask-known : (has : List Bool) (i : PathOnly) → KnownIf (ask_feature has i)
ask-known has stat = unrefused
ask-known has sta2 = feature_known has true 1
ask-known has list = unrefused
ask-known has lis2 = feature_known has true 2
ask-known has recv = unrefused

transfer_known : (pull : Bool) (has : List Bool) (f : ℕ) → KnownIf (or_else (flag_refusal pull f) (transfer_refusal has f))
unfolding flag_refusal transfer_refusal offered
transfer_known pull has f =
    or_known (refuse-known (refused_flags pull f) (A.refused 9) quiet)
    (or_known (feature_known has true 3)
    (or_known (feature_known has (eqb (bit 0 f) 1) 4)
    (or_known (feature_known has (eqb (bit 1 f) 1) 5)
    (or_known (feature_known has (eqb (bit 2 f) 1) 6) (feature_known has (dry_run f) 7)))))

request-known : (g : Setting) (q : Request) → KnownIf (request_refusal g q)
unfolding request_refusal
request-known g (ask i p) = or_known (path-known g.dialect p) (ask-known g.features i)
request-known g (rcv2 p f) = or_known (path-known g.dialect p) (transfer_known true g.features f)
request-known g (send p m) = path-known g.dialect p
request-known g (snd2 p m f) = or_known (path-known g.dialect p) (transfer_known false g.features f)
request-known g (chunk x) = unrefused
request-known g (done t) = unrefused
request-known g quit = unrefused

call_known : (g : Setting) (q : Call) → KnownIf (call_refusal g q)
call_known g (call q) = request-known g q
call_known g (next_entry v) = unrefused
call_known g next_chunk = unrefused

refusal-known : (g : Setting) (q : Call) → KnownIf (refusal g q)
unfolding refusal offered
refusal-known g q = or_known (refuse-known g.ended (A.refused 6) quiet) (call_known g q)

-- ---- calls

unless_known : {o : Option Answer} (p : Prog) → KnownIf o → KnownProg p → KnownProg (unless_refused o p)
unless_known p unrefused k = k
unless_known p (refused h) k = h

reply-known : (e : End) (r : Result) → KnownResult r → Known (reply e r).answer × Bytes (reply e r).unread
unfolding offered
reply-known e (ended a u) h = h
reply-known e (short n u) h = (quiet, h)

made-known : (h : Option Hours) (g : Config) (e : End) (m : Made) (u : List ℕ) → Bytes u → Known (plain_made h g e m u).answer × Bytes (plain_made h g e m u).unread
unfolding offered
made-known h g e m u b = go (turned h g.setting m)
  where
    q : Call
    q = m.call

    go : (x : Bool) → Known (pick x (record { answer = A.refused closed_hours; unread = u }) (plain_call g e accepted m.call u)).answer
        × Bytes (pick x (record { answer = A.refused closed_hours; unread = u }) (plain_call g e accepted m.call u)).unread
    go true = (quiet, b)
    go false =
        reply-known e (plain g.capacity (program g accepted q) u)
        (plain-keeps g.capacity (program g accepted q) u b (unless_known (written g q) (refusal-known g.setting q) (written_known g q)))

pub plain_known : (h : Option Hours) (g : Config) (e : End) (ms : List Made) (u : List ℕ) → Bytes u → AllKnown (plain_answers h g e ms u)
unfolding plain_answers
plain_known h g e [] u b = tt
plain_known h g e (m ∷ ms) u b =
    let r = made-known h g e m u b in
    (r.0, plain_known h (config_after g m.call) e ms (plain_made h g e m u).unread r.1)
