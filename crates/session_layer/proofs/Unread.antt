-- A call of a faithful log leaves no more bytes unread than it found.
-- Assumes nothing.
use Prim.Native.Nat.{ℕ, ◌-◌, ◌≤◌}
use mathlib.Core.Bool.{Bool, true, false}
use mathlib.Core.List.{List, [], ◌∷◌}
use mathlib.Core.Logic.{inl, inr}
use mathlib.Core.Option.{Option, none, some}
use mathlib.Core.Path.{ap}
use native.Mathlib.Omega.{arith}
use lib.Dec.{ltb}
use lib.ListN.{length, take, drop, length-append, length-drop, length-take}
use Rattle.protocol.specs.Answers.{End, too_large}
use Rattle.protocol.specs.Bytes.{pick}
use Rattle.protocol.specs.Calls.{Call, Made}
use Rattle.protocol.specs.Hours.{Hours}
use Rattle.protocol.specs.Reader.{Prog, answer, need, skip, ended, short, plain, Config, Report, program, config_after, end_of, reply, plain_call}
use Rattle.protocol.specs.Refusal.{turned}
use Rattle.session.specs.Faithful.{AllAtNeeds, reply_of, AsMade, Faithful}
use Rattle.session.specs.Host.{Ask, Stop, Entry, outcome_of}
use Rattle.session_reads.proofs.Turns.{Noted, Stopped, Linked}

plain-leaves : (c : ℕ) (e : End) (p : Prog) (u : List ℕ) → length (reply e (plain c p u)).unread ≤ length u
unfolding plain
plain-leaves c e (answer a) u = omega arith
plain-leaves c e (need n k) u = go (ltb c n) (ltb (length u) n) (plain-leaves c e (k (take n u)) u)
  where
    go : (b b' : Bool) → length (reply e (plain c (k (take n u)) u)).unread ≤ length u
        → length (reply e (pick b (ended too_large u) (pick b' (short n u) (plain c (k (take n u)) u)))).unread ≤ length u
    go true b' r = omega arith
    go false true r = omega arith
    go false false r = r
plain-leaves c e (skip n p) u = omega (arith, plain-leaves c e p (drop n u), length-drop n u)

-- a read that came to a fault stood at a need: what was to come there is some of what was unread
noted_within : (g : Config) (r : Report) (q : Call) (v : List ℕ) (ps : List (List ℕ)) (rest : List ℕ) (xs : List Ask) → AllAtNeeds g r q v ps xs → Noted rest xs
    → length rest ≤ length v
noted_within g r q v ps rest [] n z = absurd z
noted_within g r q v ps rest (a ∷ more) (n, (m, ns)) (inl (b, e)) = omega (arith, ap length e, ap length n.split, length-append n.come a.rest)
noted_within g r q v ps rest (a ∷ more) (n, (m, ns)) (inr z) = noted_within g r q v ps rest more ns z

reply-leaves : (s : Option Stop) (g : Config) (e : End) (r : Report) (q : Call) (v : List ℕ) (ps : List (List ℕ)) (xs : List Ask) → AllAtNeeds g r q v ps xs → Stopped s xs
    → length (reply_of s g e r q v).unread ≤ length v
reply-leaves none g e r q v ps xs n z = plain-leaves g.capacity (end_of e r q) (program g r q) v
reply-leaves (some s) g e r q v ps xs n z =
    let u : List ℕ = take (length v - length s.rest) v in
    omega (arith, noted_within g r q v ps s.rest xs n z, plain-leaves g.capacity (end_of s.fault r q) (program g r q) u, length-take (length v - length s.rest) v, length-append (plain_call g s.fault r q u).unread s.rest)

-- each of the log's, at most n bytes
abbrev pub UnreadWithin : ℕ → List Entry → Type 0
UnreadWithin n [] = Unit {0}
UnreadWithin n (x ∷ xs) = (length x.unread ≤ n) × UnreadWithin n xs

-- one that the hours turned away leaves all
made-leaves : (b : Bool) (g : Config) (e : End) (q : Call) (v : List ℕ) (x : Entry) → AsMade b g e q v x → Stopped x.stopped x.asks → length x.unread ≤ length v
made-leaves true g e q v x f s = omega (arith, ap length f.unread)
made-leaves false g e q v x f s = omega (arith, ap length f.unread, reply-leaves x.stopped g e (outcome_of x.broken) q v x.pieces x.asks f.asks s)

pub log-unread_within : (n : ℕ) (t : Option Hours) (e : End) (g : Config) (ms : List Made) (v h l : List ℕ) (es : List Entry) → Faithful t g e ms v es → Linked h l es → length v ≤ n
    → UnreadWithin n es
log-unread_within n t e g [] v h l [] f k b = tt
log-unread_within n t e g [] v h l (x ∷ es) f k b = absurd f
log-unread_within n t e g (m ∷ ms) v h l [] f k b = absurd f
log-unread_within n t e g (m ∷ ms) v h l (x ∷ es) (f, fs) (is, (h', (l', (u, (z, ks))))) b =
    let i : length x.unread ≤ n = omega (arith, made-leaves (turned t g.setting m) g e m.call v x f u.stops) in
    (i, log-unread_within n t e (config_after g m.call) ms x.unread h' l' es fs ks i)
