-- A session fits its buffers exactly where `misfit` says no. Assumes nothing.
use mathlib.Core.Bool.{Bool, true, false, true≢false}
use mathlib.Core.Path.{◌≡◌, refl}
use Prim.Native.Nat.{ℕ, ◌≤◌}
use lib.Dec.{eqb, ltb}
use lib.ListN.{length}
use borrow.Author.Tests.{le-ltb, eq-eqb, ltb-false, eqb-true}
use Rattle.protocol.specs.Bytes.{pick}
use Rattle.session.specs.declared.Session.{Session}
use Rattle.session.specs.Calls.{misfit, guarded}
use Rattle.session.specs.State.{St, Out, Fits, Good}

-- the last of its tests, behind the others
pub misfit-last : (s : Session) (x m : ℕ) → x ≡ s.capacity → m ≡ s.message → s.buf.head ≤ s.buf.tail → s.buf.tail ≤ s.capacity → 8 ≤ s.capacity
    → misfit s x m ≡ ltb s.message s.capacity
unfolding misfit
misfit-last s x m a b o i l =
    rw (eq-eqb x s.capacity a, eq-eqb m s.message b, le-ltb s.buf.tail s.buf.head o, le-ltb s.capacity s.buf.tail i, le-ltb s.capacity 8 l)

pub fits-misfit : (s : Session) (x m : ℕ) → Fits s x m → misfit s x m ≡ false
fits-misfit s x m f = rw (misfit-last s x m f.rx f.msg f.order f.inside f.least) (le-ltb s.message s.capacity f.aside)

pub misfit-fits : (s : Session) (x m : ℕ) → misfit s x m ≡ false → Fits s x m
unfolding misfit
misfit-fits s x m e =
    go (eqb x s.capacity) (eqb m s.message) (ltb s.buf.tail s.buf.head) (ltb s.capacity s.buf.tail) (ltb s.capacity 8)
    (ltb s.message s.capacity)
    refl refl refl refl refl refl e
  where
    go : (a b c d f g : Bool) → eqb x s.capacity ≡ a → eqb m s.message ≡ b → ltb s.buf.tail s.buf.head ≡ c
        → ltb s.capacity s.buf.tail ≡ d → ltb s.capacity 8 ≡ f → ltb s.message s.capacity ≡ g
        → pick a (pick b (pick c true (pick d true (pick f true g))) true) true ≡ false → Fits s x m
    go false b c d f g ea eb ec ed ef eg z = absurd (true≢false z)
    go true false c d f g ea eb ec ed ef eg z = absurd (true≢false z)
    go true true true d f g ea eb ec ed ef eg z = absurd (true≢false z)
    go true true false true f g ea eb ec ed ef eg z = absurd (true≢false z)
    go true true false false true g ea eb ec ed ef eg z = absurd (true≢false z)
    go true true false false false true ea eb ec ed ef eg z = absurd (true≢false z)
    go true true false false false false ea eb ec ed ef eg z =
        record {
          order = ltb-false s.buf.tail s.buf.head ec;
          inside = ltb-false s.capacity s.buf.tail ed;
          rx = eqb-true x s.capacity ea;
          least = ltb-false s.capacity 8 ef;
          aside = ltb-false s.message s.capacity eg;
          msg = eqb-true m s.message eb;
        }

-- a step of a session that fits
pub guarded-in : (s : St) (o : Out) → Good s → guarded s o ≡ o
unfolding guarded
guarded-in s o g = rw (fits-misfit s.ses (length s.rx) (length s.msg) g)
