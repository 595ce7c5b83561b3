-- What the host reads of a moment. Assumes nothing.
use Prim.Native.Nat.{ℕ, zero, suc, ◌+◌, ◌-◌, ◌*◌, ◌/◌, ◌≤◌, ◌<◌, ◌^◌}
use mathlib.Core.List.{List, [], ◌∷◌}
use mathlib.Core.Path.{◌≡◌, ap, ◌∙◌}
use native.Mathlib.Omega.{arith}
use borrow.Author.Tests.{le-leb, lt-leb}
use lib.ListN.{length, drop}
use Rattle.protocol.specs.Bytes.{number_at, over}
use Rattle.protocol.specs.Hours.{day_at, weekday, minute_at}
use Rattle.protocol.proofs.Bytes.{le-bytes_of, put_in}
use Rattle.calendar.specs.Calendar.{years, day_of, date_of}
use Rattle.calendar.specs.Claim.{Dating}
use Rattle.calendar.specs.Crossing.{reply_size, misplaced, laid, five_size, five, date_bytes, five_in, cross_date}
use Rattle.calendar.proofs.Calendar.{year-least, year-most, in_year, there, valid}

-- ---- the numbers fit eight bytes

years-least : (k : ℕ) → 365 * k ≤ years k
unfolding years
years-least zero = omega arith
years-least (suc k) = omega (arith, years-least k, year-least (1970 + k))

module _ (n : ℕ) where
  year-small : (date_of n).year ≤ 1970 + n
  unfolding day_of
  year-small = omega (arith, there n, years-least ((date_of n).year - 1970))

  day-small : (date_of n).day ≤ 366
  day-small =
      let d = date_of n in
      let v = valid n in
      omega (arith, v.within, in_year d.year d.month v.last, year-most d.year)

-- five numbers, read back
read_back_lem : (out : List ℕ) (a b c d e : ℕ) → a < 256 ^ 8 → b < 256 ^ 8 → c < 256 ^ 8 → d < 256 ^ 8 → e < 256 ^ 8
    → five_in (over out 0 (five a b c d e)) ≡ a ∷ b ∷ c ∷ d ∷ e ∷ []
unfolding number_at over
read_back_lem out a b c d e ha hb hc hd he = rw (le-bytes_of 8 a ha, le-bytes_of 8 b hb, le-bytes_of 8 c hc, le-bytes_of 8 d hd, le-bytes_of 8 e he)

-- ---- by the slice's length

module _ (t : ℕ) (out : List ℕ) where
  pub short : length out < reply_size → cross_date t out ≡ laid out misplaced
  unfolding cross_date
  short h = rw (lt-leb _ _ h)

  module _ (h : reply_size ≤ length out) where
    long : cross_date t out ≡ laid (over out 0 (date_bytes (date_of (day_at t)) (weekday (day_at t)) (minute_at t))) 0
    unfolding cross_date
    long =
        rw (le-leb _ _ h) (ap (λ (l : List ℕ). laid l 0) (put_in out 0 (date_bytes (date_of (day_at t)) (weekday (day_at t)) (minute_at t)) (omega arith)))

    answer : (cross_date t out).1 ≡ 0
    answer = ap (λ (p : List ℕ × ℕ). p.1) long

    told : t < 2 ^ 32
        → five_in (cross_date t out).0 ≡ (date_of (day_at t)).year ∷ (date_of (day_at t)).month ∷ (date_of (day_at t)).day ∷ weekday (day_at t) ∷ minute_at t ∷ []
    told w =
        let n = day_at t in
        let d = date_of n in
        ap (λ (p : List ℕ × ℕ). five_in p.0) long
        ∙ read_back_lem out d.year d.month d.day (weekday n) (minute_at t)
        (omega (arith, year-small n)) (omega (arith, (valid n).last)) (omega (arith, day-small n)) (omega arith) (omega arith)

    behind : drop five_size (cross_date t out).0 ≡ drop five_size out
    unfolding over
    behind = ap (λ (p : List ℕ × ℕ). drop five_size p.0) long

minutes : (t : ℕ) → 1440 * day_of (date_of (day_at t)) + minute_at t ≡ t / 60
minutes t = rw (there (day_at t)) (omega arith)

pub dating : Dating
dating = record { answer = answer; told = told; behind = behind; short = short; minutes = minutes }
