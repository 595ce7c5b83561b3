-- Days and dates determine each other. Assumes nothing.
use Prim.Native.Nat.{ℕ, zero, suc, ◌+◌, ◌-◌, ◌≤◌, ◌<◌}
use mathlib.Core.Bool.{Bool, true, false}
use mathlib.Core.Path.{◌≡◌, refl, sym, ap, ap₂, ◌∙◌, subst}
use native.Mathlib.Omega.{arith}
use borrow.Author.Tests.{lt-ltb, le-ltb, ltb-true, ltb-false}
use mathlib.Core.List.{◌∷◌}
use lib.Dec.{ltb}
use lib.ListN.{get_or}
use Rattle.protocol.specs.Bytes.{pick}
use Rattle.calendar.specs.Calendar.{Date, date, leap, year_length, february, lengths, month_length, Valid, following, month_from, year_from, date_of, before_month, years, day_of}
use Rattle.calendar.specs.Claim.{Calendar}

module _ (y : ℕ) where
  pub year-least : 365 ≤ year_length y
  unfolding year_length
  year-least = go (leap y)
    where
      go : (l : Bool) → 365 ≤ pick l 366 365
      go true = omega arith
      go false = omega arith

  pub year-most : year_length y ≤ 366
  unfolding year_length
  year-most = go (leap y)
    where
      go : (l : Bool) → pick l 366 365 ≤ 366
      go true = omega arith
      go false = omega arith

abbrev at : Bool → ℕ → ℕ
at l m = get_or (0 ∷ lengths l) m 0

-- the twelve months are the year
year-months : (y : ℕ) → before_month y 13 ≡ year_length y
unfolding year_length before_month month_length
year-months y = go (leap y)
  where
    go : (l : Bool) → (0 + at l 0 + at l 1 + at l 2 + at l 3 + at l 4 + at l 5 + at l 6 + at l 7 + at l 8 + at l 9 + at l 10 + at l 11 + at l 12)
        ≡ pick l 366 365
    go true = refl
    go false = refl

-- ---- sums of months and of years grow

before-grows : (y m j z : ℕ) → z ≡ m + j → before_month y m ≤ before_month y z
unfolding before_month
before-grows y m zero z e = let q : m ≡ z = omega arith in omega (arith, ap (before_month y) q)
before-grows y m (suc j) z e =
    let q : suc (m + j) ≡ z = omega arith in
    omega (arith, before-grows y m j (m + j) refl, ap (before_month y) q)

years-grow : (k j z : ℕ) → z ≡ k + j → years k ≤ years z
unfolding years
years-grow k zero z e = let q : k ≡ z = omega arith in omega (arith, ap years q)
years-grow k (suc j) z e = let q : suc (k + j) ≡ z = omega arith in omega (arith, years-grow k j (k + j) refl, ap years q)

-- ---- from a date to its day and back

month-back : (j f y m z n d : ℕ) → z ≡ m + j → j ≤ f → 1 ≤ d → d ≤ month_length y z → before_month y m + n + 1 ≡ before_month y z + d → month_from f y m n ≡ date y z d
unfolding month_from before_month
month-back zero zero y m z n d e le one within q = let s : m ≡ z = omega arith in ap₂ (date y) s (omega (arith, ap (before_month y) s))
month-back zero (suc f) y m z n d e le one within q =
    let s : m ≡ z = omega arith in
    let t = ap (before_month y) s in
    let l = ap (month_length y) s in
    rw (lt-ltb n (month_length y m) (omega arith)) (ap₂ (date y) s (omega arith))
month-back (suc j) zero y m z n d e le one within q = absurd (omega arith)
month-back (suc j) (suc f) y m z n d e le one within q =
    let grown = before-grows y (suc m) j z (omega arith) in
    rw (le-ltb n (month_length y m) (omega arith)) (month-back j f y (suc m) z (n - month_length y m) d (omega arith) (omega arith) one within (omega arith))

year-back : (j f k z n x : ℕ) → z ≡ k + j → n < f → x < year_length (1970 + z) → years k + n ≡ years z + x → year_from f (1970 + k) n ≡ month_from 11 (1970 + z) 1 x
unfolding year_from years
year-back j zero k z n x e fuel within q = absurd (omega arith)
year-back zero (suc f) k z n x e fuel within q =
    let s : k ≡ z = omega arith in
    let t : n ≡ x = omega (arith, ap years s) in
    rw (s, t, lt-ltb x (year_length (1970 + z)) within)
year-back (suc j) (suc f) k z n x e fuel within q =
    let grown = years-grow (suc k) j z (omega arith) in
    let s : suc (1970 + k) ≡ 1970 + suc k = omega arith in
    rw (le-ltb n (year_length (1970 + k)) (omega arith), s)
    (year-back j f (suc k) z (n - year_length (1970 + k)) x (omega arith) (omega (arith, year-least (1970 + k))) within (omega arith))

-- ---- from a day to its date and back

pub record InYear (y k : ℕ) (d : Date) : Type 0 where
  pub year : d.year ≡ y
  pub first : 1 ≤ d.month
  pub last : d.month ≤ 12
  pub one : 1 ≤ d.day
  pub within : d.day ≤ month_length y d.month
  pub counts : before_month y d.month + (d.day - 1) ≡ k

month-there : (f y m n : ℕ) → m + f ≡ 12 → 1 ≤ m → before_month y m + n < before_month y 13 → InYear y (before_month y m + n) (month_from f y m n)
unfolding month_from before_month
month-there zero y m n e one less =
    let twelve : m ≡ 12 = omega arith in
    let t = ap (before_month y) twelve in
    let l = ap (month_length y) twelve in
    record { year = refl; first = one; last = omega arith; one = omega arith; within = omega arith; counts = omega arith }
month-there (suc f) y m n e one less =
    go (ltb n (month_length y m)) refl (λ ge. month-there f y (suc m) (n - month_length y m) (omega arith) (omega arith) (omega arith))
  where
    go : (b : Bool) → ltb n (month_length y m) ≡ b
        → (month_length y m ≤ n → InYear y (before_month y (suc m) + (n - month_length y m)) (month_from f y (suc m) (n - month_length y m)))
        → InYear y (before_month y m + n) (pick b (date y m (suc n)) (month_from f y (suc m) (n - month_length y m)))
    go true t k =
        let lt = ltb-true n (month_length y m) t in
        record { year = refl; first = one; last = omega arith; one = omega arith; within = omega arith; counts = omega arith }
    go false t k =
        let ge = ltb-false n (month_length y m) t in
        let s : before_month y (suc m) + (n - month_length y m) ≡ before_month y m + n = omega arith in
        subst (λ (i : ℕ). InYear y i (month_from f y (suc m) (n - month_length y m))) s (k ge)

-- a date in its year, n days behind it
pub record InTime (n : ℕ) (d : Date) : Type 0 where
  pub valid : Valid d
  pub counts : day_of d ≡ n

in_time_lem : (k n : ℕ) (d : Date) → InYear (1970 + k) n d → InTime (years k + n) d
unfolding day_of
in_time_lem k n d h =
    let y = h.year in
    let since : d.year - 1970 ≡ k = omega arith in
    let l = ap (λ (x : ℕ). month_length x d.month) y in
    let b = ap (λ (x : ℕ). before_month x d.month) y in
    let s = ap years since in
    record {
      valid = record { from = omega arith; first = h.first; last = h.last; one = h.one; within = omega (arith, l, h.within) };
      counts = omega (arith, b, s, h.counts);
    }

in_january : (y n : ℕ) {d : Date} → InYear y (before_month y 1 + n) d → InYear y n d
unfolding before_month month_length
in_january y n {d} h = let s : 0 + 0 + n ≡ n = omega arith in subst (λ (x : ℕ). InYear y x d) s h

year-there : (f k n : ℕ) → n < f → InTime (years k + n) (year_from f (1970 + k) n)
unfolding year_from years before_month month_length
year-there zero k n fuel = absurd (omega arith)
year-there (suc f) k n fuel =
    let y = 1970 + k in
    go (ltb n (year_length y)) refl
    (λ lt. in_time_lem k n (month_from 11 y 1 n) (in_january y n (month-there 11 y 1 n refl (omega arith) (omega (arith, year-months y)))))
    (λ ge. year-there f (suc k) (n - year_length y) (omega (arith, year-least y)))
  where
    go : (b : Bool) → ltb n (year_length (1970 + k)) ≡ b
        → (n < year_length (1970 + k) → InTime (years k + n) (month_from 11 (1970 + k) 1 n))
        → (year_length (1970 + k) ≤ n → InTime (years (suc k) + (n - year_length (1970 + k))) (year_from f (1970 + suc k) (n - year_length (1970 + k))))
        → InTime (years k + n) (pick b (month_from 11 (1970 + k) 1 n) (year_from f (suc (1970 + k)) (n - year_length (1970 + k))))
    go true t a c = a (ltb-true n (year_length (1970 + k)) t)
    go false t a c =
        let ge = ltb-false n (year_length (1970 + k)) t in
        let s : years (suc k) + (n - year_length (1970 + k)) ≡ years k + n = omega arith in
        let u : suc (1970 + k) ≡ 1970 + suc k = omega arith in
        rw (← s, u) (c ge)

day-there : (n : ℕ) → InTime n (date_of n)
unfolding date_of years
day-there n = let s : 0 + n ≡ n = omega arith in subst (λ (x : ℕ). InTime x (year_from (suc n) 1970 n)) s (year-there (suc n) 0 n (omega arith))

pub there : (n : ℕ) → day_of (date_of n) ≡ n
there n = (day-there n).counts

pub valid : (n : ℕ) → Valid (date_of n)
valid n = (day-there n).valid

-- what stands before a month's first, and its days, is no more than the year
pub in_year : (y m : ℕ) → m ≤ 12 → before_month y m + month_length y m ≤ year_length y
unfolding before_month
in_year y m le = omega (arith, year-months y, before-grows y (suc m) (12 - m) 13 (omega arith))

pub back : (d : Date) → Valid d → date_of (day_of d) ≡ d
unfolding date_of day_of years before_month month_length
back d v =
    let y = d.year in
    let m = d.month in
    let z = y - 1970 in
    let x = before_month y m + (d.day - 1) in
    let n = years z + before_month y m + (d.day - 1) in
    let s : 1970 + z ≡ y = omega (arith, v.from) in
    let less : x < year_length (1970 + z) = rw s (omega (arith, v.one, v.within, in_year y m v.last)) in
    year-back z (suc n) 0 z n x (omega arith) (omega arith) less (omega arith)
    ∙ ap (λ (w : ℕ). month_from 11 w 1 x) s
    ∙ month-back (m - 1) 11 y 1 m x d.day (omega (arith, v.first)) (omega (arith, v.last)) v.one v.within (omega (arith, v.one))

-- ---- the day after

years-suc : (k : ℕ) → years (suc k) ≡ years k + year_length (1970 + k)
unfolding years
years-suc k = refl

january : (y : ℕ) → before_month y 1 ≡ 0
unfolding before_month month_length
january y = refl

february-least : (l : Bool) → 1 ≤ february l
february-least true = omega arith
february-least false = omega arith

month-least : (y m : ℕ) → 1 ≤ m → m ≤ 12 → 1 ≤ month_length y m
unfolding month_length
month-least y zero one last = absurd (omega arith)
month-least y (suc m) one last = go (leap y) m (omega arith)
  where
    go : (l : Bool) (m : ℕ) → m ≤ 11 → 1 ≤ get_or (lengths l) m 0
    go l zero h = omega arith
    go l (suc zero) h = february-least l
    go l (suc (suc zero)) h = omega arith
    go l (suc (suc (suc zero))) h = omega arith
    go l (suc (suc (suc (suc zero)))) h = omega arith
    go l (suc (suc (suc (suc (suc zero))))) h = omega arith
    go l (suc (suc (suc (suc (suc (suc zero)))))) h = omega arith
    go l (suc (suc (suc (suc (suc (suc (suc zero))))))) h = omega arith
    go l (suc (suc (suc (suc (suc (suc (suc (suc zero)))))))) h = omega arith
    go l (suc (suc (suc (suc (suc (suc (suc (suc (suc zero))))))))) h = omega arith
    go l (suc (suc (suc (suc (suc (suc (suc (suc (suc (suc zero)))))))))) h = omega arith
    go l (suc (suc (suc (suc (suc (suc (suc (suc (suc (suc (suc zero))))))))))) h = omega arith
    go l (suc (suc (suc (suc (suc (suc (suc (suc (suc (suc (suc (suc m)))))))))))) h = absurd (omega arith)

same-month : (d : Date) → Valid d → d.day < month_length d.year d.month
    → InTime (suc (years (d.year - 1970) + before_month d.year d.month + (d.day - 1))) (date d.year d.month (suc d.day))
unfolding day_of
same-month d v lt =
    record {
      valid = record { from = v.from; first = v.first; last = v.last; one = omega arith; within = omega arith };
      counts = omega (arith, v.one);
    }

next-month : (d : Date) → Valid d → month_length d.year d.month ≤ d.day → d.month < 12
    → InTime (suc (years (d.year - 1970) + before_month d.year d.month + (d.day - 1))) (date d.year (suc d.month) 1)
unfolding day_of before_month
next-month d v ge lt =
    record {
      valid = record { from = v.from; first = omega arith; last = omega arith; one = omega arith; within = month-least d.year (suc d.month) (omega arith) (omega arith) };
      counts = omega (arith, v.one, v.within);
    }

next-year : (d : Date) → Valid d → month_length d.year d.month ≤ d.day → 12 ≤ d.month
    → InTime (suc (years (d.year - 1970) + before_month d.year d.month + (d.day - 1))) (date (suc d.year) 1 1)
unfolding day_of before_month
next-year d v ge le =
    let y = d.year in
    let twelve : d.month ≡ 12 = omega (arith, v.last) in
    let b = ap (before_month y) twelve in
    let l = ap (month_length y) twelve in
    let s : suc (y - 1970) ≡ suc y - 1970 = omega (arith, v.from) in
    let t : 1970 + (y - 1970) ≡ y = omega (arith, v.from) in
    record {
      valid = record { from = omega (arith, v.from); first = omega arith; last = omega arith; one = omega arith; within = month-least (suc y) 1 (omega arith) (omega arith) };
      counts = omega (arith, b, l, v.one, v.within, year-months y, years-suc (y - 1970), ap years s, ap year_length t, january (suc y));
    }

pub next-day : (d : Date) → Valid d → InTime (suc (day_of d)) (following d)
unfolding following day_of
next-day d v = go (ltb d.day (month_length d.year d.month)) (ltb d.month 12) refl refl
  where
    go : (a b : Bool) → ltb d.day (month_length d.year d.month) ≡ a → ltb d.month 12 ≡ b
        → InTime (suc (years (d.year - 1970) + before_month d.year d.month + (d.day - 1)))
        (pick a (date d.year d.month (suc d.day)) (pick b (date d.year (suc d.month) 1) (date (suc d.year) 1 1)))
    go true b s t = same-month d v (ltb-true _ _ s)
    go false true s t = next-month d v (ltb-false _ _ s) (ltb-true _ _ t)
    go false false s t = next-year d v (ltb-false _ _ s) (ltb-false _ _ t)

pub each : (n : ℕ) → date_of (suc n) ≡ following (date_of n)
each n =
    let f = next-day (date_of n) (valid n) in
    let e : suc n ≡ day_of (following (date_of n)) = ap suc (sym (there n)) ∙ sym f.counts in
    ap date_of e ∙ back (following (date_of n)) f.valid

pub epoch : date_of 0 ≡ date 1970 1 1
unfolding date_of year_from month_from year_length month_length leap
epoch = refl

pub calendar : Calendar
calendar = record { epoch = epoch; each = each; valid = valid; there = there; back = back }
