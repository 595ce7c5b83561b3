-- Days and their dates and weekdays, from the public calendar (Python 3's datetime, proleptic Gregorian).
-- Assumes nothing.
use Rattle.std.specs.Prelude.{ℕ, Bool, true, false, List, [], ◌∷◌, replicate}
use Rattle.protocol.specs.Fact.{Fact}
use Rattle.protocol.specs.Hours.{day_at, weekday, minute_at}
use Rattle.calendar.specs.Calendar.{Date, date, leap, date_of, day_of}
use Rattle.calendar.specs.Crossing.{five_in, cross_date}

abbrev row : {A : Type 0} → A → A → Fact A
row c p = record { computed = c; paper = p }

abbrev dated : ℕ → (year month day : ℕ) → Fact Date
dated n y m d = row (date_of n) (date y m d)

abbrev numbered : (year month day : ℕ) → ℕ → Fact ℕ
numbered y m d n = row (day_of (date y m d)) n

abbrev on : (year month day : ℕ) → ℕ → Fact ℕ
on y m d w = row (weekday (day_of (date y m d))) w

-- a year divisible by 4; by 100 and not by 400; by 400; by none of them
abbrev pub leaps : List (Fact Bool)
leaps =
    row (leap 1970) false
    ∷ row (leap 1971) false
    ∷ row (leap 1972) true
    ∷ row (leap 1973) false
    ∷ row (leap 1974) false
    ∷ row (leap 1996) true
    ∷ row (leap 2000) true
    ∷ row (leap 2004) true
    ∷ row (leap 2096) true
    ∷ row (leap 2100) false
    ∷ row (leap 2104) true
    ∷ row (leap 2200) false
    ∷ row (leap 2300) false
    ∷ row (leap 2400) true
    ∷ []

-- both sides of a February and of a year, up to the last day of 32 bits
abbrev pub dates : List (Fact Date)
dates =
    dated 0 1970 1 1
    ∷ dated 1 1970 1 2
    ∷ dated 10956 1999 12 31
    ∷ dated 10957 2000 1 1
    ∷ dated 11015 2000 2 28
    ∷ dated 11016 2000 2 29
    ∷ dated 11017 2000 3 1
    ∷ dated 11322 2000 12 31
    ∷ dated 11323 2001 1 1
    ∷ dated 19723 2024 1 1
    ∷ dated 24855 2038 1 19
    ∷ dated 47540 2100 2 28
    ∷ dated 47541 2100 3 1
    ∷ dated 49709 2106 2 6
    ∷ dated 49710 2106 2 7
    ∷ []

-- the last day of each month of 1970, a common year, and the day after
abbrev pub month_ends : List (Fact Date)
month_ends =
    dated 30 1970 1 31
    ∷ dated 31 1970 2 1
    ∷ dated 58 1970 2 28
    ∷ dated 59 1970 3 1
    ∷ dated 89 1970 3 31
    ∷ dated 90 1970 4 1
    ∷ dated 119 1970 4 30
    ∷ dated 120 1970 5 1
    ∷ dated 150 1970 5 31
    ∷ dated 151 1970 6 1
    ∷ dated 180 1970 6 30
    ∷ dated 181 1970 7 1
    ∷ dated 211 1970 7 31
    ∷ dated 212 1970 8 1
    ∷ dated 242 1970 8 31
    ∷ dated 243 1970 9 1
    ∷ dated 272 1970 9 30
    ∷ dated 273 1970 10 1
    ∷ dated 303 1970 10 31
    ∷ dated 304 1970 11 1
    ∷ dated 333 1970 11 30
    ∷ dated 334 1970 12 1
    ∷ dated 364 1970 12 31
    ∷ dated 365 1971 1 1
    ∷ []

-- ... and of 1972, a leap year
abbrev pub leap_month_ends : List (Fact Date)
leap_month_ends =
    dated 788 1972 2 28
    ∷ dated 760 1972 1 31
    ∷ dated 761 1972 2 1
    ∷ dated 789 1972 2 29
    ∷ dated 790 1972 3 1
    ∷ dated 820 1972 3 31
    ∷ dated 821 1972 4 1
    ∷ dated 850 1972 4 30
    ∷ dated 851 1972 5 1
    ∷ dated 881 1972 5 31
    ∷ dated 882 1972 6 1
    ∷ dated 911 1972 6 30
    ∷ dated 912 1972 7 1
    ∷ dated 942 1972 7 31
    ∷ dated 943 1972 8 1
    ∷ dated 973 1972 8 31
    ∷ dated 974 1972 9 1
    ∷ dated 1003 1972 9 30
    ∷ dated 1004 1972 10 1
    ∷ dated 1034 1972 10 31
    ∷ dated 1035 1972 11 1
    ∷ dated 1064 1972 11 30
    ∷ dated 1065 1972 12 1
    ∷ dated 1095 1972 12 31
    ∷ dated 1096 1973 1 1
    ∷ []

-- the same the other way, and Februaries of the hundreds up to 2400
abbrev pub days : List (Fact ℕ)
days =
    numbered 1970 1 1 0
    ∷ numbered 1970 1 2 1
    ∷ numbered 1999 12 31 10956
    ∷ numbered 2000 1 1 10957
    ∷ numbered 2000 2 28 11015
    ∷ numbered 2000 2 29 11016
    ∷ numbered 2000 3 1 11017
    ∷ numbered 2000 12 31 11322
    ∷ numbered 2001 1 1 11323
    ∷ numbered 2024 1 1 19723
    ∷ numbered 2038 1 19 24855
    ∷ numbered 2100 2 28 47540
    ∷ numbered 2100 3 1 47541
    ∷ numbered 2106 2 6 49709
    ∷ numbered 2106 2 7 49710
    ∷ numbered 2200 2 28 84064
    ∷ numbered 2200 3 1 84065
    ∷ numbered 2300 2 28 120588
    ∷ numbered 2300 3 1 120589
    ∷ numbered 2400 2 28 157112
    ∷ numbered 2400 2 29 157113
    ∷ numbered 2400 3 1 157114
    ∷ numbered 2400 12 31 157419
    ∷ numbered 2401 1 1 157420
    ∷ []

abbrev pub month_end_days : List (Fact ℕ)
month_end_days =
    numbered 1970 1 31 30
    ∷ numbered 1970 2 1 31
    ∷ numbered 1970 2 28 58
    ∷ numbered 1970 3 1 59
    ∷ numbered 1970 3 31 89
    ∷ numbered 1970 4 1 90
    ∷ numbered 1970 4 30 119
    ∷ numbered 1970 5 1 120
    ∷ numbered 1970 5 31 150
    ∷ numbered 1970 6 1 151
    ∷ numbered 1970 6 30 180
    ∷ numbered 1970 7 1 181
    ∷ numbered 1970 7 31 211
    ∷ numbered 1970 8 1 212
    ∷ numbered 1970 8 31 242
    ∷ numbered 1970 9 1 243
    ∷ numbered 1970 9 30 272
    ∷ numbered 1970 10 1 273
    ∷ numbered 1970 10 31 303
    ∷ numbered 1970 11 1 304
    ∷ numbered 1970 11 30 333
    ∷ numbered 1970 12 1 334
    ∷ numbered 1970 12 31 364
    ∷ numbered 1971 1 1 365
    ∷ numbered 1972 2 28 788
    ∷ numbered 1972 1 31 760
    ∷ numbered 1972 2 1 761
    ∷ numbered 1972 2 29 789
    ∷ numbered 1972 3 1 790
    ∷ numbered 1972 3 31 820
    ∷ numbered 1972 4 1 821
    ∷ numbered 1972 4 30 850
    ∷ numbered 1972 5 1 851
    ∷ numbered 1972 5 31 881
    ∷ numbered 1972 6 1 882
    ∷ numbered 1972 6 30 911
    ∷ numbered 1972 7 1 912
    ∷ numbered 1972 7 31 942
    ∷ numbered 1972 8 1 943
    ∷ numbered 1972 8 31 973
    ∷ numbered 1972 9 1 974
    ∷ numbered 1972 9 30 1003
    ∷ numbered 1972 10 1 1004
    ∷ numbered 1972 10 31 1034
    ∷ numbered 1972 11 1 1035
    ∷ numbered 1972 11 30 1064
    ∷ numbered 1972 12 1 1065
    ∷ numbered 1972 12 31 1095
    ∷ numbered 1973 1 1 1096
    ∷ []

-- 0 is Monday
abbrev pub weekdays : List (Fact ℕ)
weekdays =
    on 1970 1 1 3
    ∷ on 1970 1 2 4
    ∷ on 1970 1 3 5
    ∷ on 1970 1 4 6
    ∷ on 1970 1 5 0
    ∷ on 1970 1 6 1
    ∷ on 1970 1 7 2
    ∷ on 1970 1 8 3
    ∷ on 1972 2 29 1
    ∷ on 1999 12 31 4
    ∷ on 2000 2 29 1
    ∷ on 2024 1 1 0
    ∷ on 2026 1 1 3
    ∷ on 2038 1 19 1
    ∷ on 2100 3 1 0
    ∷ on 2106 2 7 6
    ∷ []

-- moments: their day, weekday and minute
abbrev moment : (t day weekday minute : ℕ) → Fact (List ℕ)
moment t n w m = row (day_at t ∷ weekday (day_at t) ∷ minute_at t ∷ []) (n ∷ w ∷ m ∷ [])

abbrev pub moments : List (Fact (List ℕ))
moments =
    moment 0 0 3 0
    ∷ moment 59 0 3 0
    ∷ moment 60 0 3 1
    ∷ moment 86399 0 3 1439
    ∷ moment 86400 1 4 0
    ∷ moment 951782400 11016 1 0
    ∷ moment 1704067199 19722 6 1439
    ∷ moment 1704067200 19723 0 0
    ∷ moment 1704092399 19723 0 419
    ∷ moment 1704092400 19723 0 420
    ∷ moment 2147483647 24855 1 194
    ∷ moment 4107542399 47540 6 1439
    ∷ moment 4107542400 47541 0 0
    ∷ moment 4294967295 49710 6 388
    ∷ []

-- ---- what crosses to the host, into a slice of bytes 255

abbrev slice : ℕ → List ℕ
slice n = replicate n 255

abbrev told : (t year month day weekday minute : ℕ) → Fact (List ℕ)
told t y m d w n = row (five_in (cross_date t (slice 120)).0) (y ∷ m ∷ d ∷ w ∷ n ∷ [])

abbrev pub crossings : List (Fact (List ℕ))
crossings =
    told 0 1970 1 1 3 0
    ∷ told 59 1970 1 1 3 0
    ∷ told 60 1970 1 1 3 1
    ∷ told 86399 1970 1 1 3 1439
    ∷ told 86400 1970 1 2 4 0
    ∷ told 68255999 1972 2 29 1 1439
    ∷ told 951782400 2000 2 29 1 0
    ∷ told 1704092399 2024 1 1 0 419
    ∷ told 4294967295 2106 2 7 6 388
    ∷ []

-- every byte: what stands behind the reply stays, and a slice one byte short is left alone
abbrev pub slices : List (Fact (List ℕ × ℕ))
slices =
    row (cross_date 951827699 (slice 120)) (208 ∷ 7 ∷ 0 ∷ 0 ∷ 0 ∷ 0 ∷ 0 ∷ 0 ∷ 2 ∷ 0 ∷ 0 ∷ 0 ∷ 0 ∷ 0 ∷ 0 ∷ 0 ∷ 29 ∷ 0 ∷ 0 ∷ 0 ∷ 0 ∷ 0 ∷ 0 ∷ 0 ∷ 1 ∷ 0 ∷ 0 ∷ 0 ∷ 0 ∷ 0 ∷ 0 ∷ 0 ∷ 242 ∷ 2 ∷ 0 ∷ 0 ∷ 0 ∷ 0 ∷ 0 ∷ 0 ∷ slice 80, 0)
    ∷ row (cross_date 951827699 (slice 119)) (slice 119, 3)
    ∷ row (cross_date 951827699 []) ([], 3)
    ∷ []
