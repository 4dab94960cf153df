-- The names of days and months, and the dates of Unix seconds.
use Rattle.std.proofs.Common.{◌≡◌, ℕ, zero, suc, ◌+◌, ◌-◌, ◌*◌, ◌/◌, ◌%◌, ◌<◌, ◌≤◌, List, [], ◌∷◌, get_or, refl, sym, ap, ◌∙◌, arith, inl, inr}
use Rattle.std.proofs.lemmas.Bool.Decides.{leb_tells}
use Rattle.httpdate.specs.Calendar.{IsCivilDate, IsTimeOfDay, days_of_years, days_of_months, days_from_civil, weekday}
use Rattle.httpdate.specs.Text.{day_name, month_name, two_digits, imf_fixdate}
use Rattle.httpdate.specs.Date.{unix_secs}
use Rattle.httpdate.specs.declared.parts.Parts.{Parts}
use Rattle.httpdate.specs.declared.date.HttpDate.{HttpDate}
use Rattle.httpdate.proofs.CalendarLemmas.{days_from_civil_year, days_of_months_more}
use Rattle.s3_reply.specs.Dates.{year_within, month_within, year_of, day_in_year, month_of, date_of_day, timestamp_of}
use Rattle.s3_reply.specs.Months.{month_digits}

-- the three letters of a month, of which the last two tell its digits
abbrev pub HasMonth : ℕ → Type 0
HasMonth m = (a : ℕ) × (b : ℕ) × (c : ℕ) × (month_name m ≡ a ∷ b ∷ c ∷ []) × (month_digits b c ≡ two_digits m)

pub has_month : (m : ℕ) → 1 ≤ m → m ≤ 12 → HasMonth m
has_month zero low high = absurd (omega arith)
has_month (suc zero) low high = (74, 97, 110, refl, refl)
has_month (suc (suc zero)) low high = (70, 101, 98, refl, refl)
has_month (suc (suc (suc zero))) low high = (77, 97, 114, refl, refl)
has_month (suc (suc (suc (suc zero)))) low high = (65, 112, 114, refl, refl)
has_month (suc (suc (suc (suc (suc zero))))) low high = (77, 97, 121, refl, refl)
has_month (suc (suc (suc (suc (suc (suc zero)))))) low high = (74, 117, 110, refl, refl)
has_month (suc (suc (suc (suc (suc (suc (suc zero))))))) low high = (74, 117, 108, refl, refl)
has_month (suc (suc (suc (suc (suc (suc (suc (suc zero)))))))) low high = (65, 117, 103, refl, refl)
has_month (suc (suc (suc (suc (suc (suc (suc (suc (suc zero))))))))) low high = (83, 101, 112, refl, refl)
has_month (suc (suc (suc (suc (suc (suc (suc (suc (suc (suc zero)))))))))) low high = (79, 99, 116, refl, refl)
has_month (suc (suc (suc (suc (suc (suc (suc (suc (suc (suc (suc zero))))))))))) low high = (78, 111, 118, refl, refl)
has_month (suc (suc (suc (suc (suc (suc (suc (suc (suc (suc (suc (suc zero)))))))))))) low high = (68, 101, 99, refl, refl)
has_month (suc (suc (suc (suc (suc (suc (suc (suc (suc (suc (suc (suc (suc n))))))))))))) low high = absurd (omega arith)

-- the three letters of a day
abbrev pub HasDay : ℕ → Type 0
HasDay w = (a : ℕ) × (b : ℕ) × (c : ℕ) × (day_name w ≡ a ∷ b ∷ c ∷ [])

pub has_day : (w : ℕ) → 1 ≤ w → w ≤ 7 → HasDay w
has_day zero low high = absurd (omega arith)
has_day (suc zero) low high = (77, 111, 110, refl)
has_day (suc (suc zero)) low high = (84, 117, 101, refl)
has_day (suc (suc (suc zero))) low high = (87, 101, 100, refl)
has_day (suc (suc (suc (suc zero)))) low high = (84, 104, 117, refl)
has_day (suc (suc (suc (suc (suc zero))))) low high = (70, 114, 105, refl)
has_day (suc (suc (suc (suc (suc (suc zero)))))) low high = (83, 97, 116, refl)
has_day (suc (suc (suc (suc (suc (suc (suc zero))))))) low high = (83, 117, 110, refl)
has_day (suc (suc (suc (suc (suc (suc (suc (suc n)))))))) low high = absurd (omega arith)

-- more years have no fewer days, and so have more months
years_up : (n k : ℕ) → days_of_years n ≤ days_of_years (n + k)
unfolding days_of_years
years_up n zero = let same : n + 0 ≡ n = omega arith in rw same (omega arith)
years_up n (suc k) =
    let before = years_up n k in
    let next : n + suc k ≡ suc (n + k) = omega arith in
    rw next (omega arith)

years_to : (n m : ℕ) → n ≤ m → days_of_years n ≤ days_of_years m
years_to n m low = let same : n + (m - n) ≡ m = omega arith in rw same at (years_up n (m - n))

months_up : (y n k : ℕ) → days_of_months y n ≤ days_of_months y (n + k)
unfolding days_of_months
months_up y n zero = let same : n + 0 ≡ n = omega arith in rw same (omega arith)
months_up y n (suc k) =
    let before = months_up y n k in
    let next : n + suc k ≡ suc (n + k) = omega arith in
    rw next (omega arith)

months_to : (y n m : ℕ) → n ≤ m → days_of_months y n ≤ days_of_months y m
months_to y n m low = let same : n + (m - n) ≡ m = omega arith in rw same at (months_up y n (m - n))

-- the last year that has begun
year_found : (n k day : ℕ) → k ≤ suc n → days_of_years (suc n) ≤ day → day < days_of_years (suc k) → k ≡ suc n
year_found n k day low reached after =
    elim (leb_tells k n) [ inl h ↦ absurd (omega (arith, h.1, years_to (suc k) (suc n) (omega (arith, h.1)))) | inr h ↦ omega (arith, h.1) ]

year_not_found : (n k day : ℕ) → k ≤ suc n → days_of_years k ≤ day → day < days_of_years (suc n) → k ≤ n
year_not_found n k day low begun later =
    elim (leb_tells k n) [ inl h ↦ h.1 | inr h ↦ (let same : k ≡ suc n = omega (arith, h.1) in absurd (omega (arith, rw same at begun))) ]

year_within_is : (n k day : ℕ) → k ≤ n → days_of_years k ≤ day → day < days_of_years (suc k) → year_within n day ≡ 1970 + k
unfolding year_within
year_within_is zero k day low begun after = omega arith
year_within_is (suc n) k day low begun after =
    elim (leb_tells (days_of_years (suc n)) day) [
      | inl h ↦ rw h.0 (ap (λ t. 1970 + t) (sym (year_found n k day low h.1 after)))
      | inr h ↦ rw h.0 (year_within_is n k day (year_not_found n k day low begun h.1) begun after)
    ]

-- the last month that has begun
month_found : (y n k day : ℕ) → k ≤ n → days_of_months y n ≤ day → day < days_of_months y (suc k) → k ≡ n
month_found y n k day low reached after =
    elim (leb_tells (suc k) n) [ inl h ↦ absurd (omega (arith, h.1, months_to y (suc k) n h.1)) | inr h ↦ omega (arith, h.1) ]

month_not_found : (y n k day : ℕ) → k ≤ n → days_of_months y k ≤ day → day < days_of_months y n → suc k ≤ n
month_not_found y n k day low begun later =
    elim (leb_tells (suc k) n) [ inl h ↦ h.1 | inr h ↦ (let same : k ≡ n = omega (arith, h.1) in absurd (omega (arith, rw same at begun))) ]

month_within_is : (y n k day : ℕ) → suc k ≤ n → days_of_months y k ≤ day → day < days_of_months y (suc k) → month_within y n day ≡ suc k
unfolding month_within
month_within_is y zero k day low begun after = absurd (omega arith)
month_within_is y (suc n) k day low begun after =
    elim (leb_tells (days_of_months y n) day) [
      | inl h ↦ rw h.0 (ap suc (sym (month_found y n k day (omega arith) h.1 after)))
      | inr h ↦ rw h.0 (month_within_is y n k day (month_not_found y n k day (omega arith) begun h.1) begun after)
    ]

-- the year of a date, and its place in its year
year_of_date : (y m d : ℕ) → IsCivilDate y m d → year_of (days_from_civil y m d) ≡ y
unfolding year_of days_of_months
year_of_date y m d date =
    let next = days_from_civil_year y m d (suc y) 1 1 date (omega arith) in
    let year : suc y - 1970 ≡ suc (y - 1970) = omega (arith, date.0) in
    let after : days_from_civil y m d < days_of_years (suc (y - 1970)) = omega (arith, rw year at next) in
    year_within_is 8029 (y - 1970) (days_from_civil y m d) (omega (arith, date.0)) (omega arith) after ∙ omega (arith, date.0)

place_of_date : (y m d : ℕ) → IsCivilDate y m d → day_in_year (days_from_civil y m d) ≡ days_of_months y (m - 1) + (d - 1)
place_of_date y m d date = rw (year_of_date y m d date) (omega arith)

month_of_date : (y m d : ℕ) → IsCivilDate y m d → month_of (days_from_civil y m d) ≡ m
unfolding month_of
month_of_date y m d date =
    let month : suc (m - 1) ≡ m = omega (arith, date.1) in
    let more = days_of_months_more y m date.1.0 in
    let after : days_of_months y (m - 1) + (d - 1) < days_of_months y (suc (m - 1)) = rw month (omega (arith, more, date.2)) in
    ap (λ year. month_within year 12 (day_in_year (days_from_civil y m d))) (year_of_date y m d date)
    ∙ ap (λ place. month_within y 12 place) (place_of_date y m d date)
    ∙ (month_within_is y 12 (m - 1) (days_of_months y (m - 1) + (d - 1)) (omega (arith, date.1)) (omega arith) after ∙ month)

-- a day and a time of day in seconds
clock : (days h m s secs : ℕ) → h < 24 → m < 60 → s < 60 → days * 86400 + h * 3600 + m * 60 + s ≡ secs → (secs / 86400 ≡ days) × (secs % 86400 ≡ h * 3600 + m * 60 + s)
clock days h m s secs a b c e = (omega arith, omega arith)

hour_of : (h m s : ℕ) → m < 60 → s < 60 → (h * 3600 + m * 60 + s) / 3600 ≡ h
hour_of h m s b c = omega arith

minute_of : (h m s : ℕ) → m < 60 → s < 60 → (h * 3600 + m * 60 + s) % 3600 / 60 ≡ m
minute_of h m s b c = let rest : (h * 3600 + m * 60 + s) % 3600 ≡ m * 60 + s = omega arith in rw rest (omega arith)

second_of : (h m s : ℕ) → s < 60 → (h * 3600 + m * 60 + s) % 60 ≡ s
second_of h m s c = omega arith

-- the numbers of a valid date are those of its day and its time of day
date_of_day_is : (p : Parts) → IsCivilDate p.year p.mon p.day → IsTimeOfDay p.hour p.min p.sec → p.wday ≡ weekday (days_from_civil p.year p.mon p.day) → p ≡ date_of_day (days_from_civil p.year p.mon p.day) (p.hour * 3600 + p.min * 60 + p.sec)
unfolding date_of_day
date_of_day_is p date time day =
    let y = sym (year_of_date p.year p.mon p.day date) in
    let m = sym (month_of_date p.year p.mon p.day date) in
    let d : p.day ≡ day_in_year (days_from_civil p.year p.mon p.day) - days_of_months (year_of (days_from_civil p.year p.mon p.day)) (month_of (days_from_civil p.year p.mon p.day) - 1) + 1
    = rw (place_of_date p.year p.mon p.day date, year_of_date p.year p.mon p.day date, month_of_date p.year p.mon p.day date) (omega (arith, date.2)) in
    let h = sym (hour_of p.hour p.min p.sec time.1 time.2) in
    let n = sym (minute_of p.hour p.min p.sec time.1 time.2) in
    let s = sym (second_of p.hour p.min p.sec time.2) in
    λ i. record { year = y i; mon = m i; day = d i; hour = h i; min = n i; sec = s i; wday = day i }

-- the date of a second
pub parts_are : (d : HttpDate) (second : ℕ) → unix_secs d ≡ second → d.parts ≡ date_of_day (second / 86400) (second % 86400)
parts_are d second e =
    let at = clock (days_from_civil d.parts.year d.parts.mon d.parts.day) d.parts.hour d.parts.min d.parts.sec second d.time.0 d.time.1 d.time.2 e in
    rw (at.0, at.1) (date_of_day_is d.parts d.civil d.time d.right_day)

-- the timestamp of a date is made of the bytes of its text in a header
pub stamp_from : (d : HttpDate) (text : List ℕ) → text ≡ imf_fixdate d.parts →
    get_or text 12 0 ∷ get_or text 13 0 ∷ get_or text 14 0 ∷ get_or text 15 0 ∷ 45
    ∷ get_or (month_digits (get_or text 9 0) (get_or text 10 0)) 0 0 ∷ get_or (month_digits (get_or text 9 0) (get_or text 10 0)) 1 0 ∷ 45
    ∷ get_or text 5 0 ∷ get_or text 6 0 ∷ 84 ∷ get_or text 17 0 ∷ get_or text 18 0 ∷ 58 ∷ get_or text 20 0 ∷ get_or text 21 0 ∷ 58
    ∷ get_or text 23 0 ∷ get_or text 24 0 ∷ 46 ∷ 48 ∷ 48 ∷ 48 ∷ 90 ∷ [] ≡ timestamp_of d.parts
stamp_from d text e =
    let month = has_month d.parts.mon d.civil.1.0 d.civil.1.1 in
    let day = has_day d.parts.wday (omega (arith, d.right_day)) (omega (arith, d.right_day)) in
    rw (e, day.3, month.3, month.4)
