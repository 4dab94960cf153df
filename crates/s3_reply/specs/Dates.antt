-- The two texts of a moment, and the date of a Unix second.
use Rattle.std.specs.Prelude.{ℕ, zero, suc, ◌+◌, ◌-◌, ◌/◌, ◌%◌, min, nat_le, if◌then◌else◌, List, ◌++◌, codes}
use Rattle.httpdate.specs.Calendar.{days_of_years, days_of_months, weekday}
use Rattle.httpdate.specs.Text.{two_digits, four_digits, time_of_day, imf_fixdate}
use Rattle.httpdate.specs.declared.parts.Parts.{Parts}

-- the last of the first n years after 1970 that has begun by this day (days count from 0 at 1 January 1970), else 1970
unfoldable pub year_within : ℕ → ℕ → ℕ
year_within zero day = 1970
year_within (suc n) day = if nat_le (days_of_years (suc n)) day then 1970 + suc n else year_within n day

-- the last of the first n months of a year that has begun by this day of it (days count from 0), else January
unfoldable pub month_within : ℕ → ℕ → ℕ → ℕ
month_within year zero day = 1
month_within year (suc n) day = if nat_le (days_of_months year n) day then suc n else month_within year n day

-- the year of a day, of those up to 9999
unfoldable pub year_of : ℕ → ℕ
year_of day = year_within 8029 day

-- the place of a day in its year, from 0
abbrev pub day_in_year : ℕ → ℕ
day_in_year day = day - days_of_years (year_of day - 1970)

-- the month of a day
unfoldable pub month_of : ℕ → ℕ
month_of day = month_within (year_of day) 12 (day_in_year day)

-- the numbers of a date: those of its day, and those of its time of day
unfoldable pub date_of_day : ℕ → ℕ → Parts
date_of_day day second = record {
  year = year_of day;
  mon = month_of day;
  day = day_in_year day - days_of_months (year_of day) (month_of day - 1) + 1;
  hour = second / 3600;
  min = second % 3600 / 60;
  sec = second % 60;
  wday = weekday day;
}

-- the last second of the year 9999
abbrev pub last_second : ℕ
last_second = 253402300799

-- the date of a Unix second; a later one than the last second of 9999 is written as that
abbrev pub date_at : ℕ → Parts
date_at second = date_of_day (min second last_second / 86400) (min second last_second % 86400)

-- a moment in a header (RFC 9110, section 5.6.7)
abbrev pub http_date : ℕ → List ℕ
http_date second = imf_fixdate (date_at second)

-- a date as `YYYY-MM-DDTHH:MM:SS.000Z` (RFC 3339)
abbrev pub timestamp_of : Parts → List ℕ
timestamp_of date =
    four_digits date.year ++ codes "-" ++ two_digits date.mon ++ codes "-" ++ two_digits date.day ++ codes "T" ++ time_of_day date ++ codes ".000Z"

-- a moment in a document
abbrev pub timestamp : ℕ → List ℕ
timestamp second = timestamp_of (date_at second)
