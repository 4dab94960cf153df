-- Months by their names in three letters.
use Rattle.std.specs.Prelude.{ℕ, ◌==◌, if◌then◌else◌, List, codes}

-- the two digits of the month whose name has these second and third letters, as in `01` for Jan
abbrev pub month_digits : ℕ → ℕ → List ℕ
month_digits second third =
    if third == 110 then (if second == 97 then codes "01" else codes "06")
    else if third == 98 then codes "02"
    else if third == 114 then (if second == 97 then codes "03" else codes "04")
    else if third == 121 then codes "05"
    else if third == 108 then codes "07"
    else if third == 103 then codes "08"
    else if third == 112 then codes "09"
    else if third == 116 then codes "10"
    else if third == 118 then codes "11"
    else codes "12"
