-- The text of a moment: `YYYY-MM-DDTHH:MM:SS.mmmZ` (RFC 3339), in the calendar that jiff has.
use Rattle.std.specs.Prelude.{ℕ, zero, suc, ◌+◌, ◌/◌, ◌%◌, nat_lt, if◌then◌else◌, pos, List, [], ◌∷◌, ◌++◌}
use Rattle.jiff_core.specs.Calendar.{days_in_month}

-- a date as its year, its month and its day of the month, both from 1
abbrev pub Day : Type 0
Day = ℕ × ℕ × ℕ

-- the date that follows
abbrev pub next_day : ℕ → ℕ → ℕ → Day
next_day year month day =
    if nat_lt day (days_in_month (pos year) month) then (year, month, day + 1)
    else (if nat_lt month 12 then (year, month + 1, 1) else (year + 1, 1, 1))

abbrev pub day_behind : Day → Day
day_behind day = next_day day.0 day.1 day.2

-- the date so many days after 1970-01-01
unfoldable pub date_after : ℕ → Day
date_after zero = (1970, 1, 1)
date_after (suc days) = day_behind (date_after days)

-- the last moment of the year 9999, in microseconds since 1970; a later one is taken as it
abbrev pub last_moment : ℕ
last_moment = 253402300799999999

-- two digits
abbrev pub two_digits : ℕ → List ℕ
two_digits n = (48 + n / 10) ∷ (48 + n % 10) ∷ []

abbrev pub three_digits : ℕ → List ℕ
three_digits n = (48 + n / 100) ∷ two_digits (n % 100)

abbrev pub four_digits : ℕ → List ℕ
four_digits n = two_digits (n / 100) ++ two_digits (n % 100)

-- `YYYY-MM-DD`
abbrev pub date_text : Day → List ℕ
date_text day = four_digits day.0 ++ 45 ∷ (two_digits day.1 ++ 45 ∷ two_digits day.2)

-- `SS.mmm`, of a number of milliseconds: the seconds of the minute
abbrev pub seconds_text : ℕ → List ℕ
seconds_text millis = two_digits (millis / 1000 % 60) ++ 46 ∷ three_digits (millis % 1000)

-- `MM:SS.mmm`: the minutes of the hour in front
abbrev pub minutes_text : ℕ → List ℕ
minutes_text millis = two_digits (millis / 60000 % 60) ++ 58 ∷ seconds_text millis

-- `HH:MM:SS.mmm`, of a number of milliseconds since midnight
abbrev pub time_text : ℕ → List ℕ
time_text millis = two_digits (millis / 3600000) ++ 58 ∷ minutes_text millis

-- the date, `T`, the time and `Z`, of a number of milliseconds since 1970
abbrev pub millis_text : ℕ → List ℕ
millis_text millis = date_text (date_after (millis / 86400000)) ++ 84 ∷ (time_text (millis % 86400000) ++ 90 ∷ [])

abbrev pub capped : ℕ → ℕ
capped moment = if nat_lt last_moment moment then last_moment else moment

-- of a number of microseconds since 1970, rounded down
abbrev pub moment_text : ℕ → List ℕ
moment_text moment = millis_text (capped moment / 1000)
