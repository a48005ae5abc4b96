-- The date of a second: the text that a field has for it.
use Rattle.std.specs.Prelude.{ℕ, zero, suc, ◌+◌, ◌/◌, ◌%◌, nat_lt, List, if◌then◌else◌}
use Rattle.httpdate.specs.Calendar.{days_in_month, weekday}
use Rattle.httpdate.specs.Text.{imf_fixdate}
use Rattle.httpdate.specs.declared.parts.Parts.{Parts}

-- a date as its year, its month and its day of the month, both from 1
abbrev pub Day : Type 0
Day = ℕ × ℕ × ℕ

-- the date so many days after one, from day to day by the calendar
unfoldable pub days_after : ℕ → ℕ → ℕ → ℕ → Day
days_after zero year month day = (year, month, day)
days_after (suc days) year month day =
    if nat_lt day (days_in_month year month) then days_after days year month (day + 1)
    else (if nat_lt month 12 then days_after days year (month + 1) 1 else days_after days (year + 1) 1 1)

-- the date so many days after 1970-01-01
abbrev pub date_after : ℕ → Day
date_after days = days_after days 1970 1 1

abbrev pub parts_at : Day → ℕ → Parts
parts_at date second = record {
  year = date.0;
  mon = date.1;
  day = date.2;
  hour = second % 86400 / 3600;
  min = second % 3600 / 60;
  sec = second % 60;
  wday = weekday (second / 86400);
}

-- the date of a second, counted from 1970-01-01, as IMF-fixdate (RFC 9110 section 5.6.7)
abbrev pub date_of : ℕ → List ℕ
date_of second = imf_fixdate (parts_at (date_after (second / 86400)) second)
