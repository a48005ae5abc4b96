-- The date so many days after 1970-01-01 is the one with that day number.
use Rattle.std.specs.Prelude.{unsigned_abs}
use Rattle.std.proofs.Common.{◌≡◌, ℕ, zero, suc, ◌+◌, ◌<◌, ◌≤◌, refl, sym, ◌∙◌, arith, inl, inr, pos, ◌+ℤ◌, ◌≤ℤ◌}
use Rattle.std.proofs.lemmas.Bool.{cases_lt, cases_order, lt-ltb, le-ltb}
use Rattle.jiff_core.specs.declared.civil.date.Date.{Date}
use Rattle.jiff_core.specs.Calendar.{days_from_civil, days_in_month}
use Rattle.jiff_core.specs.Date.{epoch_day}
use Rattle.jiff_core.proofs.SignedLemmas.{one_part, signed_arith, unsigned_abs-parts}
use Rattle.jiff_core.proofs.CalendarLemmas.{days_from_civil-day_count, day_count-lt_year, days_in_month_bounds}
use Rattle.jiff_core.proofs.DateLemmas.{civil, epoch_day_injective, days_from_civil-day, days_from_civil-next_month, days_from_civil-next_year}
use Rattle.jiff_core.proofs.StandardFacts.{known_days}
use Rattle.px_har.specs.Moment.{Day, next_day, date_after}

-- the date is one of the calendar and has that day number
pub record HasNumber (day : Day) (days : ℕ) : Type 0 where
  pub low : 1 ≤ day.1
  pub high : day.1 ≤ 12
  pub first : 1 ≤ day.2
  pub last : day.2 ≤ days_in_month (pos day.0) day.1
  pub number : days_from_civil (pos day.0) day.1 day.2 ≡ pos days

in_month : (y m d n : ℕ) → 1 ≤ m → m ≤ 12 → d < days_in_month (pos y) m
    → days_from_civil (pos y) m (d + 1) +ℤ pos d ≡ days_from_civil (pos y) m d +ℤ pos (d + 1)
    → days_from_civil (pos y) m d ≡ pos n → HasNumber (y, m, d + 1) (suc n)
in_month y m d n low high within step number = record {
  low = low;
  high = high;
  first = omega arith;
  last = omega arith;
  number = omega (arith, signed_arith);
}

in_year : (y m d n : ℕ) → m < 12 → days_from_civil (pos y) (m + 1) 1 ≡ days_from_civil (pos y) m d +ℤ pos 1
    → days_from_civil (pos y) m d ≡ pos n → HasNumber (y, m + 1, 1) (suc n)
in_year y m d n early step number =
    let long = days_in_month_bounds (pos y) (m + 1) in
    record { low = omega arith; high = omega arith; first = omega arith; last = omega arith; number = omega (arith, signed_arith) }

next_year : (y m d n : ℕ) → m ≡ 12 → d ≡ days_in_month (pos y) m → days_from_civil (pos y) m d ≡ pos n → HasNumber (y + 1, 1, 1) (suc n)
next_year y m d n december last number =
    let end : d ≡ 31 = rw december at last in
    let here : days_from_civil (pos y) 12 31 ≡ pos n = rw (december, end) at number in
    let step = days_from_civil-next_year (pos y) (pos (y + 1)) (omega (arith, signed_arith)) (omega (arith, signed_arith)) in
    let long = days_in_month_bounds (pos (y + 1)) 1 in
    record { low = omega arith; high = omega arith; first = omega arith; last = omega arith; number = omega (arith, signed_arith) }

next_has : (y m d n : ℕ) → HasNumber (y, m, d) n → HasNumber (next_day y m d) (suc n)
next_has y m d n h =
    let low : 1 ≤ m = h.low in
    let high : m ≤ 12 = h.high in
    let first : 1 ≤ d = h.first in
    let last : d ≤ days_in_month (pos y) m = h.last in
    let number : days_from_civil (pos y) m d ≡ pos n = h.number in
    elim (cases_lt d (days_in_month (pos y) m)) [
      | inl within ↦ rw (lt-ltb d (days_in_month (pos y) m) within) (in_month y m d n low high within (days_from_civil-day (pos y) m (d + 1) d (omega arith) first) number)
      | inr over ↦ rw (le-ltb d (days_in_month (pos y) m) over) (elim (cases_lt m 12) [
        | inl early ↦ rw (lt-ltb m 12 early) (in_year y m d n early (days_from_civil-next_month (pos y) m d low (omega arith)) number)
        | inr late ↦ (let e : m ≡ 12 = omega arith in let l : d ≡ days_in_month (pos y) m = omega arith in rw (le-ltb m 12 late) (next_year y m d n e l number))
      ])
    ]

first_has : HasNumber (1970, 1, 1) 0
first_has = record { low = omega arith; high = omega arith; first = omega arith; last = omega arith; number = known_days.0 }

pub after_has : (n : ℕ) → HasNumber (date_after n) n
unfolding date_after
after_has zero = first_has
after_has (suc n) = next_has (date_after n).0 (date_after n).1 (date_after n).2 n (after_has n)

-- a date with the same day number has the same parts
same_parts : (y m d n : ℕ) (date : Date) → HasNumber (y, m, d) n → epoch_day date ≡ pos n
    → (date.year ≡ pos y) × (date.month ≡ m) × (date.day ≡ d)
same_parts y m d n date h e =
    let year : pos y ≤ℤ pos 9999 = elim (cases_order y 9999) [
      | inl same ↦ (let s = same in omega (arith, signed_arith))
      | inr (inl less) ↦ (let s = less in omega (arith, signed_arith))
      | inr (inr more) ↦ absurd (
          let yi = date.year_in in
          let k = day_count-lt_year date.year date.month date.day (pos y) m d (civil date) h.first (omega (arith, signed_arith)) in
          let a = h.number in
          omega (arith, signed_arith, days_from_civil-day_count))
    ] in
    let other : Date = record {
      year = pos y;
      month = m;
      day = d;
      year_in = (omega (arith, signed_arith), year);
      month_in = (h.low, h.high);
      day_in = (h.first, h.last);
    } in
    epoch_day_injective date other (e ∙ sym h.number)

pub date_is : (n : ℕ) (date : Date) → epoch_day date ≡ pos n
    → (date.year ≡ pos (date_after n).0) × (date.month ≡ (date_after n).1) × (date.day ≡ (date_after n).2)
date_is n date e = same_parts (date_after n).0 (date_after n).1 (date_after n).2 n date (after_has n) e

-- the parts of the date that many days behind the first one that jiff has
pub date_parts : (n : ℕ) (made : Day) (date : Date) → made ≡ (unsigned_abs date.year, date.month, date.day)
    → epoch_day date +ℤ pos 4371587 ≡ pos (n + 4371587) → made ≡ date_after n
date_parts n made date is e =
    let same : epoch_day date ≡ pos n = omega (arith, signed_arith) in
    let parts = date_is n date same in
    is ∙ rw (parts.0, parts.1, parts.2) refl

pub year_small : (date : Date) → unsigned_abs date.year < 10000
year_small date =
    let years = date.year_in in
    elim (one_part date.year) [
      | inl none ↦ omega (arith, signed_arith, unsigned_abs-parts date.year)
      | inr none ↦ omega (arith, signed_arith, unsigned_abs-parts date.year)
    ]

pub month_small : (date : Date) → date.month < 100
month_small date = let months = date.month_in in omega arith

pub day_small : (date : Date) → date.day < 100
day_small date =
    let days = date.day_in in
    let long = days_in_month_bounds date.year date.month in
    omega arith
