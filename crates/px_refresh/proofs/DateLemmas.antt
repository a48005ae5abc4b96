-- The date of a second is the one that the calendar has for it.
use Rattle.std.proofs.Common.{◌≡◌, ◌∙◌, ℕ, zero, suc, ◌+◌, ◌-◌, ◌/◌, ◌<◌, ◌≤◌, Bool, true, false, nat_eq, nat_lt, Some, None, option_and_then, refl, sym, ap, subst, arith, inl, inr, if◌then◌else◌}
use Rattle.std.proofs.lemmas.Bool.{cond-false, cond-true, ltb-true, ltb-false, cases_lt, cond_both}
use Rattle.httpdate.specs.Calendar.{IsCivilDate, days_from_civil, days_in_month, days_in_year, days_of_months, days_of_years, is_leap_year, weekday}
use Rattle.httpdate.specs.Date.{date_text, parse_secs, unix_secs, valid_secs}
use Rattle.httpdate.specs.Text.{imf_fixdate}
use Rattle.httpdate.specs.Valid.{IsValid, is_valid, parts_secs}
use Rattle.httpdate.specs.declared.date.HttpDate.{HttpDate}
use Rattle.httpdate.specs.declared.parts.Parts.{Parts}
use Rattle.httpdate.proofs.CalendarLemmas.{days_from_civil_bound, days_of_months_all, days_of_months_closed, days_of_months_more, days_of_years_closed}
use Rattle.httpdate.proofs.FormatLemmas.{parse_complete}
use Rattle.httpdate.proofs.Theorems.{date_text_is}
use Rattle.httpdate.proofs.ValidLemmas.{is_valid_complete, is_valid_sound}
use Rattle.px_refresh.specs.Date.{Day, date_after, date_of, days_after, parts_at}

-- the date is so many days behind 1970-01-01
abbrev Comes : ℕ → Day → Type 0
Comes days date = IsCivilDate date.0 date.1 date.2 × (days_from_civil date.0 date.1 date.2 ≡ days)

-- ---- the day that follows

some_days : (y m : ℕ) → 1 ≤ days_in_month y m
some_days y m =
    cond_both (nat_eq m 2) (if is_leap_year y then 29 else 28) _ (λ n. 1 ≤ n)
    (λ _. cond_both (is_leap_year y) 29 28 (λ n. 1 ≤ n) (λ _. omega arith) (λ _. omega arith))
    (λ _. cond_both _ 30 31 (λ n. 1 ≤ n) (λ _. omega arith) (λ _. omega arith))

same_month : (y m d : ℕ) → IsCivilDate y m d → d < days_in_month y m → Comes (days_from_civil y m d + 1) (y, m, d + 1)
same_month y m d civil less = ((civil.0, civil.1, (omega arith, omega (arith, less))), omega (arith, civil.2))

next_month : (y m d : ℕ) → IsCivilDate y m d → days_in_month y m ≤ d → m < 12 → Comes (days_from_civil y m d + 1) (y, m + 1, 1)
next_month y m d civil last less =
    let more = days_of_months_more y m civil.1.0 in
    let back : m + 1 - 1 ≡ m = omega arith in
    let months : days_of_months y (m + 1 - 1) ≡ days_of_months y m = ap (days_of_months y) back in
    ((civil.0, (omega arith, omega (arith, less)), (omega arith, some_days y (m + 1))), omega (arith, more, months, civil.2, last))

years_more : (n : ℕ) → days_of_years (suc n) ≡ days_of_years n + days_in_year (1970 + n)
unfolding days_of_years
years_more n = refl

next_year : (y m d : ℕ) → IsCivilDate y m d → days_in_month y m ≤ d → 12 ≤ m → days_from_civil y m d + 1 < 2932897 →
    Comes (days_from_civil y m d + 1) (y + 1, 1, 1)
next_year y m d civil last whole below =
    let is : m ≡ 12 = omega (arith, civil.1, whole) in
    let day : days_of_months y (m - 1) + days_in_month y m ≡ days_in_year y =
    sym (days_of_months_more y m civil.1.0) ∙ ap (days_of_months y) is ∙ days_of_months_all y in
    let since : 1970 + (y - 1970) ≡ y = omega (arith, civil.0) in
    let behind : y + 1 - 1970 ≡ suc (y - 1970) = omega (arith, civil.0) in
    let years : days_of_years (y + 1 - 1970) ≡ days_of_years (y - 1970) + days_in_year y =
    ap days_of_years behind ∙ years_more (y - 1970) ∙ ap (λ n. days_of_years (y - 1970) + days_in_year n) since in
    let none : days_of_months (y + 1) (1 - 1) ≡ 0 = days_of_months_closed (y + 1) 0 (omega arith) in
    let comes : days_from_civil (y + 1) 1 1 ≡ days_from_civil y m d + 1 = omega (arith, day, years, none, civil.2, last) in
    let short : y + 1 ≤ 9999 = early y civil.0.0 (omega (arith, comes, none, below)) in
    (((omega (arith, civil.0), short), (omega arith, omega arith), (omega arith, some_days (y + 1) 1)), comes)
  where
    grows : (n k : ℕ) → days_of_years n ≤ days_of_years (n + k)
    grows n zero = let same : n + 0 ≡ n = omega arith in rw same (omega arith)
    grows n (suc k) =
        let next : n + suc k ≡ suc (n + k) = omega arith in
        rw next (omega (arith, grows n k, years_more (n + k)))

    early : (y : ℕ) → 1970 ≤ y → days_of_years (y + 1 - 1970) < 2932897 → y + 1 ≤ 9999
    early y since below = elim (cases_lt (y + 1) 10000) [
      | inl less ↦ omega (arith, less)
      | inr past ↦
          let all : 8030 + (y + 1 - 10000) ≡ y + 1 - 1970 = omega (arith, past) in
          absurd (omega (arith, below, subst (λ n. days_of_years 8030 ≤ days_of_years n) all (grows 8030 (y + 1 - 10000)), days_of_years_closed 8030))
    ]

-- ---- so many days later

go_on : (n y m d : ℕ) → IsCivilDate y m d → days_from_civil y m d + n < 2932897 → Comes (days_from_civil y m d + n) (days_after n y m d)
unfolding days_after
go_on zero y m d civil below = (civil, omega arith)
go_on (suc n) y m d civil below = by_day (λ y m d. go_on n y m d) (nat_lt d (days_in_month y m)) refl
  where
    After : Type 0
    After = (y m d : ℕ) → IsCivilDate y m d → days_from_civil y m d + n < 2932897 → Comes (days_from_civil y m d + n) (days_after n y m d)

    from : (year month day : ℕ) → After → Comes (days_from_civil y m d + 1) (year, month, day) → Comes (days_from_civil y m d + suc n) (days_after n year month day)
    from year month day after comes =
        let later = after year month day comes.0 (omega (arith, comes.1, below)) in
        (later.0, later.1 ∙ omega (arith, comes.1))

    by_month : After → days_in_month y m ≤ d → (t : Bool) → nat_lt m 12 ≡ t → Comes (days_from_civil y m d + suc n)
        (if nat_lt m 12 then days_after n y (m + 1) 1 else days_after n (y + 1) 1 1)
    by_month after last true less =
        subst (Comes (days_from_civil y m d + suc n)) (sym (cond-true (nat_lt m 12) (days_after n y (m + 1) 1) (days_after n (y + 1) 1 1) less))
        (from y (m + 1) 1 after (next_month y m d civil last (ltb-true m 12 less)))
    by_month after last false whole =
        subst (Comes (days_from_civil y m d + suc n)) (sym (cond-false (nat_lt m 12) (days_after n y (m + 1) 1) (days_after n (y + 1) 1 1) whole))
        (from (y + 1) 1 1 after (next_year y m d civil last (ltb-false m 12 whole) (omega (arith, below))))

    by_day : After → (t : Bool) → nat_lt d (days_in_month y m) ≡ t → Comes (days_from_civil y m d + suc n) (days_after (suc n) y m d)
    by_day after true less =
        subst (Comes (days_from_civil y m d + suc n)) (sym (cond-true (nat_lt d (days_in_month y m)) (days_after n y m (d + 1)) _ less))
        (from y m (d + 1) after (same_month y m d civil (ltb-true d (days_in_month y m) less)))
    by_day after false last =
        subst (Comes (days_from_civil y m d + suc n)) (sym (cond-false (nat_lt d (days_in_month y m)) (days_after n y m (d + 1)) _ last))
        (by_month after (ltb-false d (days_in_month y m) last) (nat_lt m 12) refl)

no_years : days_of_years 0 ≡ 0
unfolding days_of_years
no_years = refl

comes_after : (n : ℕ) → n < 2932897 → Comes n (date_after n)
comes_after n below =
    let years : days_of_years (1970 - 1970) ≡ 0 = no_years in
    let months : days_of_months 1970 (1 - 1) ≡ 0 = days_of_months_closed 1970 0 (omega arith) in
    let from = go_on n 1970 1 1 ((omega arith, omega arith), (omega arith, omega arith), (omega arith, some_days 1970 1)) (omega (arith, years, months, below)) in
    (from.0, from.1 ∙ omega (arith, years, months))

-- ---- the parts of a second

abbrev parts : ℕ → Parts
parts n = parts_at (date_after (n / 86400)) n

parts_valid : (n : ℕ) → n < 253402300800 → IsValid (parts n) × (parts_secs (parts n) ≡ n)
parts_valid n below =
    let comes = comes_after (n / 86400) (omega arith) in
    ((comes.0, (omega arith, omega arith, omega arith), ap weekday (sym comes.1)), omega (arith, comes.1))

-- what is written for a date is the date of its second
pub date_is : (d : HttpDate) → date_text d ≡ date_of (unix_secs d)
date_is d =
    let valid = parts_valid (unix_secs d) (omega (arith, days_from_civil_bound d.parts.year d.parts.mon d.parts.day d.civil, d.time)) in
    date_text_is d (parts (unix_secs d)) (is_valid_complete (parts (unix_secs d)) valid.0) (sym valid.1)

-- so the date of the second of some parts is these parts, written
pub date_of_parts : (p : Parts) → is_valid p ≡ true → date_of (parts_secs p) ≡ imf_fixdate p
date_of_parts p valid =
    let holds = is_valid_sound p valid in
    sym (date_is (record { parts = p; civil = holds.0; time = holds.1; right_day = holds.2 }))

-- and it is read as its second
pub date_is_read : (n : ℕ) → n < 253402300800 → parse_secs (date_of n) ≡ Some n
date_is_read n below =
    let valid = parts_valid n below in
    ap (option_and_then valid_secs) (parse_complete (date_of n) (parts n) valid.0 (inl refl))
    ∙ cond-true (is_valid (parts n)) (Some (parts_secs (parts n))) None (is_valid_complete (parts n) valid.0) ∙ ap Some valid.1
