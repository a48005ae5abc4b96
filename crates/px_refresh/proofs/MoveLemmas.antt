-- Moved seconds, and the values that dates are.
use Rattle.std.proofs.Common.{◌≡◌, ◌∙◌, ℕ, zero, suc, ◌+◌, ◌-◌, ◌/◌, ◌%◌, ◌<◌, ◌≤◌, true, nat_lt, List, [], ◌∷◌, ◌++◌, get_or, map, take, codes, Some, None, option_map, option_and_then, Result, Ok, Err, refl, sym, ap, ap₂, arith, inl, inr}
use Rattle.std.specs.Prelude.{IsOk, IfOk, ◌↔◌, ℤ, pos, negsuc, ◌+ℤ◌, unsigned_abs}
use Rattle.std.specs.Int.{FitsUnsigned}
use Rattle.std.specs.List.{list_all, slice_get}
use Rattle.std.specs.Option.{unwrap_or}
use Rattle.std.specs.Result.{result_ok}
use Rattle.std.proofs.lemmas.Bool.{and_from, and_parts, cases_lt, cond-false, cond-true, le-ltb, lt-ltb, ne_eqb, not_from_false, or_from}
use Rattle.std.proofs.lemmas.Int.{ints}
use Rattle.std.proofs.lemmas.List.{map-append, take_more}
use Rattle.std.proofs.lemmas.Option.{get_or_from_slice_get, slice_get_within}
use mir.Syntax.{w64}
use Rattle.httpdate.specs.Date.{date_text, parse_secs, unix_secs}
use Rattle.httpdate.specs.Text.{day_name, four_digits, imf_fixdate, month_name, time_of_day, two_digits}
use Rattle.httpdate.specs.declared.date.HttpDate.{HttpDate}
use Rattle.httpdate.specs.declared.parts.Parts.{Parts}
use Rattle.px_message.specs.Value.{is_value, is_value_byte}
use Rattle.px_refresh.proofs.ValueLemmas.{value_append}
use Rattle.px_refresh.specs.Date.{date_of}
use Rattle.px_refresh.specs.Refresh.{in_years, is_dated, moved, refreshed_field}

-- ---- seconds

pub none_moved : (z : ℤ) → ¬ (FitsUnsigned w64 z) → in_years z ≡ None
none_moved (negsuc n) out = refl
none_moved (pos n) out = elim (cases_lt n 253402300800) [
  | inl less ↦ absurd (out (omega (arith, ints), omega (arith, ints, less)))
  | inr past ↦ cond-false (nat_lt n 253402300800) (Some n) None (le-ltb n 253402300800 past)
]

pub some_moved : {E : Type 0} (z : ℤ) (second : ℕ) (r : Result HttpDate E) → FitsUnsigned w64 z → second ≡ unsigned_abs z →
    (IsOk r ↔ (second < 253402300800)) → IfOk r (λ d. unix_secs d ≡ second) → option_map unix_secs (result_ok r) ≡ in_years z
some_moved (negsuc n) second r fits is says value = absurd (omega (arith, ints, fits.0))
some_moved (pos n) second (Ok d) fits is says value =
    let less : n < 253402300800 = omega (arith, says.0 refl, is) in
    ap Some (value ∙ is) ∙ sym (cond-true (nat_lt n 253402300800) (Some n) None (lt-ltb n 253402300800 less))
some_moved (pos n) second (Err e) fits is says value = elim (cases_lt n 253402300800) [
  | inl less ↦ absurd (let ok = says.1 (omega (arith, less, is)) in cc)
  | inr past ↦ sym (cond-false (nat_lt n 253402300800) (Some n) None (le-ltb n 253402300800 past))
]

-- ---- a field whose date is moved

pub field_moved : (shift : ℤ) (name value : List ℕ) (second : ℕ) → is_dated (name, []) ≡ true →
    Some second ≡ option_and_then (λ n. in_years (pos n +ℤ shift)) (parse_secs value) → (name, date_of second) ≡ refreshed_field shift (name, value)
field_moved shift name value second dated is =
    ap (λ o. (name, unwrap_or (option_map date_of o) value)) is
    ∙ sym (cond-true (is_dated (name, value)) (name, unwrap_or (moved shift value) value) (name, value) dated)

-- what is made of one field more
pub fields_more : (shift : ℤ) (fields : List (List ℕ × List ℕ)) (i : ℕ) (field : List ℕ × List ℕ) (value : List ℕ) (made next : List (List ℕ × List ℕ)) →
    slice_get fields i ≡ Some field → made ≡ map (refreshed_field shift) (take i fields) → (field.0, value) ≡ refreshed_field shift field →
    next ≡ made ++ (field.0, value) ∷ [] → next ≡ map (refreshed_field shift) (take (i + 1) fields)
fields_more shift fields i field value made next there so_far moves is =
    is ∙ ap₂ (λ (l : List (List ℕ × List ℕ)) (f : List ℕ × List ℕ). l ++ f ∷ []) so_far moves
    ∙ sym (map-append (refreshed_field shift) (take i fields) (field ∷ []))
    ∙ sym (ap (map (refreshed_field shift)) (take_more fields i field (slice_get_within fields i field there)
    ∙ ap (λ f. take i fields ++ f ∷ []) (get_or_from_slice_get fields i field field there)))

-- ---- the text of a date is a value

high : (b : ℕ) → 14 ≤ b → is_value_byte b ≡ true
high b above =
    not_from_false _ (or_from _ _ (or_from _ _ (ne_eqb b 0 (λ same. omega (arith, above, same))) (ne_eqb b 10 (λ same. omega (arith, above, same))))
    (ne_eqb b 13 (λ same. omega (arith, above, same))))

value_two : (n : ℕ) → is_value (two_digits n) ≡ true
value_two n = and_from _ _ (high (48 + n / 10) (omega arith)) (and_from _ _ (high (48 + n % 10) (omega arith)) refl)

value_nth : (names : List (List ℕ)) (i : ℕ) → list_all is_value names ≡ true → is_value (get_or names i []) ≡ true
value_nth [] i all = refl
value_nth (name ∷ names) zero all = (and_parts (is_value name) (list_all is_value names) all).0
value_nth (name ∷ names) (suc i) all = value_nth names i (and_parts (is_value name) (list_all is_value names) all).1

value_day : (n : ℕ) → is_value (day_name n) ≡ true
value_day n =
    value_nth (codes "Mon" ∷ codes "Tue" ∷ codes "Wed" ∷ codes "Thu" ∷ codes "Fri" ∷ codes "Sat" ∷ codes "Sun" ∷ []) (n - 1) refl

value_month : (n : ℕ) → is_value (month_name n) ≡ true
value_month n =
    value_nth (codes "Jan" ∷ codes "Feb" ∷ codes "Mar" ∷ codes "Apr" ∷ codes "May" ∷ codes "Jun"
    ∷ codes "Jul" ∷ codes "Aug" ∷ codes "Sep" ∷ codes "Oct" ∷ codes "Nov" ∷ codes "Dec" ∷ []) (n - 1) refl

value_clock : (p : Parts) → is_value (time_of_day p) ≡ true
value_clock p =
    let hour : is_value (two_digits p.hour ++ codes ":") ≡ true = value_append (two_digits p.hour) (codes ":") (value_two p.hour) refl in
    let min : is_value (two_digits p.hour ++ codes ":" ++ two_digits p.min) ≡ true =
    value_append (two_digits p.hour ++ codes ":") (two_digits p.min) hour (value_two p.min) in
    value_append (two_digits p.hour ++ codes ":" ++ two_digits p.min ++ codes ":") (two_digits p.sec)
    (value_append (two_digits p.hour ++ codes ":" ++ two_digits p.min) (codes ":") min refl) (value_two p.sec)

value_date : (p : Parts) → is_value (imf_fixdate p) ≡ true
value_date p =
    let wday = day_name p.wday ++ codes ", " in
    let day = wday ++ two_digits p.day ++ codes " " in
    let mon = day ++ month_name p.mon ++ codes " " in
    let year = mon ++ four_digits p.year ++ codes " " in
    let with_wday : is_value wday ≡ true = value_append (day_name p.wday) (codes ", ") (value_day p.wday) refl in
    let with_day : is_value day ≡ true =
    value_append (wday ++ two_digits p.day) (codes " ") (value_append wday (two_digits p.day) with_wday (value_two p.day)) refl in
    let with_mon : is_value mon ≡ true =
    value_append (day ++ month_name p.mon) (codes " ") (value_append day (month_name p.mon) with_day (value_month p.mon)) refl in
    let four : is_value (four_digits p.year) ≡ true =
    value_append (two_digits (p.year / 100)) (two_digits (p.year % 100)) (value_two (p.year / 100)) (value_two (p.year % 100)) in
    let with_year : is_value year ≡ true =
    value_append (mon ++ four_digits p.year) (codes " ") (value_append mon (four_digits p.year) with_mon four) refl in
    value_append (year ++ time_of_day p) (codes " GMT") (value_append year (time_of_day p) with_year (value_clock p)) refl

pub value_text : (d : HttpDate) → is_value (date_text d) ≡ true
value_text d = value_date d.parts
