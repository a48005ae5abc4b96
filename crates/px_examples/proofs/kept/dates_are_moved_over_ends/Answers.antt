use Rattle.std.proofs.Common.{◌≡◌, ℕ, List, [], ◌∷◌, refl}
use Rattle.std.specs.Prelude.{codes, negsuc, pos}
use Rattle.httpdate.proofs.OnLiterals.{httpdate_on_literals}
use Rattle.httpdate.specs.Text.{imf_fixdate}
use Rattle.httpdate.specs.declared.parts.Parts.{Parts}
use Rattle.px_refresh.proofs.DateLemmas.{date_of_parts}
use Rattle.px_refresh.specs.Refresh.{refreshed_text}
use Rattle.px_examples.proofs.kept.dates_are_moved_over_ends.Goals as goal

-- No date is come to day by day: each is its parts.
abbrev at : ℕ → ℕ → ℕ → ℕ → ℕ → ℕ → ℕ → Parts
at year month day hour minute second weekday =
    record { year = year; mon = month; day = day; hour = hour; min = minute; sec = second; wday = weekday }

over_month : refreshed_text (pos 1) (codes "Sat, 31 Jan 1970 23:59:59 GMT") ≡ imf_fixdate (at 1970 2 1 0 0 0 7)
unfolding httpdate_on_literals
over_month = date_of_parts (at 1970 2 1 0 0 0 7) refl

over_year : refreshed_text (pos 31536000) (codes "Thu, 01 Jan 1970 12:34:56 GMT") ≡ imf_fixdate (at 1971 1 1 12 34 56 5)
unfolding httpdate_on_literals
over_year = date_of_parts (at 1971 1 1 12 34 56 5) refl

to_leap_day : refreshed_text (pos 86400) (codes "Mon, 28 Feb 1972 08:49:37 GMT") ≡ imf_fixdate (at 1972 2 29 8 49 37 2)
unfolding httpdate_on_literals
to_leap_day = date_of_parts (at 1972 2 29 8 49 37 2) refl

back_to_leap_day : refreshed_text (negsuc 86399) (codes "Wed, 01 Mar 1972 08:49:37 GMT") ≡ imf_fixdate (at 1972 2 29 8 49 37 2)
unfolding httpdate_on_literals
back_to_leap_day = date_of_parts (at 1972 2 29 8 49 37 2) refl

over_february : refreshed_text (pos 1) (codes "Sun, 28 Feb 2100 23:59:59 GMT") ≡ imf_fixdate (at 2100 3 1 0 0 0 1)
unfolding httpdate_on_literals
over_february = date_of_parts (at 2100 3 1 0 0 0 1) refl

to_last_second : refreshed_text (pos 1) (codes "Fri, 31 Dec 9999 23:59:58 GMT") ≡ imf_fixdate (at 9999 12 31 23 59 59 5)
unfolding httpdate_on_literals
to_last_second = date_of_parts (at 9999 12 31 23 59 59 5) refl

pub returns : goal.returns
unfolding httpdate_on_literals
returns c = all over_month over_year to_leap_day back_to_leap_day over_february to_last_second
  where
    all : {a p b q c r d s e t f u : List ℕ} → a ≡ p → b ≡ q → c ≡ r → d ≡ s → e ≡ t → f ≡ u →
        ◌≡◌ {A = List (List ℕ)} (a ∷ b ∷ c ∷ d ∷ e ∷ f ∷ []) (p ∷ q ∷ r ∷ s ∷ t ∷ u ∷ [])
    all one two three four five six = rw one (rw two (rw three (rw four (rw five (rw six refl)))))
