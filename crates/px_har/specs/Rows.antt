-- Bytes, dates and moments, and what they are, row by row.
use Rattle.std.specs.Prelude.{◌≡◌, ℕ, ◌+◌, [], ◌∷◌, codes}
use Rattle.px_har.specs.Export.{har_text}
use Rattle.px_har.specs.Moment.{last_moment, moment_text, next_day}
use Rattle.px_har.specs.Text.{base64_text}

pub record RowsHold : Type 0 where
  pub one_byte : base64_text (255 ∷ []) ≡ codes "/w=="
  pub a_day_later : moment_text 86400001000 ≡ codes "1970-01-02T00:00:00.001Z"
  pub leap_year : next_day 1972 2 28 ≡ (1972, 2, 29)
  pub other_year : next_day 1970 2 28 ≡ (1970, 3, 1)
  pub beyond : (more : ℕ) → moment_text (last_moment + more) ≡ moment_text last_moment
  pub no_flow : har_text [] ≡ codes "{\"log\":{\"creator\":{\"name\":\"mitm\",\"version\":\"1\"},\"entries\":[],\"pages\":[],\"version\":\"1.2\"}}"
