-- Responses whose dates are moved.
use Rattle.std.specs.Prelude.{ℕ, ◌/◌, Bool, ◌||◌, List, map, codes, nat_lt, Option, None, Some, option_and_then, option_map, if◌then◌else◌, ℤ, pos, negsuc, ◌+ℤ◌, ◌-ℤ◌}
use Rattle.std.specs.Option.{unwrap_or}
use Rattle.httpdate.specs.Date.{parse_secs}
use Rattle.px_message.specs.Fields.{is_named}
use Rattle.px_message.specs.declared.response.Response.{Response}
use Rattle.px_refresh.specs.Date.{date_of}

-- by how many seconds dates are moved: from the recorded moment to the end of the request that is asked about, or to 1970 where that is not
-- known, both in microseconds since 1970 and each rounded down to seconds
abbrev pub shift_to : Option ℕ → ℕ → ℤ
shift_to asked recorded = pos (unwrap_or asked 0 / 1000000) -ℤ pos (recorded / 1000000)

-- a second, if it lies in the years 1970 to 9999
abbrev pub in_years : ℤ → Option ℕ
in_years (pos second) = if nat_lt second 253402300800 then Some second else None
in_years (negsuc _) = None

-- the text of the moved date, where the text is one of a date and the moved date lies in these years
abbrev pub moved : ℤ → List ℕ → Option (List ℕ)
moved shift text = option_map date_of (option_and_then (λ second. in_years (pos second +ℤ shift)) (parse_secs text))

-- or else the text itself
abbrev pub refreshed_text : ℤ → List ℕ → List ℕ
refreshed_text shift text = unwrap_or (moved shift text) text

-- the fields that have the date on which a response was made, goes out of date, or was last changed (RFC 9110 sections 6.6.1 and 8.8.2, RFC
-- 9111 section 5.3)
abbrev pub is_dated : List ℕ × List ℕ → Bool
is_dated field = is_named (codes "Date") field || is_named (codes "Expires") field || is_named (codes "Last-Modified") field

abbrev pub refreshed_field : ℤ → List ℕ × List ℕ → List ℕ × List ℕ
refreshed_field shift field = if is_dated field then (field.0, refreshed_text shift field.1) else field

-- the response with its dates moved; all else is as it was
abbrev pub refreshed : Response → ℤ → Response
refreshed response shift = record response { fields = map (refreshed_field shift) response.fields }
