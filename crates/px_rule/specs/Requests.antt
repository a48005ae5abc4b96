-- Requests that ask for an answer as it is.
use Rattle.std.specs.Prelude.{ℕ, List, codes}
use Rattle.px_message.specs.Fields.{set_in, without}

-- the fields without those that ask whether a kept answer still stands (RFC 9110 section 13.1)
abbrev pub uncached : List (List ℕ × List ℕ) → List (List ℕ × List ℕ)
uncached fields = without (codes "If-Modified-Since") (without (codes "If-None-Match") fields)

-- the fields with the wish for a body without a coding (RFC 9110 section 12.5.3)
abbrev pub uncoded : List (List ℕ × List ℕ) → List (List ℕ × List ℕ)
uncoded fields = set_in (codes "Accept-Encoding") (codes "identity") fields
