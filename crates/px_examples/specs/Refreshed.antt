-- Dates that are moved.
use Rattle.std.specs.Prelude.{ℕ, List, [], ◌∷◌, Option, Some, None, codes, ℤ, pos, negsuc}
use Rattle.px_refresh.specs.Refresh.{refreshed_text}
use Rattle.px_examples.specs.Rows.{fields}
use Prim.Native.String.{String}

-- ---- the shift

abbrev pub shifts : List ((Option ℕ × ℕ) × ℤ)
shifts =
    ((Some 86400000000, 0), pos 86400)
    ∷ ((Some 1999999, 1000000), pos 0)
    ∷ ((Some 2000000, 1999999), pos 1)
    ∷ ((Some 1000000, 1999999), pos 0)
    ∷ ((Some 999999, 1000000), negsuc 0)
    ∷ ((None, 0), pos 0)
    ∷ ((None, 3999999), negsuc 2)
    ∷ []

-- ---- a text

abbrev pub moved_by : ℤ → String → String → (ℤ × List ℕ) × List ℕ
moved_by shift text answer = ((shift, codes text), codes answer)

abbrev pub stays_at : ℤ → String → (ℤ × List ℕ) × List ℕ
stays_at shift text = ((shift, codes text), codes text)

abbrev pub refreshed_by : ℤ × List ℕ → List ℕ
refreshed_by of = refreshed_text of.0 of.1

abbrev pub texts : List ((ℤ × List ℕ) × List ℕ)
texts =
    moved_by (pos 86400) "Thu, 01 Jan 1970 00:00:10 GMT" "Fri, 02 Jan 1970 00:00:10 GMT"
    ∷ moved_by (pos 0) "Thu, 01 Jan 1970 00:00:10 GMT" "Thu, 01 Jan 1970 00:00:10 GMT"
    ∷ moved_by (negsuc 9) "Thu, 01 Jan 1970 00:00:10 GMT" "Thu, 01 Jan 1970 00:00:00 GMT"
    -- the three formats; what is written is the first
    ∷ moved_by (pos 1) "Thursday, 01-Jan-70 23:59:59 GMT" "Fri, 02 Jan 1970 00:00:00 GMT"
    ∷ moved_by (pos 0) "Thu Jan  1 00:00:00 1970" "Thu, 01 Jan 1970 00:00:00 GMT"
    ∷ moved_by (pos 60) "Thu Jan 01 00:59:00 1970" "Thu, 01 Jan 1970 01:00:00 GMT"
    ∷ []

-- the ends of months and years, and a leap day
abbrev pub ends : List ((ℤ × List ℕ) × List ℕ)
ends =
    moved_by (pos 1) "Sat, 31 Jan 1970 23:59:59 GMT" "Sun, 01 Feb 1970 00:00:00 GMT"
    ∷ moved_by (pos 31536000) "Thu, 01 Jan 1970 12:34:56 GMT" "Fri, 01 Jan 1971 12:34:56 GMT"
    ∷ moved_by (pos 86400) "Mon, 28 Feb 1972 08:49:37 GMT" "Tue, 29 Feb 1972 08:49:37 GMT"
    ∷ moved_by (negsuc 86399) "Wed, 01 Mar 1972 08:49:37 GMT" "Tue, 29 Feb 1972 08:49:37 GMT"
    -- a year that has none, and the last second
    ∷ moved_by (pos 1) "Sun, 28 Feb 2100 23:59:59 GMT" "Mon, 01 Mar 2100 00:00:00 GMT"
    ∷ moved_by (pos 1) "Fri, 31 Dec 9999 23:59:58 GMT" "Fri, 31 Dec 9999 23:59:59 GMT"
    ∷ []

-- a second in no year from 1970 to 9999
abbrev pub outside : List ((ℤ × List ℕ) × List ℕ)
outside =
    stays_at (negsuc 10) "Thu, 01 Jan 1970 00:00:10 GMT"
    ∷ stays_at (negsuc 9223372036854775807) "Sun, 06 Nov 1994 08:49:37 GMT"
    ∷ stays_at (pos 1) "Fri, 31 Dec 9999 23:59:59 GMT"
    ∷ stays_at (pos 253402300800) "Thursday, 01-Jan-70 00:00:00 GMT"
    ∷ stays_at (pos 9223372036854775807) "Thu Jan  1 00:00:00 1970"
    ∷ []

-- what is no date
abbrev pub undated : List ((ℤ × List ℕ) × List ℕ)
undated =
    stays_at (pos 86400) "0"
    ∷ stays_at (pos 86400) ""
    ∷ stays_at (pos 86400) "-1"
    ∷ stays_at (pos 86400) "Fri, 01 Jan 1970 00:00:10 GMT"
    ∷ stays_at (pos 86400) "Thu, 01 Jan 1970 00:00:10 UTC"
    ∷ stays_at (pos 86400) "thu, 01 jan 1970 00:00:10 gmt"
    ∷ stays_at (pos 86400) "Thu, 1 Jan 1970 00:00:10 GMT"
    ∷ stays_at (pos 86400) "Thu, 01 Jan 1970 00:00:60 GMT"
    ∷ stays_at (pos 86400) "Wed, 31 Dec 1969 23:59:59 GMT"
    ∷ stays_at (pos 86400) " Thu, 01 Jan 1970 00:00:10 GMT"
    ∷ []

-- ---- fields, moved by a day

abbrev pub moved_lines : List (List (List ℕ × List ℕ) × List (List ℕ × List ℕ))
moved_lines = (
  fields "Server: x\ndate: Thu, 01 Jan 1970 00:00:10 GMT\nExpires: 0\nLast-Modified: Thu, 01 Jan 1970 00:00:00 GMT",
  fields "Server: x\ndate: Fri, 02 Jan 1970 00:00:10 GMT\nExpires: 0\nLast-Modified: Fri, 02 Jan 1970 00:00:00 GMT",
)
    ∷ (
      fields "EXPIRES: Thu, 01 Jan 1970 00:00:10 GMT\nExpires: x\nexpires: Thu Jan  1 00:00:00 1970",
      fields "EXPIRES: Fri, 02 Jan 1970 00:00:10 GMT\nExpires: x\nexpires: Fri, 02 Jan 1970 00:00:00 GMT",
    )
    ∷ (
      fields "X-Date: Thu, 01 Jan 1970 00:00:10 GMT\nRetry-After: Thu, 01 Jan 1970 00:00:10 GMT\nSet-Cookie: s=1; Expires=Thu, 01 Jan 1970 00:00:10 GMT",
      fields "X-Date: Thu, 01 Jan 1970 00:00:10 GMT\nRetry-After: Thu, 01 Jan 1970 00:00:10 GMT\nSet-Cookie: s=1; Expires=Thu, 01 Jan 1970 00:00:10 GMT",
    )
    ∷ []
