-- Where a block of lines ends: RFC 9112 section 2.1 ends it at its first empty line, and by section 2.2 a line may end
-- in LF alone.
use Rattle.std.specs.Prelude.{ℕ, ◌+◌, ◌-◌, Bool, ◌&&◌, ◌||◌, ◌==◌, nat_le, List, [], ◌∷◌, length, slice_index, Option}
use Rattle.px_text.specs.Least.{least}

-- the end of a line that is written (RFC 9112 section 2.1)
abbrev pub crlf : List ℕ
crlf = 13 ∷ 10 ∷ []

-- whether the bytes from `start` to `end` end in LF LF, or in LF CR LF
abbrev pub ends_blank : List ℕ → ℕ → ℕ → Bool
ends_blank bytes start end =
    nat_le (start + 2) end && slice_index bytes (end - 1) == 10
    && (slice_index bytes (end - 2) == 10
    || (nat_le (start + 3) end && slice_index bytes (end - 2) == 13 && slice_index bytes (end - 3) == 10))

-- the end of the block that begins at `start`, its empty line with it
abbrev pub blank_end : List ℕ → ℕ → Option ℕ
blank_end bytes start = least (ends_blank bytes start) start (length bytes + 1 - start)
