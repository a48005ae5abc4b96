-- How much a reader of one message keeps once it gave all that had come.
use Rattle.std.specs.Prelude.{ℕ, ◌+◌, ◌-◌}

-- where it waits it keeps fewer: a chunk line has at most 1,024 bytes, and the trailers behind it, like a head, fewer than 65,536
-- as long as they are waited for
abbrev pub kept_below : ℕ
kept_below = 65536 + 1024

-- behind its message it keeps at most so many: trailers have at most 65,536 bytes, and of those of a field its colon and its line
-- end are not kept, nor is the line end behind the last one
abbrev pub most_trailers : ℕ
most_trailers = 65536 - 3
