-- A reader of a chunked body as its callers see it.
use Rattle.std.specs.Prelude.{ℕ, ◌<◌, List, length, ⊤}
use Rattle.px_read.specs.Kept.{fields_keep}
use Rattle.px_read.specs.Chunks.{ChunkPlace, in_line, in_content, at_cr, at_lf, in_trailers, broken}

pub data Chunking : Type 0 where
  -- the body goes on from this place
  reads : (place : ChunkPlace) → Chunking
  -- it has ended, with these trailers
  ended : (trailers : List (List ℕ × List ℕ)) → Chunking
  -- it was refused
  refused : Chunking

-- how many bytes are kept at a place: those of a chunk line or of trailers that have begun
abbrev pub place_keeps : ChunkPlace → ℕ
place_keeps (in_line line) = length line
place_keeps (in_content left) = 0
place_keeps at_cr = 0
place_keeps at_lf = 0
place_keeps (in_trailers block) = length block
place_keeps broken = 0

-- how many bytes a reader keeps: those at its place, or the trailers with which the body ended
abbrev pub chunking_keeps : Chunking → ℕ
chunking_keeps (reads place) = place_keeps place
chunking_keeps (ended trailers) = fields_keep trailers
chunking_keeps refused = 0

-- a chunk line that has begun has room for one byte more
abbrev pub LineHasRoom : ChunkPlace → Type 0
LineHasRoom (in_line line) = length line < 1024
LineHasRoom place = ⊤

abbrev pub ChunkingHasRoom : Chunking → Type 0
ChunkingHasRoom (reads place) = LineHasRoom place
ChunkingHasRoom chunking = ⊤
