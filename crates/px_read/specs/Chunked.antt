-- A chunked body (RFC 9112 section 7.1): a text, the contents of its chunks, and its trailers. Each chunk is a line that
-- states its size, at least 1, its content and CRLF; a line of size 0 and the trailers end the body.
use Rattle.std.specs.Prelude.{◌≡◌, ℕ, ◌<◌, ◌≤◌, List, [], ◌∷◌, ◌++◌, length, map}
use Rattle.std.specs.List.{flat_map}
use Rattle.httparse.specs.Grammar.{ChunkLine, Field, LineEnd, chunk_size}
use Rattle.px_text.specs.Blank.{crlf}
use Rattle.px_head.specs.Heads.{IsTrailers, raw_trailers}
use Rattle.px_read.specs.ChunkLine.{IsLine}
use Rattle.px_read.specs.Marks.{Mark, begins, byte, ends}

pub data IsChunked : List ℕ → List (List ℕ) → List (List ℕ × List ℕ) → Type 0 where
  last : (line trailers : List ℕ) (states : ChunkLine) (section : List Field × LineEnd) → IsLine line states → chunk_size states ≡ 0 →
      IsTrailers trailers section → length trailers ≤ 65536 → IsChunked (line ++ trailers) [] (raw_trailers section).pairs
  chunk : (line content text : List ℕ) (states : ChunkLine) (contents : List (List ℕ)) (trailers : List (List ℕ × List ℕ)) →
      IsLine line states → chunk_size states ≡ length content → 0 < length content → IsChunked text contents trailers →
      IsChunked (line ++ (content ++ (crlf ++ text))) (content ∷ contents) trailers

-- what a chunk of this content tells
abbrev pub chunk_told : List ℕ → List Mark
chunk_told content = begins (length content) ∷ map byte content ++ ends ∷ []

-- what chunks of these contents tell
abbrev pub chunks_told : List (List ℕ) → List Mark
chunks_told contents = flat_map chunk_told contents
