-- What the fields of a reader of a chunked body stand for.
use Rattle.std.specs.Prelude.{◌≡◌, ℕ, ◌<◌, List, [], length, None}
use Rattle.px_head.specs.declared.front.Front.TheVariants.{Nothing}
use Rattle.px_head.specs.Front.{trailer_front}
use Rattle.px_read.specs.declared.chunk_reader.stage.ChunkStage.{ChunkStage}
use Rattle.px_read.specs.declared.chunk_reader.stage.ChunkStage.TheVariants as stage
use Rattle.px_read.specs.Chunks.{behind_content, in_line, at_lf, in_trailers}
use Rattle.px_read.specs.Chunking.{Chunking, reads, ended, refused}

-- the reader, which keeps this line
abbrev pub seen_as : List ℕ → ChunkStage → Chunking
seen_as line stage.Line = reads (in_line line)
seen_as line (stage.Content left) = reads (behind_content left)
seen_as line stage.LineFeed = reads at_lf
seen_as line (stage.Trailers reader) = reads (in_trailers reader.rest)
seen_as line (stage.Ended trailers) = ended trailers
seen_as line stage.Refused = refused

-- a line has room for one byte more, and no byte of one is kept elsewhere; trailers have not ended
abbrev pub IsStage : List ℕ → ChunkStage → Type 0
IsStage line stage.Line = length line < 1024
IsStage line (stage.Content left) = line ≡ []
IsStage line stage.LineFeed = line ≡ []
IsStage line (stage.Trailers reader) = (line ≡ []) × (reader.failed ≡ None) × (trailer_front reader.rest ≡ Nothing)
IsStage line (stage.Ended trailers) = line ≡ []
IsStage line stage.Refused = line ≡ []
