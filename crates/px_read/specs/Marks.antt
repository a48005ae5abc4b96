-- What a message is told in: its least parts, one for each byte of its body, so that no cut shows.
use Rattle.std.specs.Prelude.{◌≢◌, ℕ, List, [], ◌∷◌, map}
use Rattle.std.specs.List.{flat_map}
use Rattle.px_read.specs.declared.head.RequestHead.{RequestHead}
use Rattle.px_read.specs.declared.head.ResponseHead.{ResponseHead}
use Rattle.px_read.specs.declared.part.Part.{Part}
use Rattle.px_read.specs.declared.part.Part.TheVariants as part
use Rattle.px_read.specs.declared.part.ChunkPart.{ChunkPart}
use Rattle.px_read.specs.declared.part.ChunkPart.TheVariants as chunk_part

pub data Mark : Type 0 where
  -- the head of a request
  asks : (head : RequestHead) → Mark
  -- the head of a response
  answers : (head : ResponseHead) → Mark
  -- a chunk of so many bytes begins
  begins : (size : ℕ) → Mark
  -- a byte of the body
  byte : (value : ℕ) → Mark
  -- a chunk ends
  ends : Mark

-- no byte of a body is told first
abbrev pub BeginsWithNoByte : List Mark → Type 0
BeginsWithNoByte marks = (value : ℕ) (rest : List Mark) → marks ≢ byte value ∷ rest

-- what a part tells; that the message is whole, or refused, is told beside
abbrev pub marks_of : Part → List Mark
marks_of part.More = []
marks_of (part.Request head) = asks head ∷ []
marks_of (part.Response head) = answers head ∷ []
marks_of (part.Piece bytes) = map byte bytes
marks_of (part.ChunkStart size) = begins size ∷ []
marks_of part.ChunkEnd = ends ∷ []
marks_of (part.End trailers) = []
marks_of (part.Bad fault) = []

-- the same of the parts of a chunked body
abbrev pub chunk_marks_of : ChunkPart → List Mark
chunk_marks_of (chunk_part.Size size) = begins size ∷ []
chunk_marks_of (chunk_part.Piece bytes) = map byte bytes
chunk_marks_of chunk_part.EndOfChunk = ends ∷ []
chunk_marks_of (chunk_part.Trailers trailers) = []

abbrev pub all_chunk_marks : List ChunkPart → List Mark
all_chunk_marks parts = flat_map chunk_marks_of parts
