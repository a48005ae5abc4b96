-- What the calls of a reader of a chunked body answer, and what each makes of the reader.
use Rattle.std.specs.Prelude.{◌≡◌, ℕ, ◌<◌, ◌≤◌, ⊤, List, [], ◌∷◌, ◌++◌, length, take, drop, All, Option, Some, None, Result, Ok, Err}
use Rattle.px_message.specs.declared.fault.Fault.TheVariants as fault
use Rattle.px_read.specs.declared.chunk_reader.ChunkError.{ChunkError}
use Rattle.px_read.specs.declared.chunk_reader.ChunkError.TheVariants.{BadChunk, NoMemory}
use Rattle.px_read.specs.declared.chunk_reader.ChunkStep.{ChunkStep}
use Rattle.px_read.specs.declared.part.ChunkPart.{ChunkPart}
use Rattle.px_read.specs.declared.part.ChunkPart.TheVariants as chunk_part
use Rattle.px_read.specs.Marks.{BeginsWithNoByte, Mark, all_chunk_marks, chunk_marks_of}
use Rattle.px_read.specs.Chunks.{ChunkPlace, Finish, goes_on, whole, fails, hear_all, GoesOn, Reading, chunks_from}
use Rattle.px_read.specs.Chunking.{Chunking, reads, ended, refused}

-- a body that has not ended goes on
abbrev pub IsOpen : Chunking → Type 0
IsOpen (reads place) = GoesOn place
IsOpen (ended trailers) = ⊤
IsOpen refused = ⊤

-- ---- one step

-- a part of a body before its end: no piece is empty
abbrev pub IsBodyPart : ChunkPart → Type 0
IsBodyPart (chunk_part.Size size) = ⊤
IsBodyPart (chunk_part.Piece bytes) = 0 < length bytes
IsBodyPart chunk_part.EndOfChunk = ⊤
IsBodyPart (chunk_part.Trailers trailers) = ⊥

-- the bytes tell these marks and nothing more, and the body goes on behind them
abbrev pub Hears : ChunkPlace → List ℕ → List Mark → Chunking → Type 0
Hears place bytes marks after =
    (next : ChunkPlace) × (hear_all place bytes ≡ record { marks = marks; place = next }) × (after ≡ reads next) × GoesOn next

-- the bytes end the body with these trailers and tell nothing more; so many of them are used
abbrev pub Ends : ChunkPlace → List ℕ → List (List ℕ × List ℕ) → ℕ → Chunking → Type 0
Ends place bytes trailers used after =
    (chunks_from place bytes ≡ record { marks = []; finish = whole trailers used }) × (after ≡ ended trailers)

-- the bytes refuse the body and tell nothing
abbrev pub IsRefusal : ChunkPlace → List ℕ → Type 0
IsRefusal place bytes = chunks_from place bytes ≡ record { marks = []; finish = fails fault.BadChunk }

-- what the bytes tell to a reader
abbrev pub feed_marks : Chunking → List ℕ → List Mark
feed_marks (reads place) bytes = (chunks_from place bytes).marks
feed_marks (ended trailers) bytes = []
feed_marks refused bytes = []

-- so many bytes give this part and no other; a piece has all bytes of the content that are there
abbrev pub Gives : ChunkPlace → List ℕ → ℕ → Option ChunkPart → Chunking → Type 0
Gives place bytes used None after = Hears place (take used bytes) [] after
Gives place bytes used (Some (chunk_part.Trailers trailers)) after = Ends place bytes trailers used after
Gives place bytes used (Some (chunk_part.Piece piece)) after =
    Hears place (take used bytes) (chunk_marks_of (chunk_part.Piece piece)) after × IsBodyPart (chunk_part.Piece piece)
    × BeginsWithNoByte (feed_marks after (drop used bytes))
Gives place bytes used (Some part) after =
    Hears place (take used bytes) (chunk_marks_of part) after × IsBodyPart part

-- a part uses at least one byte, and where there is none all bytes are used
abbrev pub UsesFor : Option ChunkPart → ℕ → ℕ → Type 0
UsesFor None count used = used ≡ count
UsesFor (Some part) count used = 0 < used

pub record IsStep (place : ChunkPlace) (bytes : List ℕ) (step : ChunkStep) (after : Chunking) : Type 0 where
  pub within : step.used ≤ length bytes
  pub uses : UsesFor step.part (length bytes) step.used
  pub gives : Gives place bytes step.used step.part after

-- a step from each reader; once out of memory nothing is promised
abbrev pub Steps : Chunking → List ℕ → Result ChunkStep ChunkError → Chunking → Type 0
Steps (reads place) bytes (Ok step) after = IsStep place bytes step after
Steps (reads place) bytes (Err BadChunk) after = IsRefusal place bytes × (after ≡ refused)
Steps (reads place) bytes (Err NoMemory) after = ⊤
Steps (ended trailers) bytes result after = (result ≡ Ok (record { used = 0; part = None })) × (after ≡ ended trailers)
Steps refused bytes result after = (result ≡ Err BadChunk) × (after ≡ refused)

-- ---- all steps that the bytes allow

-- what is answered, of so many bytes
abbrev pub answer_of : ℕ → Finish → Result ℕ ChunkError
answer_of count goes_on = Ok count
answer_of count (whole trailers used) = Ok used
answer_of count (fails fault) = Err BadChunk

abbrev pub feed_answer : Chunking → List ℕ → Result ℕ ChunkError
feed_answer (reads place) bytes = answer_of (length bytes) (chunks_from place bytes).finish
feed_answer (ended trailers) bytes = Ok 0
feed_answer refused bytes = Err BadChunk

abbrev pub after_of : ChunkPlace → Finish → Chunking
after_of place goes_on = reads place
after_of place (whole trailers used) = ended trailers
after_of place (fails fault) = refused

-- the reader behind the bytes
abbrev pub after_feed : Chunking → List ℕ → Chunking
after_feed (reads place) bytes = after_of (hear_all place bytes).place (chunks_from place bytes).finish
after_feed (ended trailers) bytes = ended trailers
after_feed refused bytes = refused

-- the part that ends a body
abbrev pub last_part : Finish → List ChunkPart
last_part goes_on = []
last_part (whole trailers used) = chunk_part.Trailers trailers ∷ []
last_part (fails fault) = []

-- the parts tell what the bytes tell: no piece is empty, and the trailers stand at the end of a whole body and nowhere else
abbrev pub AreTold : Reading → List ChunkPart → Type 0
AreTold reading parts =
    (body : List ChunkPart) × (parts ≡ body ++ last_part reading.finish) × (all_chunk_marks body ≡ reading.marks) × All IsBodyPart body

-- the parts that are added
abbrev pub Added : Chunking → List ℕ → List ChunkPart → Type 0
Added (reads place) bytes parts = AreTold (chunks_from place bytes) parts
Added (ended trailers) bytes parts = parts ≡ []
Added refused bytes parts = parts ≡ []

-- a fact on each answer; once out of memory there is none
abbrev pub UnlessNoMemory : {A : Type 0} → Result A ChunkError → Type 0 → Type 0
UnlessNoMemory (Err NoMemory) fact = ⊤
UnlessNoMemory _ fact = fact
