-- What one stage of a chunked body makes of the bytes.
use Rattle.std.specs.Prelude.{◌≡◌, ℕ, zero, suc, ◌<◌, ◌≤◌, ⊤, List, length, Option, Some, None, Result, Ok, Err}
use Rattle.px_head.specs.Reader.{new_reader}
use Rattle.px_read.specs.declared.chunk_reader.ChunkError.{ChunkError}
use Rattle.px_read.specs.declared.chunk_reader.ChunkError.TheVariants.{BadChunk, NoMemory}
use Rattle.px_read.specs.declared.chunk_reader.ChunkStep.{ChunkStep}
use Rattle.px_read.specs.declared.chunk_reader.stage.ChunkStage.TheVariants as stage
use Rattle.px_read.specs.declared.chunk_reader.stage.ChunkTurn.{ChunkTurn}
use Rattle.px_read.specs.declared.part.ChunkPart.TheVariants as chunk_part
use Rattle.px_read.specs.Chunks.{ChunkPlace}
use Rattle.px_read.specs.Chunking.{Chunking, reads, ended, refused}
use Rattle.px_read.specs.ChunkStages.{IsStage, seen_as}
use Rattle.px_read.specs.ChunkSteps.{Gives, IsRefusal}

-- the stage took at least one byte and gave what they tell; the reader then keeps this line
pub record IsTurn (place : ChunkPlace) (bytes line : List ℕ) (turn : ChunkTurn) : Type 0 where
  pub some : 0 < turn.used
  pub within : turn.used ≤ length bytes
  pub stage : IsStage line turn.stage
  pub gives : Gives place bytes turn.used turn.part (seen_as line turn.stage)

-- a turn from this place; once out of memory nothing is promised
abbrev pub Turns : ChunkPlace → List ℕ → List ℕ → Result ChunkTurn ChunkError → Type 0
Turns place bytes line (Ok turn) = IsTurn place bytes line turn
Turns place bytes line (Err BadChunk) = IsRefusal place bytes
Turns place bytes line (Err NoMemory) = ⊤

-- the body has not ended
abbrev pub IsGoing : Chunking → Type 0
IsGoing (reads place) = ⊤
IsGoing (ended trailers) = ⊥
IsGoing refused = ⊥

-- a turn of a body that has not ended
abbrev pub TurnsFrom : Chunking → List ℕ → List ℕ → Result ChunkTurn ChunkError → Type 0
TurnsFrom (reads place) bytes line result = Turns place bytes line result
TurnsFrom (ended trailers) bytes line result = ⊥
TurnsFrom refused bytes line result = ⊥

-- the same, of the whole reader
pub record IsMove (place : ChunkPlace) (bytes : List ℕ) (step : ChunkStep) (after : Chunking) : Type 0 where
  pub some : 0 < step.used
  pub within : step.used ≤ length bytes
  pub gives : Gives place bytes step.used step.part after

abbrev pub Moves : Chunking → List ℕ → Result ChunkStep ChunkError → Chunking → Type 0
Moves (reads place) bytes (Ok step) after = IsMove place bytes step after
Moves (reads place) bytes (Err BadChunk) after = IsRefusal place bytes × (after ≡ refused)
Moves (reads place) bytes (Err NoMemory) after = ⊤
Moves (ended trailers) bytes result after = ⊥
Moves refused bytes result after = ⊥

-- ---- behind a chunk line

-- the stage behind a line that states this size, and used so many bytes
abbrev pub line_turn : ℕ → Option ℕ → Result ChunkTurn ChunkError
line_turn used None = Err BadChunk
line_turn used (Some zero) =
    Ok (record { used = used; part = None; stage = stage.Trailers new_reader })
line_turn used (Some (suc left)) =
    Ok (record { used = used; part = Some (chunk_part.Size (suc left)); stage = stage.Content (suc left) })
