-- Turns in which nothing is told, and those of a chunked body.
use Rattle.std.specs.Prelude.{ℕ, Bool, true, false, List, Option, Some, None}
use Rattle.px_message.specs.declared.fault.Fault.TheVariants.{ServerClosed}
use Rattle.px_read.specs.declared.message_reader.stage.MessageStage.{MessageStage}
use Rattle.px_read.specs.declared.message_reader.stage.MessageStage.TheVariants.{Refused, Ended}
use Rattle.px_read.specs.declared.message_reader.stage.MessageTurn.{MessageTurn}
use Rattle.px_read.specs.declared.part.ChunkPart.{ChunkPart}
use Rattle.px_read.specs.declared.part.ChunkPart.TheVariants as chunk_part
use Rattle.px_read.specs.declared.part.Part.TheVariants.{More, Piece, ChunkStart, ChunkEnd, End, Bad}

-- the message waits, or its server has closed too early
abbrev pub waited : Bool → MessageStage → List ℕ → MessageTurn
waited false stage rest = record { part = More; stage = stage; rest = rest }
waited true stage rest = record { part = Bad ServerClosed; stage = Refused ServerClosed; rest = rest }

-- the part of a chunked body as one of the message
abbrev pub given : Option ChunkPart → MessageStage → List ℕ → Bool → MessageTurn
given None stage rest cut = waited cut stage rest
given (Some (chunk_part.Size size)) stage rest cut = record { part = ChunkStart size; stage = stage; rest = rest }
given (Some (chunk_part.Piece bytes)) stage rest cut = record { part = Piece bytes; stage = stage; rest = rest }
given (Some chunk_part.EndOfChunk) stage rest cut = record { part = ChunkEnd; stage = stage; rest = rest }
given (Some (chunk_part.Trailers trailers)) stage rest cut = record { part = End trailers; stage = Ended trailers; rest = rest }
