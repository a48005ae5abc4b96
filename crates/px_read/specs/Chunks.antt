-- What a chunked body tells, byte by byte, and where in it the next byte stands (RFC 9112 section 7.1). A chunk line is
-- judged when its LF or its 1,024th byte is heard, the CRLF behind a content byte by byte, and the trailers over all that
-- was heard of them.
use Rattle.std.specs.Prelude.{◌≡◌, ℕ, zero, suc, ◌+◌, ◌-◌, ◌==◌, nat_le, if◌then◌else◌, List, [], ◌∷◌, ◌++◌, length, Option, Some, None}
use Rattle.px_head.specs.Front.{trailer_front}
use Rattle.px_head.specs.declared.front.Front.{Front}
use Rattle.px_head.specs.declared.front.Front.TheVariants.{Nothing, TooLong, BadHead, Stands}
use Rattle.px_message.specs.declared.fault.Fault.{Fault}
use Rattle.px_message.specs.declared.fault.Fault.TheVariants.{BadChunk}
use Rattle.px_read.specs.ChunkLine.{size_in}
use Rattle.px_read.specs.Marks.{Mark, begins, byte, ends}

-- where in a chunked body the next byte stands
pub data ChunkPlace : Type 0 where
  -- in a chunk line, of which these bytes were heard
  in_line : (line : List ℕ) → ChunkPlace
  -- in a content, of which so many bytes and one more are to come
  in_content : (left : ℕ) → ChunkPlace
  -- behind a content
  at_cr : ChunkPlace
  at_lf : ChunkPlace
  -- in the trailers and what follows them, of which these bytes were heard
  in_trailers : (block : List ℕ) → ChunkPlace
  -- behind a fault
  broken : ChunkPlace

-- what a byte tells, and the place behind it
pub record ChunkHearing : Type 0 where
  pub marks : List Mark
  pub place : ChunkPlace

abbrev pub silent : ChunkPlace → ChunkHearing
silent place = record { marks = []; place = place }

-- behind a chunk line that states this size
abbrev pub behind_size : Option ℕ → ChunkHearing
behind_size None = silent broken
behind_size (Some zero) = silent (in_trailers [])
behind_size (Some (suc left)) = record { marks = begins (suc left) ∷ []; place = in_content left }

-- behind a byte of a line, which ends it where it is LF
abbrev pub behind_line_byte : List ℕ → ℕ → ChunkHearing
behind_line_byte line b =
    if b == 10 then behind_size (size_in line) else (if nat_le 1024 (length line) then silent broken else silent (in_line line))

-- behind a byte of a content
abbrev pub behind_content : ℕ → ChunkPlace
behind_content zero = at_cr
behind_content (suc left) = in_content left

abbrev pub hear : ChunkPlace → ℕ → ChunkHearing
hear (in_line line) b = behind_line_byte (line ++ b ∷ []) b
hear (in_content left) b = record { marks = byte b ∷ []; place = behind_content left }
hear at_cr b = if b == 13 then silent at_lf else silent broken
hear at_lf b = if b == 10 then record { marks = ends ∷ []; place = in_line [] } else silent broken
hear (in_trailers block) b = silent (in_trailers (block ++ b ∷ []))
hear broken b = silent broken

-- what the bytes tell, one behind the other
abbrev pub hear_all : ChunkPlace → List ℕ → ChunkHearing
hear_all place [] = silent place
hear_all place (b ∷ bytes) =
    let first = hear place b in
    let rest = hear_all first.place bytes in
    record { marks = first.marks ++ rest.marks; place = rest.place }

-- how a message stands at the end of what was heard
pub data Finish : Type 0 where
  -- it is not whole
  goes_on : Finish
  -- it is whole, with these trailers, and has used so many bytes
  whole : (trailers : List (List ℕ × List ℕ)) (used : ℕ) → Finish
  -- it is refused
  fails : (fault : Fault) → Finish

-- the trailers at the front of a block of `kept` bytes, whose last are the last of `count` bytes
abbrev pub trailers_finish : ℕ → ℕ → Front → Finish
trailers_finish count kept Nothing = goes_on
trailers_finish count kept TooLong = fails BadChunk
trailers_finish count kept BadHead = fails BadChunk
trailers_finish count kept (Stands raw used) = whole raw.pairs ((count + used) - kept)

-- how a body stands, of which the last `count` bytes led to this place
abbrev pub place_finish : ℕ → ChunkPlace → Finish
place_finish count (in_trailers block) = trailers_finish count (length block) (trailer_front block)
place_finish count broken = fails BadChunk
place_finish count _ = goes_on

-- a body that goes on from this place
abbrev pub GoesOn : ChunkPlace → Type 0
GoesOn place = place_finish 0 place ≡ goes_on

-- all that is told of a message, and how it stands
pub record Reading : Type 0 where
  pub marks : List Mark
  pub finish : Finish

-- what the bytes tell of a chunked body from a place on
abbrev pub chunks_from : ChunkPlace → List ℕ → Reading
chunks_from place bytes =
    let heard = hear_all place bytes in record { marks = heard.marks; finish = place_finish (length bytes) heard.place }

-- what they tell of a whole one
abbrev pub chunked_reading : List ℕ → Reading
chunked_reading bytes = chunks_from (in_line []) bytes
