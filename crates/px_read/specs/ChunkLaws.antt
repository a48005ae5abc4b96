-- Laws of what the bytes tell of a chunked body.
use Rattle.std.specs.Prelude.{◌≡◌, ◌≢◌, ℕ, ◌≤◌, List, ◌++◌, length, take}
use Rattle.px_message.specs.declared.fault.Fault.{Fault}
use Rattle.px_text.specs.Prefix.{IsPrefixOf}
use Rattle.px_read.specs.Marks.{Mark}
use Rattle.px_read.specs.Chunked.{IsChunked, chunks_told}
use Rattle.px_read.specs.Chunks.{ChunkPlace, GoesOn, goes_on, whole, fails, hear_all, chunks_from, chunked_reading}
use Rattle.px_read.specs.Chunking.{Chunking}
use Rattle.px_read.specs.ChunkSteps.{after_feed, feed_marks}
use Rattle.px_read.specs.Readings.{behind_bytes}

-- ---- more bytes

-- bytes behind others are heard from where those led
abbrev pub HearingResumes : Type 0
HearingResumes = (place : ChunkPlace) (bytes more : List ℕ) →
    let first = hear_all place bytes in
    let further = hear_all first.place more in
    hear_all place (bytes ++ more) ≡ record { marks = first.marks ++ further.marks; place = further.place }

-- and so is a body that went on
abbrev pub ReadingResumes : Type 0
ReadingResumes = (place : ChunkPlace) (bytes more : List ℕ) → GoesOn (hear_all place bytes).place →
    let first = hear_all place bytes in
    let further = chunks_from first.place more in
    chunks_from place (bytes ++ more) ≡ record { marks = first.marks ++ further.marks; finish = behind_bytes (length bytes) further.finish }

-- a body that is whole or refused stays as it is, whatever follows
abbrev pub FinishStays : Type 0
FinishStays = (place : ChunkPlace) (bytes more : List ℕ) → (chunks_from place bytes).finish ≢ goes_on
    → chunks_from place (bytes ++ more) ≡ chunks_from place bytes

-- what is told only grows
abbrev pub MarksGrow : Type 0
MarksGrow = (place : ChunkPlace) (bytes more : List ℕ)
    → IsPrefixOf (chunks_from place bytes).marks (chunks_from place (bytes ++ more)).marks

-- a reader is left by two pieces as by both at once, and they tell the same
abbrev pub CutsDoNotShow : Type 0
CutsDoNotShow = (before : Chunking) (bytes more : List ℕ) →
    (after_feed (after_feed before bytes) more ≡ after_feed before (bytes ++ more))
    × (feed_marks before (bytes ++ more) ≡ feed_marks before bytes ++ feed_marks (after_feed before bytes) more)

-- ---- sizes

-- a body that goes on is ended by at least one byte, and by none that is not there
abbrev pub ChunksUsedIsWithin : Type 0
ChunksUsedIsWithin = (place : ChunkPlace) (bytes : List ℕ) (trailers : List (List ℕ × List ℕ)) (used : ℕ) → GoesOn place
    → (chunks_from place bytes).finish ≡ whole trailers used → (1 ≤ used) × (used ≤ length bytes)

-- ---- the reading and the grammar

-- a chunked body is read as it is, whatever follows
abbrev pub ChunkedIsRead : Type 0
ChunkedIsRead = (text rest : List ℕ) (contents : List (List ℕ)) (trailers : List (List ℕ × List ℕ))
    → IsChunked text contents trailers
    → chunked_reading (text ++ rest) ≡ record { marks = chunks_told contents; finish = whole trailers (length text) }

-- and what is read as whole is one
abbrev pub ReadIsChunked : Type 0
ReadIsChunked = (bytes : List ℕ) (marks : List Mark) (trailers : List (List ℕ × List ℕ)) (used : ℕ)
    → chunked_reading bytes ≡ record { marks = marks; finish = whole trailers used }
    → (contents : List (List ℕ)) × IsChunked (take used bytes) contents trailers × (marks ≡ chunks_told contents)

-- bytes begin with one chunked body at most, which is read in one way only
abbrev pub ChunkedIsUnique : Type 0
ChunkedIsUnique = (text rest : List ℕ) (contents : List (List ℕ)) (trailers : List (List ℕ × List ℕ))
    (other behind : List ℕ) (others : List (List ℕ)) (further : List (List ℕ × List ℕ))
    → IsChunked text contents trailers → IsChunked other others further → text ++ rest ≡ other ++ behind
    → (text ≡ other) × (contents ≡ others) × (trailers ≡ further)

-- bytes that are refused begin no chunked body
abbrev pub RefusedIsNotChunked : Type 0
RefusedIsNotChunked = (bytes more text rest : List ℕ) (fault : Fault) (contents : List (List ℕ)) (trailers : List (List ℕ × List ℕ))
    → (chunked_reading bytes).finish ≡ fails fault → bytes ++ more ≡ text ++ rest → IsChunked text contents trailers → ⊥
