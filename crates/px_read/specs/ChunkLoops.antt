-- How far a reader of a chunked body has come in the middle of a call.
use Rattle.std.specs.Prelude.{◌≡◌, ℕ, List, [], ◌∷◌, ◌++◌, take, All}
use Rattle.px_read.specs.declared.part.ChunkPart.{ChunkPart}
use Rattle.px_read.specs.declared.part.ChunkPart.TheVariants as chunk_part
use Rattle.px_read.specs.Marks.{all_chunk_marks}
use Rattle.px_read.specs.Chunks.{ChunkPlace, whole, hear_all, chunks_from}
use Rattle.px_read.specs.Chunking.{Chunking, reads, ended, refused}
use Rattle.px_read.specs.ChunkSteps.{Hears, IsBodyPart}

-- so many bytes told nothing
abbrev pub Waits : Chunking → List ℕ → ℕ → Chunking → Type 0
Waits (reads place) bytes at now = Hears place (take at bytes) [] now
Waits (ended trailers) bytes at now = ⊥
Waits refused bytes at now = ⊥

-- so many bytes from this place gave these parts
abbrev pub FeedsFrom : ChunkPlace → List ℕ → ℕ → List ChunkPart → Chunking → Type 0
FeedsFrom place bytes at parts (reads next) =
    (hear_all place (take at bytes) ≡ record { marks = all_chunk_marks parts; place = next }) × All IsBodyPart parts
FeedsFrom place bytes at parts (ended trailers) =
    (body : List ChunkPart) × (parts ≡ body ++ chunk_part.Trailers trailers ∷ []) × All IsBodyPart body
    × (chunks_from place bytes ≡ record { marks = all_chunk_marks body; finish = whole trailers at })
FeedsFrom place bytes at parts refused = ⊥

-- so many bytes gave these parts
abbrev pub Feeds : Chunking → List ℕ → ℕ → List ChunkPart → Chunking → Type 0
Feeds (reads place) bytes at parts now = FeedsFrom place bytes at parts now
Feeds (ended trailers) bytes at parts now = (at ≡ 0) × (parts ≡ []) × (now ≡ ended trailers)
Feeds refused bytes at parts now = (at ≡ 0) × (parts ≡ []) × (now ≡ refused)

-- the same, of parts that stand behind others
abbrev pub FeedsInto : Chunking → List ℕ → ℕ → List ChunkPart → List ChunkPart → Chunking → Type 0
FeedsInto before bytes at old new now = (parts : List ChunkPart) × (new ≡ old ++ parts) × Feeds before bytes at parts now
