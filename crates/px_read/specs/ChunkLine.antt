-- Chunk lines (RFC 9112 section 7.1): one to sixteen hexadecimal digits, spaces or tabs, an extension or none, and CRLF.
-- The grammar is that of `httparse`; a line has at most 1,024 bytes.
use Rattle.std.proofs.Common.{inl, inr, refl, subst}
use Rattle.std.specs.Prelude.{◌≡◌, ℕ, ◌≤◌, ◌⊎◌, List, [], length, Option, Some, None}
use Rattle.httparse.specs.Grammar.{ChunkLine, ReadsChunkLine, chunk_size}
use Rattle.httparse.specs.Pieces.{Begins, Chunk}
use Rattle.httparse.proofs.ChunkLemmas.{Chunk_deterministic, chunk_line, chunk_pieces, chunk_from_pieces}
use Rattle.px_head.specs.Tell.{Decided, CanTell, decided_both, decided_le, decided_nil, Where, Where_tell}
use Rattle.px_read.specs.TellLine.{Chunk_tell}

-- the bytes are this line and nothing more
abbrev pub IsLine : List ℕ → ChunkLine → Type 0
IsLine bytes line = ReadsChunkLine bytes line [] × (length bytes ≤ 1024)

-- ---- the decision

-- what is read ends with the bytes, of which there are so many
abbrev LineEnds : ℕ → List ℕ × (List ℕ × Option (List ℕ)) → List ℕ → Type 0
LineEnds count t rest = (rest ≡ []) × (count ≤ 1024)

line_whole : (count : ℕ) → CanTell (Where Chunk (LineEnds count))
line_whole count =
    Where_tell Chunk_deterministic Chunk_tell (λ t rest. decided_both (decided_nil rest) (decided_le count 1024))

line_by : (bytes : List ℕ) → Decided (Begins (Where Chunk (LineEnds (length bytes))) bytes)
    → ((line : ChunkLine) × IsLine bytes line) ⊎ ((line : ChunkLine) → IsLine bytes line → ⊥)
line_by bytes (inl w) = inl (
  chunk_line w.0,
  (
    subst (λ (r : List ℕ). ReadsChunkLine bytes (chunk_line w.0) r) w.2.1.0 (chunk_from_pieces bytes w.0 w.1 w.2.0),
    w.2.1.1,
  ),
)
line_by bytes (inr none) =
    inr (λ l x. none ((l.digits, (l.pad, l.extension)), [], (chunk_pieces bytes l [] x.0, (refl, x.1))))

-- the line that the bytes are, or that they are none
pub tell_line : (bytes : List ℕ) → ((line : ChunkLine) × IsLine bytes line) ⊎ ((line : ChunkLine) → IsLine bytes line → ⊥)
tell_line bytes = line_by bytes ((line_whole (length bytes)).tell bytes)

-- ---- what it states

abbrev pub size_told : {bytes : List ℕ} → ((line : ChunkLine) × IsLine bytes line) ⊎ ((line : ChunkLine) → IsLine bytes line → ⊥) → Option ℕ
size_told (inl w) = Some (chunk_size w.0)
size_told (inr none) = None

-- the size that the line states
abbrev pub size_in : List ℕ → Option ℕ
size_in bytes = size_told (tell_line bytes)
