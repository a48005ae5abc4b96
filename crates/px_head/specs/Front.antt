-- What stands at the front of a list of bytes: a head and the number of bytes that it uses, or why there is none.
use Rattle.std.specs.Prelude.{ℕ, zero, suc, ◌+◌, ◌&&◌, ◌==◌, nat_lt, nat_le, if◌then◌else◌, List, [], ◌∷◌, length, slice_range, Option, Some, None}
use Rattle.px_text.specs.Blank.{blank_end}
use Rattle.px_head.specs.declared.raw.RawHead.{RawHead}
use Rattle.px_head.specs.declared.front.Front.{Front}
use Rattle.px_head.specs.declared.front.Front.TheVariants.{Nothing, TooLong, BadHead, Stands}
use Rattle.px_head.specs.declared.front.Kind.{Kind}
use Rattle.px_head.specs.declared.front.Kind.TheVariants.{Request, Response, Trailers}
use Rattle.px_head.specs.declared.place.BlockPlace.{BlockPlace}
use Rattle.px_head.specs.declared.place.BlockPlace.TheVariants.{Missing, Exceeded, Block}
use Rattle.px_head.specs.Heads.{request_in, response_in, trailers_in}

-- how many bytes the empty lines at the front have (RFC 9112 section 2.2)
abbrev pub blank_lines : List ℕ → ℕ
blank_lines [] = 0
blank_lines (a ∷ []) = if a == 10 then 1 else 0
blank_lines (a ∷ b ∷ rest) =
    if a == 10 then 1 + blank_lines (b ∷ rest) else (if a == 13 && b == 10 then 2 + blank_lines rest else 0)

-- how many bytes the line end at the front has, 0 where none stands there
abbrev pub line_end : List ℕ → ℕ
line_end [] = 0
line_end (a ∷ []) = if a == 10 then 1 else 0
line_end (a ∷ b ∷ rest) = if a == 10 then 1 else (if a == 13 && b == 10 then 2 else 0)

-- a line end at the front ends trailers without a field
abbrev pub trailers_end_by : List ℕ → ℕ → Option ℕ
trailers_end_by bytes zero = blank_end bytes 0
trailers_end_by bytes (suc n) = Some (suc n)

abbrev pub trailers_end : List ℕ → Option ℕ
trailers_end bytes = trailers_end_by bytes (line_end bytes)

-- the block that begins at `start`: it and what was skipped before it have at most 65,536 bytes
abbrev pub place_at : List ℕ → ℕ → Option ℕ → BlockPlace
place_at bytes start None = if nat_le 65536 (length bytes) then Exceeded else Missing
place_at bytes start (Some end) = if nat_lt 65536 end then Exceeded else Block start end

-- behind the empty lines
abbrev pub head_place : List ℕ → BlockPlace
head_place bytes = place_at bytes (blank_lines bytes) (blank_end bytes (blank_lines bytes))

-- at once
abbrev pub trailers_place : List ℕ → BlockPlace
trailers_place bytes = place_at bytes 0 (trailers_end bytes)

abbrev pub place : Kind → List ℕ → BlockPlace
place Request bytes = head_place bytes
place Response bytes = head_place bytes
place Trailers bytes = trailers_place bytes

-- what a block is read as
abbrev pub read_as : Kind → List ℕ → Option RawHead
read_as Request block = request_in block
read_as Response block = response_in block
read_as Trailers block = trailers_in block

abbrev pub front_of : Option RawHead → ℕ → Front
front_of None end = BadHead
front_of (Some raw) end = Stands raw end

abbrev pub front_in : (List ℕ → Option RawHead) → List ℕ → BlockPlace → Front
front_in reads bytes Missing = Nothing
front_in reads bytes Exceeded = TooLong
front_in reads bytes (Block start end) = front_of (reads (slice_range bytes start end)) end

-- what stands at the front of the bytes, for a kind of head
abbrev pub front : Kind → List ℕ → Front
front kind bytes = front_in (read_as kind) bytes (place kind bytes)

abbrev pub request_front : List ℕ → Front
request_front bytes = front Request bytes

abbrev pub response_front : List ℕ → Front
response_front bytes = front Response bytes

abbrev pub trailer_front : List ℕ → Front
trailer_front bytes = front Trailers bytes
