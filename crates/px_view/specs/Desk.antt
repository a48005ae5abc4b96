-- The lines of control connections, cut from their bytes.
use Rattle.std.specs.Prelude.{ℕ, ◌-◌, Bool, ◌==◌, ◌&&◌, nat_le, nat_lt, nat_eq, if◌then◌else◌, List, [], ◌∷◌, ◌++◌, length, take, slice_index, Option, Some, None}
use Rattle.std.specs.HashMap.{get}
use Rattle.std.specs.Option.{option_map_or}
use Rattle.px_view.specs.declared.desk.Line.{Line}
use Rattle.px_view.specs.declared.desk.Line.TheVariants as line
use Rattle.px_view.specs.declared.desk.Kept.{Kept}
use Rattle.px_view.specs.declared.desk.Desk.{Desk}

-- so many bytes without a line feed are too long a line
abbrev pub limit : ℕ
limit = 1024

abbrev pub is_feed : ℕ → Bool
is_feed b = b == 10

-- whether the last byte is a carriage return
abbrev pub ends_in_return : List ℕ → Bool
ends_in_return text = nat_lt 0 (length text) && slice_index text (length text - 1) == 13

-- the text without a carriage return at its end
abbrev pub without_return : List ℕ → List ℕ
without_return text = if ends_in_return text then take (length text - 1) text else text

-- Where a connection stands: what came behind its last line feed; none once a line was too long.
abbrev pub Stand : Type 0
Stand = Option (List ℕ)

-- where it stands before its first byte
abbrev pub fresh : Stand
fresh = Some []

-- the bytes are too many for one byte more that is no line feed
abbrev pub is_full : List ℕ → Bool
is_full kept = nat_le (limit - 1) (length kept)

-- what a byte completes
abbrev pub told_by : Stand → ℕ → List Line
told_by None b = []
told_by (Some kept) b = if is_feed b then line.Text (without_return kept) ∷ [] else (if is_full kept then line.TooLong ∷ [] else [])

-- where the connection stands behind it
abbrev pub stand_by : Stand → ℕ → Stand
stand_by None b = None
stand_by (Some kept) b = if is_feed b then fresh else (if is_full kept then None else Some (kept ++ b ∷ []))

-- the lines that bytes complete, from where the connection stood
abbrev pub told : List ℕ → Stand → List Line
told [] stand = []
told (b ∷ bytes) stand = told_by stand b ++ told bytes (stand_by stand b)

-- where the connection stands behind them
abbrev pub stands : List ℕ → Stand → Stand
stands [] stand = stand
stands (b ∷ bytes) stand = stands bytes (stand_by stand b)

-- the place that is kept
abbrev pub stand : Kept → Stand
stand kept = if kept.is_stopped then None else Some kept.line.items

-- where the connection of that number stands
abbrev pub stand_of : Desk → ℕ → Stand
stand_of desk conv = option_map_or stand (get nat_eq desk.kept conv) fresh
