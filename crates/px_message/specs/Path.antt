-- The paths of request targets.
use Rattle.std.specs.Prelude.{ℕ, Bool, List, ◌||◌, ◌&&◌, ◌==◌, not, nat_le, bytes_eq, codes, slice_index}
use Rattle.std.specs.List.{list_all}

-- a path may hold this byte: any above the blank but DEL
abbrev pub is_path_byte : ℕ → Bool
is_path_byte b = not (nat_le b 32 || b == 127)

-- the text is `*`, or begins with `/` and has path bytes only (RFC 9112 sections 3.2.1 and 3.2.4)
abbrev pub is_path : List ℕ → Bool
is_path text = bytes_eq text (codes "*") || (slice_index text 0 == 47 && list_all is_path_byte text)
