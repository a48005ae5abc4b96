-- The status codes that an answer may set.
use Rattle.std.specs.Prelude.{ℕ, Bool, ◌||◌, ◌&&◌, ◌==◌, nat_le}

-- a final status, or the one that switches protocols (RFC 9110 section 15)
abbrev pub is_status : ℕ → Bool
is_status code = code == 101 || (nat_le 200 code && nat_le code 999)
