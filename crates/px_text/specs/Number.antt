-- Digits and the number that they are: decimal (RFC 9110 section 8.6) and hexadecimal (RFC 9112 section 7.1).
use Rattle.std.specs.Prelude.{ℕ, ◌^◌, ◌<◌, Bool, ◌&&◌, nat_lt, List, length, if◌then◌else◌, Option, Some, None, false}
use Rattle.std.specs.Char.{is_digit}
use Rattle.std.specs.List.{list_all}
use Rattle.std.specs.Fmt.{digits}
use Rattle.std.specs.Str.Parse.{IsNumeral, digits_value}

-- whether the text is one digit of the base or more and nothing else, with a value below 2 ^ 64
abbrev pub is_number : ℕ → List ℕ → Bool
is_number base text =
    nat_lt 0 (length text) && list_all (λ digit. is_digit digit base) text && nat_lt (digits_value base text) (2 ^ 64)

-- the value of such a text
abbrev pub number_value : ℕ → List ℕ → Option ℕ
number_value base text = if is_number base text then Some (digits_value base text) else None

abbrev pub decimal_value : List ℕ → Option ℕ
decimal_value text = number_value 10 text

abbrev pub hex_value : List ℕ → Option ℕ
hex_value text = number_value 16 text

-- the same as a fact: digits of the base, at least one, with a value below 2 ^ 64
abbrev pub IsNumber : ℕ → List ℕ → Type 0
IsNumber base text = IsNumeral base text × (digits_value base text < 2 ^ 64)

abbrev pub IsDecimal : List ℕ → Type 0
IsDecimal text = IsNumber 10 text

abbrev pub IsHex : List ℕ → Type 0
IsHex text = IsNumber 16 text

-- the digits of the number without leading zeros, letters in lower case
abbrev pub hexadecimal : ℕ → List ℕ
hexadecimal n = digits 16 false n
