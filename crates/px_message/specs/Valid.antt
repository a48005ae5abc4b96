-- What the types of a message's parts guarantee of a list of fields.
use Rattle.std.specs.Prelude.{ℕ, Bool, ◌&&◌, List}
use Rattle.httparse.specs.Grammar.{is_token}
use Rattle.px_message.specs.Value.{is_value}

-- the name is a token, and the value one that ends no line
abbrev pub is_field : List ℕ × List ℕ → Bool
is_field field = is_token field.0 && is_value field.1
