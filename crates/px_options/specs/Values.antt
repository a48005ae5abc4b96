-- What values are read as: each kind of option is a function from a value of TOML to what the option is, or the refusal.
use Rattle.std.specs.Prelude.{ℕ, Bool, List, ℤ, pos, nat_le, Option, Some, None, Result, Ok, Err, if◌then◌else◌}
use Rattle.px_message.specs.Target.{authority_form}
use Rattle.toml.specs.Data.{Data, as_bool, as_integer, as_str}
use Rattle.px_options.specs.Keys.{name_of}
use Rattle.px_options.specs.declared.error.OptionsError.{OptionsError}
use Rattle.px_options.specs.declared.error.OptionsError.TheVariants as error
use Rattle.px_options.specs.declared.key.Key.{Key}

-- a host and a port
abbrev pub Place : Type 0
Place = List ℕ × ℕ

-- the key has a value of another kind
abbrev pub wrong : {A : Type 0} → Key → Result A OptionsError
wrong key = Err (error.WrongKind (name_of key))

abbrev pub or_wrong : {A : Type 0} → Key → Option A → Result A OptionsError
or_wrong key None = wrong key
or_wrong key (Some a) = Ok a

-- a truth value
abbrev pub truth : Key → Data → Result Bool OptionsError
truth key d = or_wrong key (as_bool d)

-- the number, if it is 1 or more
abbrev pub from_one : Option ℤ → Option ℕ
from_one (Some (pos n)) = if nat_le 1 n then Some n else None
from_one _ = None

-- a whole number from 1
abbrev pub count : Key → Data → Result ℕ OptionsError
count key d = or_wrong key (from_one (as_integer d))

-- the number, if it is 0 or more
abbrev pub from_zero : Option ℤ → Option ℕ
from_zero (Some (pos n)) = Some n
from_zero _ = None

abbrev pub some_number : Option ℕ → Option (Option ℕ)
some_number None = None
some_number (Some n) = Some (Some n)

-- a whole number from 0, where the option may be none
abbrev pub size : Key → Data → Result (Option ℕ) OptionsError
size key d = or_wrong key (some_number (from_zero (as_integer d)))

abbrev pub address_in : Option (List ℕ) → Option Place
address_in None = None
address_in (Some text) = authority_form text

-- a text that is a host, a colon and a port, as the target of CONNECT (RFC 9112 section 3.2.3)
abbrev pub address : Key → Data → Result Place OptionsError
address key d = or_wrong key (address_in (as_str d))

abbrev pub some_place : Result Place OptionsError → Result (Option Place) OptionsError
some_place (Ok place) = Ok (Some place)
some_place (Err e) = Err e

-- such a text, where the option may be none
abbrev pub some_address : Key → Data → Result (Option Place) OptionsError
some_address key d = some_place (address key d)
