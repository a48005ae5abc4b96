-- Modes, and the texts that they are written as.
use Rattle.std.specs.Prelude.{ℕ, Bool, List, take, drop, codes, bytes_eq, Option, Some, None, Result, Ok, Err, option_map, if◌then◌else◌}
use Rattle.px_message.specs.Target.{Form, absolute, target_form}
use Rattle.toml.specs.Data.{Data, as_str}
use Rattle.px_options.specs.Values.{Place, wrong}
use Rattle.px_options.specs.declared.error.OptionsError.{OptionsError}
use Rattle.px_options.specs.declared.error.OptionsError.TheVariants as error
use Rattle.px_options.specs.declared.key.Key.{Key}

-- where requests go
pub data ModeIs : Type 0 where
  -- each where its target says
  regular : ModeIs
  -- all to this server
  reverse : Place → ModeIs
  -- all to this proxy
  upstream : Place → ModeIs
  -- where each client says by SOCKS5 (RFC 1928)
  socks : ModeIs

-- the text begins with `reverse:`
abbrev pub is_reverse : List ℕ → Bool
is_reverse text = bytes_eq (take 8 text) (codes "reverse:")

-- the text begins with `upstream:`
abbrev pub is_upstream : List ℕ → Bool
is_upstream text = bytes_eq (take 9 text) (codes "upstream:")

-- the server alone that a target names: one in absolute form whose path is `/`
abbrev pub server_in : Form → Option Place
server_in (absolute host port path) = if bytes_eq path (codes "/") then Some (host, port) else None
server_in _ = None

abbrev pub server_of : Option Form → Option Place
server_of None = None
server_of (Some form) = server_in form

-- What stands behind `reverse:` and `upstream:`: a URL of the scheme `http` as a request's target has it
-- (RFC 9112 section 3.2.2), of a server alone: `http://HOST`, `http://HOST:PORT`, and one `/` may follow.
abbrev pub server_at : List ℕ → Option Place
server_at url = server_of (target_form (codes "GET") url)

-- the mode that a text is: `regular`, `socks5`, or `reverse:` or `upstream:` and the server's URL
abbrev pub mode_of : List ℕ → Option ModeIs
mode_of text =
    if bytes_eq text (codes "regular") then Some regular
    else if bytes_eq text (codes "socks5") then Some socks
    else if is_reverse text then option_map reverse (server_at (drop 8 text))
    else if is_upstream text then option_map upstream (server_at (drop 9 text))
    else None

abbrev pub or_bad_mode : Option ModeIs → Result ModeIs OptionsError
or_bad_mode None = Err error.BadMode
or_bad_mode (Some m) = Ok m

abbrev pub mode_in : Key → Option (List ℕ) → Result ModeIs OptionsError
mode_in key None = wrong key
mode_in key (Some text) = or_bad_mode (mode_of text)

-- a text that is a mode; a text that is none is a bad mode
abbrev pub mode : Key → Data → Result ModeIs OptionsError
mode key d = mode_in key (as_str d)
