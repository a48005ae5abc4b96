-- What the code finds on its way.
use Rattle.std.specs.Prelude.{ℕ, ◌-◌, ◌^◌, min, Option, Some, None}
use Rattle.px_message.specs.Target.{Form, authority}
use Rattle.px_options.specs.Values.{Place}

-- the address of the authority form
abbrev pub authority_in : Form → Option Place
authority_in (authority host port) = Some (host, port)
authority_in _ = None

-- the number, or the largest that 64 bits hold
abbrev pub capped : ℕ → ℕ
capped n = min n (2 ^ 64 - 1)
