-- The hosts of generated flows.
use Rattle.std.proofs.Common.{rules}
use Rattle.std.specs.Prelude.{codes}
use Rattle.px_message.specs.Host.{IsHost}

-- the text of the loopback address is a host
pub loopback_is_host : IsHost (codes "127.0.0.1")
loopback_is_host = search rules

pub gen_is_host : IsHost (codes "gen")
gen_is_host = search rules
