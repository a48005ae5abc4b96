-- The client of generated flows, and the address that their requests go to.
use Rattle.std.specs.Prelude.{◌≢◌, ℕ, codes}
use Rattle.std.proofs.Common.{arith}
use Rattle.px_message.specs.declared.address.Address.{Address}

abbrev pub peer_port : ℕ
peer_port = 1

pub peer_port_not_zero : peer_port ≢ 0
peer_port_not_zero = λ same. omega arith

-- 127.0.0.1, port 1
abbrev pub peer : Address
peer = record { host = codes "127.0.0.1"; port = peer_port; port_not_zero = peer_port_not_zero }

abbrev pub server_port : ℕ
server_port = 80

pub server_port_not_zero : server_port ≢ 0
server_port_not_zero = λ same. omega arith

-- the host gen, port 80
abbrev pub server : Address
server = record { host = codes "gen"; port = server_port; port_not_zero = server_port_not_zero }
