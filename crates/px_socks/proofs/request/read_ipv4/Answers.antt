use Rattle.std.proofs.Common.{◌-◌, [], length, take, drop, refl, sym}
use Rattle.std.proofs.lemmas.List.{take_rest}
use Rattle.px_socks.specs.Request.{ipv4}
use Rattle.px_socks.proofs.RequestLemmas.{address_said, address_short}
use Rattle.px_socks.proofs.request.read_ipv4.Goals as goal

pub returns-then-bytes-lt4 : goal.returns-then-bytes-lt4
returns-then-bytes-lt4 c = sym (address_short ipv4 4 [] 4 c.args.bytes.now c.if-bytes-lt4.true)

pub returns : goal.returns
returns c =
    address_said c.read_port.result ipv4 4 4 8 c.args.bytes.now c.in_ok-host.host.items (take 4 c.args.bytes.now)
    (take (length c.args.bytes.now - 4) (drop 4 c.args.bytes.now)) c.if-bytes-lt4.false c.in_ok-host.ensures refl
    (take_rest c.args.bytes.now 4) refl c.read_port.ensures
