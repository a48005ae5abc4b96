use Rattle.std.proofs.Common.{◌-◌, [], length, take, drop, refl, sym}
use Rattle.std.proofs.lemmas.List.{take_rest}
use Rattle.px_socks.specs.Request.{ipv6}
use Rattle.px_socks.proofs.RequestLemmas.{address_said, address_short}
use Rattle.px_socks.proofs.request.read_ipv6.Goals as goal

pub returns-then-bytes-lt16 : goal.returns-then-bytes-lt16
returns-then-bytes-lt16 c = sym (address_short ipv6 16 [] 4 c.args.bytes.now c.if-bytes-lt16.true)

pub returns : goal.returns
returns c =
    address_said c.read_port.result ipv6 16 4 20 c.args.bytes.now c.in_ok-host.host.items (take 16 c.args.bytes.now)
    (take (length c.args.bytes.now - 16) (drop 16 c.args.bytes.now)) c.if-bytes-lt16.false c.in_ok-host.ensures refl
    (take_rest c.args.bytes.now 16) refl c.read_port.ensures
