use Rattle.std.proofs.Common.{◌+◌, ◌-◌, [], length, take, drop, refl, sym}
use Rattle.std.proofs.lemmas.List.{take_rest}
use Rattle.px_socks.specs.Request.{domain}
use Rattle.px_socks.proofs.RequestLemmas.{address_said, address_short}
use Rattle.px_socks.proofs.request.read_name.Goals as goal

pub returns-then-bytes-count : goal.returns-then-bytes-count
returns-then-bytes-count c = sym (address_short domain c.args.count [] 5 c.args.bytes.now c.if-bytes-count.true)

pub returns : goal.returns
returns c =
    address_said c.read_port.result domain c.args.count 5 (5 + c.args.count) c.args.bytes.now c.in_ok-host.host.items (take c.args.count c.args.bytes.now)
    (take (length c.args.bytes.now - c.args.count) (drop c.args.count c.args.bytes.now)) c.if-bytes-count.false c.in_ok-host.ensures refl
    (take_rest c.args.bytes.now c.args.count) refl c.read_port.ensures
