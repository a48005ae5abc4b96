use Rattle.std.proofs.Common.{rules}
use Rattle.rand_chacha.specs.ChaCha.{key_of}
use Rattle.px_relay.specs.Chain.{first_at}
use Rattle.px_relay.specs.Sights.{nothing_seen}
use Rattle.px_relay.specs.Stages.{relaying}
use Rattle.px_relay.proofs.layer.WsLayer.new.Goals as goal

pub returns-clause-somewhere : goal.returns-clause-somewhere
returns-clause-somewhere c =
    (record { flow = c.args.flow; server = c.args.server; key = key_of c.args.mask_key }, relaying first_at, nothing_seen, search rules)
