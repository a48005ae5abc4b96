use Rattle.px_gen.proofs.HostLemmas.{loopback_is_host}
use Rattle.px_gen.proofs.places.peer.Goals as goal

pub host-requires : goal.host-requires
host-requires c = loopback_is_host
