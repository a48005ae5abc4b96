use Rattle.px_gen.proofs.HostLemmas.{gen_is_host}
use Rattle.px_gen.proofs.places.server.Goals as goal

pub host-requires : goal.host-requires
host-requires c = gen_is_host
