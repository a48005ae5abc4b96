use Rattle.px_tunnel.specs.Laws.{ends_where_it_ends}
use Rattle.px_tunnel.proofs.laws.ends_with_its_chain.Goals as goal

pub returns : goal.returns
returns c = ends_where_it_ends
