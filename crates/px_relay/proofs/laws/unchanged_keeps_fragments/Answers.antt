use Rattle.px_relay.proofs.FragmentLemmas.{sends_same}
use Rattle.px_relay.proofs.laws.unchanged_keeps_fragments.Goals as goal

pub returns : goal.returns
returns c = sends_same
