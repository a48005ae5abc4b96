use Rattle.px_map.proofs.RemoteLemmas as lemmas
use Rattle.px_map.proofs.laws.remote_rules_that_hold_nowhere_change_nothing.Goals as goal

pub returns : goal.returns
returns c = lemmas.hold_nowhere
