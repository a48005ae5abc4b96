use Rattle.px_examples.specs.Targets.{hosts}
use Rattle.px_examples.proofs.Hosts.{hosts_told}
use Rattle.px_examples.proofs.targets.hosts_are_told.Goals as goal

pub returns : goal.returns
returns c = hosts_told hosts
