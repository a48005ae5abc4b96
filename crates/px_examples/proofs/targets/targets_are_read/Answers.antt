use Rattle.std.specs.Prelude.{codes, map}
use Rattle.px_message.specs.Authority.{port_of}
use Rattle.px_message.specs.Target.{located, path_form}
use Rattle.px_examples.specs.Targets.{of_get}
use Rattle.px_examples.proofs.Hosts.{targets_same}
use Rattle.px_examples.proofs.targets.targets_are_read.Goals as goal

pub returns : goal.returns
unfolding port_of located path_form
returns c = targets_same (λ form. map (λ row. form (codes "GET") row.0) of_get)
