use Rattle.std.specs.Prelude.{codes, map}
use Rattle.px_message.specs.Authority.{port_of}
use Rattle.px_message.specs.Target.{located, path_form}
use Rattle.px_examples.specs.Targets.{of_lowercase}
use Rattle.px_examples.proofs.Hosts.{targets_same}
use Rattle.px_examples.proofs.targets.targets_of_lowercase_are_read.Goals as goal

pub returns : goal.returns
unfolding port_of located path_form
returns c = targets_same (λ form. map (λ row. form (codes "connect") row.0) of_lowercase)
