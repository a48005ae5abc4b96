use Rattle.px_exchange.specs.Places.{place_of}
use Rattle.px_stack.specs.Chain.{begins}
use Rattle.px_stack.proofs.OrderLemmas.{begun_counted, ordered_from}
use Rattle.px_stack.proofs.laws.no_hook_is_asked_behind_its_end.Goals as goal

pub returns : goal.returns
returns c = λ mode key conv peer moves. ordered_from conv (record { address = peer; key = key }) (begins mode) (begun_counted (place_of mode)) moves
