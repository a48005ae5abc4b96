use Rattle.std.proofs.lemmas.List.Folds.{list_any_none}
use Rattle.px_wire.specs.Endpoints.{is_endpoint_of}
use Rattle.px_wire.specs.Holds.{passes, endpoint_at, slots_at}
use Rattle.px_outside.proofs.StoredLemmas.{all_fail}
use Rattle.px_wire.proofs.HoldsLemmas.{side_found, side_missing}
use Rattle.px_wire.proofs.endpoints.Endpoints.find_side.Goals as goal

pub returns-in-Some-clause-found : goal.returns-in-Some-clause-found
returns-in-Some-clause-found c = side_found c.args.self.now c.args.conv c.args.side c.slots_of.result.now c.in-Some.place c.slots_of.ensures.are c.in-Some.ensures.place

pub returns-in-None-clause-missing : goal.returns-in-None-clause-missing
returns-in-None-clause-missing c = λ endpoints held is.
    side_missing c.args.self.now c.args.conv c.args.side endpoints held
    (list_any_none (λ slot. passes (is_endpoint_of c.args.conv c.args.side) (endpoint_at c.args.self.now slot)) (slots_at c.args.self.now c.args.conv)
    (all_fail (λ slot. passes (is_endpoint_of c.args.conv c.args.side) (endpoint_at c.args.self.now slot)) (slots_at c.args.self.now c.args.conv) c.in-None.ensures.place))
