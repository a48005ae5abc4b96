use Rattle.std.proofs.Common.{rules, ◌≡◌, Bool, Option, subst, sym}
use Rattle.std.specs.Prelude.{IfOk}
use Rattle.px_message.specs.declared.flow.Flow.{Flow}
use Rattle.px_chain.specs.Chain.{look}
use Rattle.px_chain.specs.Sights.{sight_over}
use Rattle.px_stream.specs.Rests.{LeavesRests}
use Rattle.px_stream.specs.Tells.{phase_flow, side_rest, uses_side}
use Rattle.px_stream.proofs.RestLemmas.{rests_as, rests_there}
use Rattle.px_stream.proofs.stream.Stream.into_rests.Goals as goal

pub returns-clause-server : goal.returns-clause-server
returns-clause-server c =
    let uses : c.uses_side-uses.result ≡ uses_side c.args.self.phase = search rules in
    let P : Bool → Type 0 = λ uses. IfOk c.rests_of.result (λ left. left.0.server ≡ side_rest uses c.args.self.side) in
    subst P uses c.rests_of.ensures.server

pub returns-clause-flow : goal.returns-clause-flow
returns-clause-flow c =
    let flow : c.upgraded_flow.result ≡ phase_flow c.args.self.phase = search rules in
    let P : Option Flow → Type 0 = λ flow. IfOk c.rests_of.result (λ left. left.1 ≡ flow) in
    subst P flow c.rests_of.ensures.flow

pub returns-clause-behind : goal.returns-clause-behind
returns-clause-behind c = λ made ahead place prefix stands.
    let uses : c.uses_side-uses.result ≡ uses_side c.args.self.phase = search rules in
    let flow : c.upgraded_flow.result ≡ phase_flow c.args.self.phase = search rules in
    let P : Option Flow → Type 0 = λ f. LeavesRests made.place (look made place.stage (sight_over place prefix)) place.stage (sight_over place prefix) c.args.self.requests.rest
    (side_rest c.uses_side-uses.result c.args.self.side) f in
    let there = subst P (sym flow) (rw uses (rests_there made ahead c.args.self place prefix stands)) in
    rests_as c.rests_of.result _ _ _ (LeavesRests made.place (look made place.stage (sight_over place prefix)) place.stage (sight_over place prefix))
    c.rests_of.ensures.client c.rests_of.ensures.server c.rests_of.ensures.flow there
