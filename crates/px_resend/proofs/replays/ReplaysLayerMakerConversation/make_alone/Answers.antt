use Rattle.std.proofs.Common.{◌≡◌, ◌-◌, ◌∙◌, List, Some, subst}
use Rattle.px_message.specs.declared.flow.Flow.{Flow}
use Rattle.px_core.specs.Calls.{number_end}
use Rattle.px_resend.specs.Due.{request_at}
use Rattle.px_resend.specs.JoinedLaws.{due_of_resent}
use Rattle.px_resend.proofs.ReplaysLemmas.{number_is, request_of_place, resends}
use Rattle.px_resend.proofs.replays.ReplaysLayerMakerConversation.make_alone.Goals as goal

pub returns-clause-due : goal.returns-clause-due
returns-clause-due g c = λ moves.
    let made = c.in_ok-through-in-Some.field-0 in
    let flow = c.in-Some.flow.now in
    let flows = c.args.self.now.flows.items in
    let place = c.args.conv - number_end in
    let found = c.in-Some.ensures.lookup.3 in
    let P : List Flow → Type 0 = λ l. request_at l place ≡ Some flow.request in
    let at : request_at flows place ≡ Some flow.request = subst P c.deref.ensures.value (request_of_place c.deref.result.now place flow found.0 (found.1 flow)) in
    due_of_resent g.L.Chained.chain g.L.Chained.start made moves
    ∙ resends made c.args.self.now.proxy flow.request c.args.conv
    (number_is number_end made.conv c.args.conv c.requires.first c.in_ok-through-in-Some.ensures.number)
    c.in_ok-through-in-Some.ensures.proxy c.in_ok-through-in-Some.ensures.request (request_at flows place) at moves
