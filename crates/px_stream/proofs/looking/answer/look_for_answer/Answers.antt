use Rattle.std.proofs.Common.{Bool, ap, ◌∙◌, subst}
use Rattle.px_message.specs.declared.flow.Flow.{Flow}
use Rattle.px_message.specs.declared.request.Request.{Request}
use Rattle.px_exchange.specs.Requests.{is_http11}
use Rattle.px_stream.specs.Responses.{ReadsHead}
use Rattle.px_stream.specs.Stands.{StaysOpen}
use Rattle.px_stream.proofs.LookingLemmas.{answer_found}
use Rattle.px_stream.proofs.looking.answer.look_for_answer.Goals as goal

pub returns : goal.returns
returns c =
    let P : Request → Bool → Type 0 = λ message sends. StaysOpen (λ link later. ReadsHead message c.in_ok-answer.answer sends link c.args.out.now.items later c.read_side.new.out.items) c.args.side.now c.read_side.new.side in
    record {
      looks = answer_found c.look_at_both.result c.args.flow c.args.server c.args.up c.in_ok-bad.bad c.args.requests.now c.read_up.new.requests c.args.side.now c.read_side.new.side c.args.now.moment c.args.now.parked
          c.args.now.client_closed c.args.out.now.items c.read_side.new.out.items c.look_at_both.new.out.items _ c.in_ok-bad.ensures
          (subst (λ b. P c.args.flow.request b) (c.asks_http11-sends.ensures ∙ ap (λ (f : Flow). is_http11 f.request.version) c.deref.ensures)
          (subst (λ m. P m c.asks_http11-sends.result) (c.get.ensures ∙ ap (λ (f : Flow). f.request) c.deref-2.ensures) c.in_ok-answer.ensures))
          c.look_at_both.ensures.gives c.look_at_both.ensures.phase;
    }
