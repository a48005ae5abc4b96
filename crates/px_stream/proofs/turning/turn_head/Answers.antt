use Rattle.std.proofs.Common.{◌≡◌, ap, sym, ◌∙◌}
use Rattle.px_message.specs.declared.flow.Flow.{Flow}
use Rattle.px_exchange.specs.Replies.{taken_at_request_head}
use Rattle.px_chain.specs.Going.{allowed_up_by}
use Rattle.px_stream.proofs.turning.turn_head.Goals as goal

pub returns-clause-gives : goal.returns-clause-gives
returns-clause-gives c = λ seen used closed.
    let is : taken_at_request_head c.args.flow.request c.args.reply ≡ c.in_ok-taken.taken = sym (c.in_ok-taken.ensures ∙ ap (λ (f : Flow). taken_at_request_head f.request c.args.reply) c.deref.ensures) in
    let most : allowed_up_by c.args.streams c.args.reply ≡ c.allowed_up-most.result = sym c.allowed_up-most.ensures in
    rw (is, most) (c.receive.ensures.gives seen used closed)

pub returns-clause-leads : goal.returns-clause-leads
returns-clause-leads c = λ seen.
    let is : taken_at_request_head c.args.flow.request c.args.reply ≡ c.in_ok-taken.taken = sym (c.in_ok-taken.ensures ∙ ap (λ (f : Flow). taken_at_request_head f.request c.args.reply) c.deref.ensures) in
    let most : allowed_up_by c.args.streams c.args.reply ≡ c.allowed_up-most.result = sym c.allowed_up-most.ensures in
    rw (is, most) (c.receive.ensures.leads seen)
