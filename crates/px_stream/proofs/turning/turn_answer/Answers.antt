use Rattle.std.proofs.Common.{◌≡◌, Some, None, ap, sym, ◌∙◌, refl}
use Rattle.std.proofs.lemmas.List.{append-nil}
use Rattle.px_message.specs.declared.flow.Flow.{Flow}
use Rattle.px_exchange.specs.Replies.{taken_at_head_of}
use Rattle.px_chain.specs.Coming.{allowed_by}
use Rattle.px_stream.proofs.turning.turn_answer.Goals as goal

pub returns-in-Some-clause-gives : goal.returns-in-Some-clause-gives
returns-in-Some-clause-gives c =
    let is : taken_at_head_of c.args.flow.response c.args.reply ≡ Some c.in-Some.taken = sym (c.in_ok-taken.ensures ∙ ap (λ (f : Flow). taken_at_head_of f.response c.args.reply) c.deref.ensures) ∙ c.in-Some.is in
    let most : allowed_by c.args.streams c.args.reply ≡ c.allowed-most.result = sym c.allowed-most.ensures in
    rw (is, most) c.receive_response.ensures.gives

pub returns-in-Some-clause-leads : goal.returns-in-Some-clause-leads
returns-in-Some-clause-leads c =
    let is : taken_at_head_of c.args.flow.response c.args.reply ≡ Some c.in-Some.taken = sym (c.in_ok-taken.ensures ∙ ap (λ (f : Flow). taken_at_head_of f.response c.args.reply) c.deref.ensures) ∙ c.in-Some.is in
    let most : allowed_by c.args.streams c.args.reply ≡ c.allowed-most.result = sym c.allowed-most.ensures in
    rw (is, most) c.receive_response.ensures.leads

pub returns-in-None : goal.returns-in-None
returns-in-None c =
    let none : taken_at_head_of c.args.flow.response c.args.reply ≡ None = sym (c.in_ok-taken.ensures ∙ ap (λ (f : Flow). taken_at_head_of f.response c.args.reply) c.deref.ensures) ∙ c.in-None.is in
    record { gives = rw none (sym (append-nil c.args.out.now.items)); leads = rw (none, c.give_up.ensures) refl; content = rw c.give_up.ensures refl; held = rw c.give_up.ensures tt; up = rw c.give_up.ensures tt }
