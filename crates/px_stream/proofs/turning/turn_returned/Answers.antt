use Rattle.std.proofs.Common.{◌≡◌, Some, None, ap, sym, ◌∙◌, refl}
use Rattle.std.proofs.lemmas.List.{append-nil}
use Rattle.px_message.specs.declared.flow.Flow.{Flow}
use Rattle.px_exchange.specs.Replies.{taken_at_body_of}
use Rattle.px_stream.proofs.turning.turn_returned.Goals as goal

pub returns-in-Some-clause-gives : goal.returns-in-Some-clause-gives
returns-in-Some-clause-gives c =
    let is : taken_at_body_of c.args.flow.response c.args.reply ≡ Some c.in-Some.taken = sym (c.in_ok-taken.ensures ∙ ap (λ (f : Flow). taken_at_body_of f.response c.args.reply) c.deref.ensures) ∙ c.in-Some.is in
    rw is c.end_exchange.ensures.gives

pub returns-in-Some-clause-leads : goal.returns-in-Some-clause-leads
returns-in-Some-clause-leads c =
    let is : taken_at_body_of c.args.flow.response c.args.reply ≡ Some c.in-Some.taken = sym (c.in_ok-taken.ensures ∙ ap (λ (f : Flow). taken_at_body_of f.response c.args.reply) c.deref.ensures) ∙ c.in-Some.is in
    rw is c.end_exchange.ensures.leads

pub returns-in-None : goal.returns-in-None
returns-in-None c =
    let none : taken_at_body_of c.args.flow.response c.args.reply ≡ None = sym (c.in_ok-taken.ensures ∙ ap (λ (f : Flow). taken_at_body_of f.response c.args.reply) c.deref.ensures) ∙ c.in-None.is in
    record { gives = rw none (sym (append-nil c.args.out.now.items)); leads = rw (none, c.give_up.ensures) refl; side = rw c.give_up.ensures tt; content = rw c.give_up.ensures refl }
