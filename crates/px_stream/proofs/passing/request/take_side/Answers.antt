use Rattle.std.proofs.Common.{false, ap, ◌∙◌}
use Rattle.px_message.specs.declared.flow.Flow.{Flow}
use Rattle.px_exchange.specs.Requests.{is_head}
use Rattle.px_stream.specs.Turns.{opened_side}
use Rattle.px_stream.proofs.PassUpLemmas.{takes_by}
use Rattle.px_stream.proofs.passing.request.take_side.Goals as goal

pub returns : goal.returns
returns c = λ at.
    takes_by c.args.place.now at c.args.now.moment c.args.flow _ c.args.server c.args.sent c.args.progress c.args.text.items _ _ c.args.side.now c.open_for.new.side c.args.out.now.items c.send_up.new.out.items
    c.in_ok-told.ensures (c.in_ok-open_for.ensures ∙ ap (λ (f : Flow). opened_side false c.args.server (is_head f.request.method) c.args.side.now) c.deref.ensures) c.in_ok-raised.ensures
