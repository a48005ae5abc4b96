use Rattle.std.proofs.Common.{ap, ◌∙◌}
use Rattle.px_message.specs.declared.flow.Flow.{Flow}
use Rattle.px_chain.specs.Chain.{parked_for}
use Rattle.px_stream.specs.Goings.{framed_up_by}
use Rattle.px_stream.specs.Turns.{with_open}
use Rattle.px_stream.proofs.PassUpLemmas.{started_by}
use Rattle.px_stream.proofs.passing.request.start_up.Goals as goal

pub returns : goal.returns
returns c =
    started_by c.lead_up.result c.args.place.now c.args.at.now c.lead_up.new.at c.args.now.moment c.args.flow _ c.args.held.read _ _ c.args.progress c.args.held.said.items _ _ c.args.side.now c.lead_up.new.side
    c.args.out.now.items c.lead_up.new.out.items (c.parked_side-parked.ensures ∙ ap (λ (f : Flow). parked_for c.args.place.now f.request (with_open c.args.at.now c.args.side.now).parked) c.deref.ensures) c.in_ok-told.ensures (c.in_ok-framed.ensures ∙ (ap (λ r. framed_up_by r c.deref-2.result.now.request) c.get.ensures ∙ ap (λ (f : Flow). framed_up_by c.args.held.read f.request) c.deref-2.ensures)) c.in_ok-text.ensures c.in_ok-sent.ensures c.lead_up.ensures
