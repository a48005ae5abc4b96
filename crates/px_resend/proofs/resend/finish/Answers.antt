use Rattle.std.proofs.Common.{ap, ◌∙◌}
use Rattle.px_stream.specs.declared.stream.Stream.{Stream}
use Rattle.px_stream.specs.Tells.{phase_flow, upgraded_side}
use Rattle.px_resend.proofs.FollowLemmas.{finishes_so}
use Rattle.px_resend.proofs.resend.finish.Goals as goal

pub returns-clause-gives : goal.returns-clause-gives
returns-clause-gives c =
    finishes_so c.args.out.now.items c.say_done.new.out.items c.shut.new.out.items c.in_ok-rests.flow (phase_flow c.args.stream.value.phase) c.upgraded-used.result
    (upgraded_side c.args.stream.value.phase c.args.stream.value.side) (c.in_ok-rests.ensures.flow ∙ ap (λ (s : Stream). phase_flow s.phase) c.into_inner.ensures)
    (c.upgraded-used.ensures ∙ ap (λ (s : Stream). upgraded_side s.phase s.side) c.deref.ensures) c.in_ok-say_done.ensures c.in_ok-shut.ensures
