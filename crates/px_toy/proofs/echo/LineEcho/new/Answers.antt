use Rattle.std.proofs.Common.{refl, arith}
use Rattle.px_event.proofs.Steps.{begins}
use Rattle.px_toy.specs.Echo.{Reading, echo_chain}
use Rattle.px_toy.specs.Stands.{IsAt}
use Rattle.px_toy.specs.Laws.{settles}
use Rattle.px_toy.proofs.echo.LineEcho.new.Goals as goal

pub returns-clause-stands : goal.returns-clause-stands
returns-clause-stands c = begins (echo_chain c.args.flow) (settles c.args.flow) (Reading 0) (IsAt c.args.flow) _
    (record { same_flow = refl; keeps = c.new.ensures.items; phase = refl; open_still = refl; within = omega arith }) (λ view. refl)
