use Rattle.px_gate.proofs.GateLaws.{new_stands}
use Rattle.px_gate.proofs.gate.Gate.new.Goals as goal

pub returns-clause-stands : goal.returns-clause-stands
returns-clause-stands g c = λ stands. new_stands g.L.Layer.stands g.L.Layer.awaited _ c.new.ensures.items stands

pub returns-clause-sound : goal.returns-clause-sound
returns-clause-sound g c = λ stands. (_, _, _, returns-clause-stands g c stands)
