use Rattle.px_event.specs.Stands.{stop_of}
use Rattle.px_stack.specs.Stack.{chain_of, start_of, visitor_of}
use Rattle.px_stack.proofs.stack.StackLayer.kept.Goals as goal

pub returns-clause-bound : goal.returns-clause-bound
returns-clause-bound c = λ sound.
    let made = sound.0 in
    let stop = stop_of (chain_of made) (start_of made) sound.1 in
    c.kept.ensures.bound made.conv (visitor_of made) stop.stage stop.prefix sound.3.place.child
