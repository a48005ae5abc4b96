use Rattle.px_event.specs.Stands.{stop_of}
use Rattle.px_resend.specs.Chain.{waiting}
use Rattle.px_resend.specs.Stands.{chain_of, terms_in}
use Rattle.px_resend.proofs.resend.ResendLayer.kept.Goals as goal

pub returns-clause-bound : goal.returns-clause-bound
returns-clause-bound c = λ sound.
    let made = sound.0 in
    let stop = stop_of (chain_of made) waiting sound.1 in
    c.kept.ensures.bound (terms_in made) made.request stop.stage stop.prefix sound.3.place.child
