use Rattle.px_event.proofs.Likeness.{anywhere}
use Rattle.px_event.proofs.alike.alike_behind_any_events.Goals as goal

pub returns : goal.returns
returns g c = λ given start before these those replies from.
    anywhere (g.C.Compared.chain given) g.C.Compared.like g.C.Compared.is_like (g.C.Compared.settles given) start before these those replies from
