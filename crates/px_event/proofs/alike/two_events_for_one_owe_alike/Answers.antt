use Rattle.px_event.proofs.Likeness.{two_for_one}
use Rattle.px_event.proofs.alike.two_events_for_one_owe_alike.Goals as goal

pub returns : goal.returns
returns g c = λ given start before after first second one replies may.
    two_for_one (g.C.Compared.chain given) g.C.Compared.like g.C.Compared.is_like (g.C.Compared.settles given) (g.C.Compared.same given) (g.C.Compared.alike given)
    (g.C.Compared.may_come second) second (g.C.Compared.early given second) (g.C.Compared.unhurried given second) start before after first one replies may
