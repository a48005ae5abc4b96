use Rattle.px_event.proofs.Likeness.{swapped}
use Rattle.px_event.proofs.alike.swapped_events_owe_alike.Goals as goal

pub returns : goal.returns
returns g c = λ meets given start before after first second replies t h may.
    swapped (g.C.Compared.chain given) g.C.Compared.like g.C.Compared.is_like (g.C.Compared.settles given) (g.C.Compared.same given) (g.C.Compared.alike given) meets
    (g.C.Compared.may_come second) (g.C.Compared.may_come first) second first (g.C.Compared.early given second) (g.C.Compared.early given first)
    (g.C.Compared.unhurried given second) (g.C.Compared.unhurried given first) start before after replies t h may
