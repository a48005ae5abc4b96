use Rattle.px_event.proofs.Likeness.{early_owed}
use Rattle.px_event.proofs.alike.early_events_owe_alike.Goals as goal

pub returns : goal.returns
returns g c = λ given event replies last before other s f t h events may befores place.
    early_owed (g.C.Compared.chain given) g.C.Compared.like g.C.Compared.is_like (g.C.Compared.same given) (g.C.Compared.alike given) (g.C.Compared.settles given)
    (g.C.Compared.may_come event) event (g.C.Compared.early given event) (g.C.Compared.unhurried given event) replies last before other s f t h events may befores place
