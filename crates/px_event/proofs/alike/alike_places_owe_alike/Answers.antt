use Rattle.std.proofs.Common.{[]}
use Rattle.px_event.specs.Chain.{never}
use Rattle.px_event.proofs.Likeness.{same_owed, same_stops}
use Rattle.px_event.proofs.alike.alike_places_owe_alike.Goals as goal

pub returns-clause-walks : goal.returns-clause-walks
returns-clause-walks g c = λ given replies last before other s f t h events befores place.
    same_owed (g.C.Compared.chain given) g.C.Compared.like g.C.Compared.is_like (g.C.Compared.same given) (g.C.Compared.alike given) (g.C.Compared.settles given) replies last before other s f t h events befores place

pub returns-clause-stops : goal.returns-clause-stops
returns-clause-stops g c = λ given replies last before other s f t h events befores place.
    same_stops (g.C.Compared.chain given) g.C.Compared.like g.C.Compared.is_like (g.C.Compared.same given) (g.C.Compared.alike given) (g.C.Compared.settles given) replies last before other s f t h events befores place

pub returns-clause-due : goal.returns-clause-due
returns-clause-due g c = λ given start other events replies place.
    same_owed (g.C.Compared.chain given) g.C.Compared.like g.C.Compared.is_like (g.C.Compared.same given) (g.C.Compared.alike given) (g.C.Compared.settles given) replies never [] [] start [] other [] events (g.C.Compared.is_like.itself []) place
