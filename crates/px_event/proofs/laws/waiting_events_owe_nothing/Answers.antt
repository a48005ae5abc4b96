use Rattle.std.proofs.Common.{[], ap, sym, subst}
use Rattle.px_event.specs.Chain.{never, owed_at, Look}
use Rattle.px_event.specs.Laws.{IsFound}
use Rattle.px_event.proofs.Stops.{behind_found}
use Rattle.px_event.proofs.laws.waiting_events_owe_nothing.Goals as goal

pub returns : goal.returns
returns g c = λ chain law start events more replies ask is.
    let P : Look _ → Type 0 = IsFound in
    ap (λ w. owed_at chain w) (behind_found chain law replies never [] start [] events more (subst P (sym is) tt))
