use Rattle.std.proofs.Common.{◌<◌, ◌++◌, ℕ, List, replicate, sym, subst}
use Rattle.px_relay.specs.Lengths.{heard, lengths_behind}
use Rattle.px_relay.proofs.LengthLemmas.{fewer}
use Rattle.px_relay.proofs.lengths.Lengths.kept.Goals as goal

pub returns : goal.returns
returns c =
    let inside = c.self.inside in
    subst (λ (l : List ℕ). c.len.result < heard l) c.self.view_is
    (subst (λ (n : ℕ). n < heard (lengths_behind 0 inside.pairs ++ replicate inside.times inside.length)) (sym c.len.ensures) (fewer inside.pairs inside.times inside.length c.self.invariant))
