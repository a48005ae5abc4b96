use Rattle.std.proofs.Common.{subst}
use Rattle.px_gen.specs.Generated.{GeneratedState}
use Rattle.px_gen.specs.Heard.{Hears}
use Rattle.px_gen.proofs.GeneratedLemmas.{hears}
use Rattle.px_gen.proofs.generated.Generated.trace.Goals as goal

pub returns-clause-hears : goal.returns-clause-hears
returns-clause-hears g c =
    let P : GeneratedState → Type 0 = λ state. Hears g.K.Scripted.count state.trace in
    subst P c.self.view_is (hears g.K.Scripted.count c.self.inside.net c.self.invariant)
