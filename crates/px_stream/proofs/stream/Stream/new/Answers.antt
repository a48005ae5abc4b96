use Rattle.std.proofs.Common.{refl}
use Rattle.px_stream.proofs.AnywhereLemmas.{stands_first}
use Rattle.px_stream.proofs.stream.Stream.new.Goals as goal

pub returns-clause-stands : goal.returns-clause-stands
returns-clause-stands c = λ ahead dials small.
    stands_first _ (record { requests = c.request.ensures.state; client = refl; side = c.unheard-side.ensures; phase = refl }) c.requires.few ahead dials small

pub returns-clause-new : goal.returns-clause-new
returns-clause-new c = record { requests = c.request.ensures.state; client = refl; side = c.unheard-side.ensures; phase = refl }
