use Rattle.px_core.proofs.KindLemmas.{none_waits}
use Rattle.px_core.proofs.laws.no_hook_waits.Goals as goal

pub returns : goal.returns
returns g c = record {
  answered = λ none due course so stay trace rests. none_waits g.K.Kind.answers due g.K.Kind.is_so g.K.Kind.gives g.K.Kind.keeps none course so stay trace rests;
}
