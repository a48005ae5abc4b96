use Rattle.px_core.proofs.KindLemmas.{kept_in}
use Rattle.px_core.proofs.laws.answers_are_of_their_kind.Goals as goal

pub returns-clause-replies : goal.returns-clause-replies
returns-clause-replies g c = λ due course so stay trace came.
    (kept_in g.K.Kind.answers due g.K.Kind.is_so g.K.Kind.gives g.K.Kind.keeps course came.made came.front_of so stay trace came.last came.pending came.answered).of_kind

pub returns-clause-states : goal.returns-clause-states
returns-clause-states g c = λ due course so stay trace came.
    (kept_in g.K.Kind.answers due g.K.Kind.is_so g.K.Kind.gives g.K.Kind.keeps course came.made came.front_of so stay trace came.last came.pending came.answered).so
