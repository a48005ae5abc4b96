use Rattle.px_http.proofs.conversation.HttpConvLayer.kept.Goals as goal

pub returns-clause-there : goal.returns-clause-there
returns-clause-there c = c.kept.ensures.bound

pub returns-clause-bound : goal.returns-clause-bound
returns-clause-bound c = λ sound keeps. (c.kept.ensures.bound sound.0.stream.terms _ _ sound.3.place.is_at keeps).all
