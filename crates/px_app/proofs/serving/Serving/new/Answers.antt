use Rattle.std.proofs.Common.{[], None}
use Rattle.px_core.specs.Answers.{FilesMeaning}
use Rattle.px_app.proofs.StepLemmas.{now_first, state_first}
use Rattle.px_app.specs.Saved.{saves_to_of}
use Rattle.px_app.proofs.serving.Serving.new.Goals as goal

pub returns-clause-rests : goal.returns-clause-rests
returns-clause-rests g c = λ due files total start.
    now_first g.C.Conversation.stands g.C.Conversation.awaited g.C.Conversation.number g.C.Owes.due g.A.Answerer.answers g.A.Answerer.drops g.A.Answerer.names g.A.Answerer.state due _
    (saves_to_of c.args.saving) files _ _ _ total start (c.new.ensures.stands due files) c.new-2.ensures.none c.new-2.ensures.none_open c.new-3.ensures.begun c.new-3.ensures.going

pub returns-clause-answerer : goal.returns-clause-answerer
returns-clause-answerer g c =
    let files : FilesMeaning = record { contents = None; calls = None; misses = 0; faults = 0; losses = 0 } in
    state_first g.C.Conversation.stands g.C.Conversation.awaited g.C.Conversation.number g.C.Owes.due g.A.Answerer.answers g.A.Answerer.state (λ conv at moves. []) _ files c.new.result
    (c.new.ensures.stands (λ conv at moves. []) files)
