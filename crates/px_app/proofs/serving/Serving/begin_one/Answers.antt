use Rattle.px_app.proofs.BeginLemmas.{begun_sound}
use Rattle.px_app.proofs.NetLemmas.{on_err}
use Rattle.px_app.proofs.serving.Serving.begin_one.Goals as goal

pub begin_alone-requires : goal.begin_alone-requires
begin_alone-requires g c =
    let sound = c.requires.sound in
    record { sound = λ _. (sound.0, sound.1, _, sound.2, sound.4); unknown = c.requires.unknown; first = c.requires.first; few = c.requires.few }

pub returns-in_err-begin_alone-clause-breaks : goal.returns-in_err-begin_alone-clause-breaks
returns-in_err-begin_alone-clause-breaks g c = λ due course trace told owes stands now is.
    on_err c.from_residual.result _ (c.in_err-begin_alone.ensures.breaks due course trace told owes stands now is)

pub returns-clause-sound : goal.returns-clause-sound
returns-clause-sound g c =
    begun_sound g.C.Conversation.stands g.C.Conversation.awaited g.C.Conversation.number g.C.Owes.due g.met.C.Owes.gave g.C.Owes.grows g.A.Answerer.answers g.A.Answerer.drops g.A.Answerer.names
    g.A.Answerer.fails g.A.Answerer.state _ _ _ _ c.args.self.now.router c.begin_alone.new.router c.args.moment c.args.conv _ _ c.requires.sound c.in_ok-begin_alone.ensures.ok c.in_ok-begin_alone.ensures.due
