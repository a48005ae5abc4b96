use Rattle.std.proofs.Common.{◌++◌, ◌∷◌, []}
use Rattle.px_event.specs.declared.heard.Heard.TheVariants.{Closed as HasClosed}
use Rattle.px_event.specs.declared.side.Side.TheVariants.{Client as OfClient}
use Rattle.px_event.specs.declared.step.Step.TheVariants.{Heard as WasHeard}
use Rattle.px_core.proofs.RunLemmas.{on_err}
use Rattle.px_app.specs.Over.{goes_none}
use Rattle.px_app.proofs.GoesLemmas.{leaves_whole}
use Rattle.px_app.proofs.TurningLemmas.{broke_silent, closed_tells, left_stands, let_go_so, not_begun_so, speaks_so}
use Rattle.px_app.proofs.serving.Serving.let_go.Goals as goal

pub returns-in_err-say-clause-breaks : goal.returns-in_err-say-clause-breaks
returns-in_err-say-clause-breaks g c = λ due course trace told owes routed they is.
    let none = not_begun_so g.C.Conversation.stands g.C.Conversation.awaited g.C.Conversation.number g.C.Owes.due g.A.Answerer.answers g.A.Answerer.state due course _ c.args.self.now.router trace routed c.args.self.now.operators c.args.conv c.requires.speaks in
    on_err c.from_residual.result
    (broke_silent g.C.Conversation.stands g.C.Conversation.awaited g.C.Conversation.number g.C.Owes.due g.A.Answerer.answers g.A.Answerer.drops g.A.Answerer.names g.A.Answerer.state due course trace c.args.moment g.A.Answerer.fails (HasClosed c.args.conv OfClient) told _ _ _ c.args.self.now.router
    (left_stands g.C.Conversation.stands g.C.Conversation.awaited g.C.Conversation.number g.C.Owes.due g.A.Answerer.answers g.A.Answerer.state due course _ c.args.self.now.router trace routed g.met.C.Owes.gave g.C.Owes.grows c.args.moment c.args.conv none) c.in_err-say.ensures.err is)

pub returns-in_err-say-clause-files : goal.returns-in_err-say-clause-files
returns-in_err-say-clause-files g c = λ to. leaves_whole g.A.Answerer.answers g.A.Answerer.drops g.A.Answerer.fails to _ _ goes_none

pub returns-clause-ok : goal.returns-clause-ok
returns-clause-ok g c = λ due course trace owes routed they.
    let none = not_begun_so g.C.Conversation.stands g.C.Conversation.awaited g.C.Conversation.number g.C.Owes.due g.A.Answerer.answers g.A.Answerer.state due course _ c.args.self.now.router trace routed c.args.self.now.operators c.args.conv c.requires.speaks in
    let_go_so g.C.Conversation.stands g.C.Conversation.awaited g.C.Conversation.number g.C.Owes.due g.A.Answerer.answers g.A.Answerer.drops g.A.Answerer.names g.A.Answerer.state due course trace c.args.moment c.args.conv c.args.self.now.operators _ _ c.args.self.now.router _ _ they (speaks_so g.C.Conversation.stands g.C.Conversation.awaited g.C.Conversation.number g.C.Owes.due g.A.Answerer.answers g.A.Answerer.state due course _ c.args.self.now.router trace routed c.args.self.now.operators c.args.conv they c.requires.speaks)
    (record { others = c.close.ensures.others; other_stands = c.close.ensures.other_stands }) c.close.ensures.closes
    (left_stands g.C.Conversation.stands g.C.Conversation.awaited g.C.Conversation.number g.C.Owes.due g.A.Answerer.answers g.A.Answerer.state due course _ c.args.self.now.router trace routed g.met.C.Owes.gave g.C.Owes.grows c.args.moment c.args.conv none) c.in_ok-say.ensures.said

pub returns-clause-sound : goal.returns-clause-sound
returns-clause-sound g c =
    let sound = c.requires.sound in
    let none = not_begun_so g.C.Conversation.stands g.C.Conversation.awaited g.C.Conversation.number g.C.Owes.due g.A.Answerer.answers g.A.Answerer.state sound.0 sound.1 _ c.args.self.now.router sound.2 sound.4 c.args.self.now.operators c.args.conv c.requires.speaks in (
      sound.0,
      sound.1,
      sound.2 ++ WasHeard c.args.moment (HasClosed c.args.conv OfClient) ∷ [],
      sound.3,
      left_stands g.C.Conversation.stands g.C.Conversation.awaited g.C.Conversation.number g.C.Owes.due g.A.Answerer.answers g.A.Answerer.state sound.0 sound.1 _ c.args.self.now.router sound.2 sound.4 g.met.C.Owes.gave g.C.Owes.grows c.args.moment c.args.conv none,
    )

pub returns-clause-taken : goal.returns-clause-taken
returns-clause-taken g c = λ trace told same. closed_tells _ trace c.args.conv _ _ told c.in_ok-say.ensures.said same

pub returns-clause-files : goal.returns-clause-files
returns-clause-files g c = λ to. leaves_whole g.A.Answerer.answers g.A.Answerer.drops g.A.Answerer.fails to _ _ goes_none

pub returns-clause-given : goal.returns-clause-given
returns-clause-given g c = λ to. goes_none
