use Rattle.std.proofs.Common.{◌∙◌, ◌++◌, ◌∷◌, []}
use Rattle.px_event.specs.declared.step.Step.TheVariants.{Heard as WasHeard}
use Rattle.px_core.proofs.RunLemmas.{on_err}
use Rattle.px_app.specs.Over.{goes_none}
use Rattle.px_app.proofs.GoesLemmas.{goes_by, leaves_by}
use Rattle.px_app.proofs.TurningLemmas.{broke_behind, broke_within, conversed, nothing_word, welcomes_so}
use Rattle.px_app.proofs.serving.Serving.converse.Goals as goal

pub work_off-requires : goal.work_off-requires
work_off-requires g c = let sound = c.requires.sound in record { sound = λ _. (sound.0, sound.1, _, sound.2, sound.4) }

pub returns-in_err-work_off-clause-breaks : goal.returns-in_err-work_off-clause-breaks
returns-in_err-work_off-clause-breaks g c = λ due course trace told owes routed they is.
    on_err c.from_residual.result
    (broke_within g.C.Conversation.stands g.C.Conversation.awaited g.C.Conversation.number g.C.Owes.due g.A.Answerer.answers g.A.Answerer.drops g.A.Answerer.names g.A.Answerer.state due course trace c.args.moment g.A.Answerer.fails c.args.heard told _ _
    (nothing_word g.C.Conversation.stands g.C.Conversation.awaited g.C.Conversation.number g.C.Owes.due g.A.Answerer.answers g.A.Answerer.state due course _ c.args.self.now.router trace routed c.args.self.now.operators c.args.heard they c.requires.nothing) (c.in_err-work_off.ensures.breaks due course trace told owes routed is))

pub returns-in_err-work_off-clause-files : goal.returns-in_err-work_off-clause-files
returns-in_err-work_off-clause-files g c = λ to. leaves_by g.A.Answerer.answers g.A.Answerer.drops g.A.Answerer.fails to _ _ _ goes_none c.in_err-work_off.ensures.files

pub returns-in_err-welcome-clause-breaks : goal.returns-in_err-welcome-clause-breaks
returns-in_err-welcome-clause-breaks g c = λ due course trace told owes routed they is.
    on_err c.from_residual-in_err-welcome.result
    (broke_behind g.C.Conversation.stands g.C.Conversation.awaited g.C.Conversation.number g.C.Owes.due g.A.Answerer.answers g.A.Answerer.drops g.A.Answerer.names g.A.Answerer.state due course trace c.args.moment c.args.heard _ c.work_off.new.router _ _
    (nothing_word g.C.Conversation.stands g.C.Conversation.awaited g.C.Conversation.number g.C.Owes.due g.A.Answerer.answers g.A.Answerer.state due course _ c.args.self.now.router trace routed c.args.self.now.operators c.args.heard they c.requires.nothing) (c.in_ok-work_off.ensures.ok due course trace owes routed) g.A.Answerer.fails told is)

pub returns-in_err-welcome-clause-files : goal.returns-in_err-welcome-clause-files
returns-in_err-welcome-clause-files g c = λ to. leaves_by g.A.Answerer.answers g.A.Answerer.drops g.A.Answerer.fails to _ _ _ goes_none c.in_ok-work_off.ensures.files

pub returns-clause-ok : goal.returns-clause-ok
returns-clause-ok g c = λ due course trace owes routed they.
    conversed g.C.Conversation.stands g.C.Conversation.awaited g.C.Conversation.number g.C.Owes.due g.A.Answerer.answers g.A.Answerer.drops g.A.Answerer.names g.A.Answerer.state due course trace c.args.moment c.args.heard _ c.work_off.new.router _ _
    (nothing_word g.C.Conversation.stands g.C.Conversation.awaited g.C.Conversation.number g.C.Owes.due g.A.Answerer.answers g.A.Answerer.state due course _ c.args.self.now.router trace routed c.args.self.now.operators c.args.heard they c.requires.nothing) (c.in_ok-work_off.ensures.ok due course trace owes routed)
    c.args.self.now.operators _ c.is_end-ends.result c.is_end-ends.ensures they
    (welcomes_so c.accepted_by-accepted.result _ _ _ c.accepted_by-accepted.ensures c.in_ok-welcome.ensures.stays c.in_ok-welcome.ensures.opens c.in_ok-welcome.ensures.fresh c.in_ok-welcome.ensures.others
    c.in_ok-welcome.ensures.other_stands)

pub returns-clause-sound : goal.returns-clause-sound
returns-clause-sound g c =
    let sound = c.requires.sound in
    let adds = c.in_ok-work_off.ensures.ok sound.0 sound.1 sound.2 sound.3 sound.4 in (
      sound.0,
      sound.1,
      (sound.2 ++ WasHeard c.args.moment c.args.heard ∷ []) ++ adds.more,
      (λ conv peer moves. c.in_ok-work_off.ensures.due conv peer moves ∙ sound.3 conv peer moves),
      adds.holds,
    )

pub returns-clause-files : goal.returns-clause-files
returns-clause-files g c = λ to. leaves_by g.A.Answerer.answers g.A.Answerer.drops g.A.Answerer.fails to _ _ _ goes_none c.in_ok-work_off.ensures.files

pub returns-clause-given : goal.returns-clause-given
returns-clause-given g c = λ to. goes_by g.A.Answerer.answers g.A.Answerer.drops to _ _ c.in_ok-work_off.ensures.given
