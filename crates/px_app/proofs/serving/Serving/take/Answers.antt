use Rattle.std.proofs.Common.{refl, ap, sym, ◌∙◌, le_refl, le_trans}
use Rattle.px_app.specs.Over.{course_from}
use Rattle.px_app.specs.Replaying.{behind_flows}
use Rattle.px_app.specs.Saved.{saves_to_of}
use Rattle.px_app.proofs.GoesLemmas.{goes_appended, leaves_broke, leaves_whole}
use Rattle.px_app.proofs.ListedLemmas.{done_so_far, before_is}
use Rattle.px_app.proofs.LossLemmas.{either_later, losses_behind}
use Rattle.px_app.proofs.NetLemmas.{on_err}
use Rattle.px_app.proofs.StepLemmas.{breaks_on, breaks_within, puts_here, rests_on, sound_changed}
use Rattle.px_app.proofs.serving.Serving.take.Goals as goal

pub returns-in_err-over-clause-err : goal.returns-in_err-over-clause-err
returns-in_err-over-clause-err g c = λ due first start trace owes between told.
    let rests = between.rests in
    on_err c.from_residual.result _
    (breaks_within g.C.Conversation.stands g.C.Conversation.awaited g.C.Conversation.number g.C.Owes.due g.met.C.Owes.gave g.C.Owes.grows g.A.Answerer.answers g.A.Answerer.drops g.A.Answerer.names
    g.A.Answerer.fails due first (saves_to_of c.args.self.now.saving) c.args.self.now.router c.args.self.now.operators c.args.self.now.printing start _ trace c.args.moment c.args.heard rests c.args.self.now.replaying _ between.replays between.goes _ _ refl
    (c.in_err-over.ensures.breaks due (course_from first rests.changes rests.operations) rests.trace _ owes rests.stands (rests.operators_stand refl) told))

pub returns-in_err-over-clause-failed : goal.returns-in_err-over-clause-failed
returns-in_err-over-clause-failed g c = λ first lost low low_lost was failed.
    either_later first _ _ lost _ _ (le_refl _)
    (losses_behind g.A.Answerer.answers g.A.Answerer.drops g.A.Answerer.fails (saves_to_of c.args.self.now.saving) c.requires.losses _ _ (c.in_err-over.ensures.files (saves_to_of c.args.self.now.saving)))
    (was (sym c.in_err-over.ensures.printing ∙ failed))

pub returns-in_err-over-clause-later_losses : goal.returns-in_err-over-clause-later_losses
returns-in_err-over-clause-later_losses g c =
    losses_behind g.A.Answerer.answers g.A.Answerer.drops g.A.Answerer.fails (saves_to_of c.args.self.now.saving) c.requires.losses _ _ (c.in_err-over.ensures.files (saves_to_of c.args.self.now.saving))

pub returns-in_err-over-clause-files : goal.returns-in_err-over-clause-files
returns-in_err-over-clause-files g c = c.in_err-over.ensures.files (saves_to_of c.args.self.now.saving)

pub returns-in_err-self-clause-err : goal.returns-in_err-self-clause-err
returns-in_err-self-clause-err g c = λ due first start trace owes between told.
    let rests = between.rests in
    let was = before_is _ trace c.args.moment c.args.heard told in
    let before = done_so_far (g.N.Net.trace c.args.net.now) in
    on_err c.from_residual-in_err-self.result _
    (breaks_on g.C.Conversation.stands g.C.Conversation.awaited g.C.Conversation.number g.C.Owes.due g.met.C.Owes.gave g.C.Owes.grows g.A.Answerer.answers g.A.Answerer.drops g.A.Answerer.names
    g.A.Answerer.fails due first (saves_to_of c.args.self.now.saving) c.args.self.now.router c.args.self.now.operators c.args.self.now.printing start _ trace c.args.moment c.args.heard rests
    _ c.finish.new.self.router c.finish.new.self.operators c.in_ok-over.over _ _ before c.in_ok-over.flows.items
    (c.in_ok-over.ensures.ok due (course_from first rests.changes rests.operations) rests.trace owes rests.stands (rests.operators_stand refl)) told was
    (c.in_ok-over.ensures.finished _ told (ap done_so_far told)) c.args.self.now.replaying _ between.replays between.goes c.in_err-self.field-0.0 _
    (puts_here _ _ _ _ _ _ _ _ _ _ _ c.as_ref.ensures.value c.in_ok-over.ensures.saving c.in_ok-over.ensures.printing c.in_err-self.ensures.puts))

pub returns-in_err-self-clause-later_losses : goal.returns-in_err-self-clause-later_losses
returns-in_err-self-clause-later_losses g c =
    le_trans (losses_behind g.A.Answerer.answers g.A.Answerer.drops g.A.Answerer.fails (saves_to_of c.args.self.now.saving) c.requires.losses _ _ (c.in_ok-over.ensures.files (saves_to_of c.args.self.now.saving)))
    c.in_err-self.ensures.later_losses

pub returns-in_err-self-clause-files : goal.returns-in_err-self-clause-files
returns-in_err-self-clause-files g c =
    let puts = puts_here _ _ _ _ _ _ _ _ _ _ _ c.as_ref.ensures.value c.in_ok-over.ensures.saving c.in_ok-over.ensures.printing c.in_err-self.ensures.puts in
    leaves_broke g.A.Answerer.answers g.A.Answerer.drops g.A.Answerer.fails (saves_to_of c.args.self.now.saving) _ _ puts.made _ (c.in_ok-over.ensures.given (saves_to_of c.args.self.now.saving)) puts.appends

pub returns-clause-ok : goal.returns-clause-ok
returns-clause-ok g c = λ due first start trace owes between told.
    let rests = between.rests in
    let was = before_is _ trace c.args.moment c.args.heard told in
    let before = done_so_far (g.N.Net.trace c.args.net.now) in
    rests_on g.C.Conversation.stands g.C.Conversation.awaited g.C.Conversation.number g.C.Owes.due g.met.C.Owes.gave g.C.Owes.grows g.A.Answerer.answers g.A.Answerer.drops g.A.Answerer.names
    g.A.Answerer.fails due first (saves_to_of c.args.self.now.saving) c.args.self.now.router c.args.self.now.operators c.args.self.now.printing start _ trace c.args.moment c.args.heard rests
    _ c.finish.new.self.router c.finish.new.self.operators c.in_ok-over.over _ _ before c.in_ok-over.flows.items
    (c.in_ok-over.ensures.ok due (course_from first rests.changes rests.operations) rests.trace owes rests.stands (rests.operators_stand refl)) told was
    (c.in_ok-over.ensures.finished _ told (ap done_so_far told)) c.args.self.now.replaying _ _ _ between.replays between.goes
    (c.behind-self.ensures ∙ ap (behind_flows c.deref.result.now) c.in_ok-over.ensures.replaying) c.deref.ensures.value c.in_ok-self.field-0 _
    (puts_here _ _ _ _ _ _ _ _ _ _ _ c.as_ref.ensures.value c.in_ok-over.ensures.saving c.in_ok-over.ensures.printing c.in_ok-self.ensures.puts)

pub returns-clause-sound : goal.returns-clause-sound
returns-clause-sound g c =
    let sound = c.in_ok-over.ensures.sound in
    sound_changed g.C.Conversation.stands g.C.Conversation.awaited g.C.Conversation.number g.C.Owes.due g.A.Answerer.answers g.A.Answerer.drops g.A.Answerer.names g.A.Answerer.state _ _ _
    c.finish.new.self.router sound

pub returns-clause-failed : goal.returns-clause-failed
returns-clause-failed g c = λ first lost low low_lost was failed.
    let later = losses_behind g.A.Answerer.answers g.A.Answerer.drops g.A.Answerer.fails (saves_to_of c.args.self.now.saving) c.requires.losses _ _ (c.in_ok-over.ensures.files (saves_to_of c.args.self.now.saving)) in
    c.in_ok-self.ensures.failed first lost low (le_trans low_lost later)
    (λ failed_before. either_later first _ _ lost _ _ (le_refl _) later (was (sym c.in_ok-over.ensures.printing ∙ failed_before))) failed

pub returns-clause-later_losses : goal.returns-clause-later_losses
returns-clause-later_losses g c =
    le_trans (losses_behind g.A.Answerer.answers g.A.Answerer.drops g.A.Answerer.fails (saves_to_of c.args.self.now.saving) c.requires.losses _ _ (c.in_ok-over.ensures.files (saves_to_of c.args.self.now.saving)))
    c.in_ok-self.ensures.later_losses

pub returns-clause-given : goal.returns-clause-given
returns-clause-given g c =
    let puts = puts_here _ _ _ _ _ _ _ _ _ _ _ c.as_ref.ensures.value c.in_ok-over.ensures.saving c.in_ok-over.ensures.printing c.in_ok-self.ensures.puts in
    goes_appended g.A.Answerer.answers g.A.Answerer.drops (saves_to_of c.args.self.now.saving) _ _ _ puts.made (c.in_ok-over.ensures.given (saves_to_of c.args.self.now.saving)) refl puts.appends

pub returns-clause-files : goal.returns-clause-files
returns-clause-files g c = leaves_whole g.A.Answerer.answers g.A.Answerer.drops g.A.Answerer.fails (saves_to_of c.args.self.now.saving) _ _ (returns-clause-given g c)
