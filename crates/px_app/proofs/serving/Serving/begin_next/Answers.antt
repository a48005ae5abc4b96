use Rattle.std.proofs.Common.{◌+◌, refl, ap, sym, ◌∙◌, arith, le_refl, le_trans}
use Rattle.px_app.specs.Over.{course_from, goes_none}
use Rattle.px_app.specs.Saved.{saves_to_of}
use Rattle.px_app.proofs.BeginLemmas.{begin_breaks, begin_on, begin_within, is_fresh, may_begin, now_of}
use Rattle.px_app.proofs.GoesLemmas.{goes_appended, goes_by, leaves_broke, leaves_by, leaves_whole}
use Rattle.px_app.proofs.ListedLemmas.{done_so_far}
use Rattle.px_app.proofs.LossLemmas.{either_later, losses_behind}
use Rattle.px_app.proofs.NetLemmas.{on_err}
use Rattle.px_app.proofs.StepLemmas.{puts_here, sound_changed}
use Rattle.px_app.proofs.serving.Serving.begin_next.Goals as goal

pub begin_one-requires : goal.begin_one-requires
begin_one-requires g c = record {
  sound = c.requires.sound;
  unknown = sym c.knows.ensures.known ∙ c.if-knows.false;
  first = omega arith;
  few = let few = c.requires.few in omega (arith, few);
}

pub returns-then-knows-clause-ok : goal.returns-then-knows-clause-ok
returns-then-knows-clause-ok g c = λ due first start trace owes now told same stopped.
    absurd (is_fresh g.C.Conversation.stands g.C.Conversation.awaited g.C.Conversation.number g.C.Owes.due g.met.C.Owes.gave g.C.Owes.grows g.A.Answerer.answers g.A.Answerer.drops g.A.Answerer.names
    g.A.Answerer.fails due now c.args.index _ refl same _
    (c.knows.ensures.begun due _ _ now.rests.trace now.rests.stands) c.if-knows.true)

pub returns-then-knows-clause-files : goal.returns-then-knows-clause-files
returns-then-knows-clause-files g c = leaves_whole g.A.Answerer.answers g.A.Answerer.drops g.A.Answerer.fails (saves_to_of c.args.self.now.saving) _ _ goes_none

pub returns-then-knows-clause-given : goal.returns-then-knows-clause-given
returns-then-knows-clause-given g c = goes_none

pub returns-in_err-flows-clause-err : goal.returns-in_err-flows-clause-err
returns-in_err-flows-clause-err g c = λ due first start trace owes now told same stopped.
    let rests = now.rests in
    let may = may_begin g.C.Conversation.stands g.C.Conversation.awaited g.C.Conversation.number g.C.Owes.due g.met.C.Owes.gave g.C.Owes.grows g.A.Answerer.answers g.A.Answerer.drops g.A.Answerer.names
    g.A.Answerer.fails due now c.args.index _ refl c.requires.few same stopped in
    on_err c.from_residual.result _
    (begin_within g.C.Conversation.stands g.C.Conversation.awaited g.C.Conversation.number g.C.Owes.due g.met.C.Owes.gave g.C.Owes.grows g.A.Answerer.answers g.A.Answerer.drops g.A.Answerer.names
    g.A.Answerer.fails due first (saves_to_of c.args.self.now.saving) c.args.self.now.router c.args.self.now.operators c.args.self.now.printing start _ trace _ rests
    c.args.self.now.replaying _ now.replays may _ _ refl
    (c.in_err-flows.ensures.breaks due (course_from first rests.changes rests.operations) rests.trace _ owes rests.stands (now_of g.C.Conversation.stands g.C.Conversation.awaited g.C.Conversation.number g.C.Owes.due g.met.C.Owes.gave g.C.Owes.grows g.A.Answerer.answers g.A.Answerer.drops g.A.Answerer.names
    g.A.Answerer.fails due now) told))

pub returns-in_err-flows-clause-failed : goal.returns-in_err-flows-clause-failed
returns-in_err-flows-clause-failed g c = λ first lost low low_lost was failed.
    either_later first _ _ lost _ _ (le_refl _)
    (losses_behind g.A.Answerer.answers g.A.Answerer.drops g.A.Answerer.fails (saves_to_of c.args.self.now.saving) c.requires.losses _ _ (leaves_by g.A.Answerer.answers g.A.Answerer.drops g.A.Answerer.fails (saves_to_of c.args.self.now.saving) _ _ _ goes_none c.in_err-flows.ensures.files))
    (was (sym c.in_err-flows.ensures.printing ∙ failed))

pub returns-in_err-flows-clause-later_losses : goal.returns-in_err-flows-clause-later_losses
returns-in_err-flows-clause-later_losses g c =
    losses_behind g.A.Answerer.answers g.A.Answerer.drops g.A.Answerer.fails (saves_to_of c.args.self.now.saving) c.requires.losses _ _ (leaves_by g.A.Answerer.answers g.A.Answerer.drops g.A.Answerer.fails (saves_to_of c.args.self.now.saving) _ _ _ goes_none c.in_err-flows.ensures.files)

pub returns-in_err-flows-clause-files : goal.returns-in_err-flows-clause-files
returns-in_err-flows-clause-files g c = leaves_by g.A.Answerer.answers g.A.Answerer.drops g.A.Answerer.fails (saves_to_of c.args.self.now.saving) _ _ _ goes_none c.in_err-flows.ensures.files

pub returns-in_err-self-clause-err : goal.returns-in_err-self-clause-err
returns-in_err-self-clause-err g c = λ due first start trace owes now told same stopped.
    let rests = now.rests in
    let may = may_begin g.C.Conversation.stands g.C.Conversation.awaited g.C.Conversation.number g.C.Owes.due g.met.C.Owes.gave g.C.Owes.grows g.A.Answerer.answers g.A.Answerer.drops g.A.Answerer.names
    g.A.Answerer.fails due now c.args.index _ refl c.requires.few same stopped in
    let before = done_so_far (g.N.Net.trace c.args.net.now) in
    on_err c.from_residual-in_err-self.result _
    (begin_breaks g.C.Conversation.stands g.C.Conversation.awaited g.C.Conversation.number g.C.Owes.due g.met.C.Owes.gave g.C.Owes.grows g.A.Answerer.answers g.A.Answerer.drops g.A.Answerer.names
    g.A.Answerer.fails due first (saves_to_of c.args.self.now.saving) c.args.self.now.router c.args.self.now.operators c.args.self.now.printing start _ trace _ rests
    _ c.begin_one.new.self.router c.begin_one.new.self.operators _ _ before c.in_ok-flows.flows.items
    (c.in_ok-flows.ensures.ok due (course_from first rests.changes rests.operations) rests.trace owes rests.stands (now_of g.C.Conversation.stands g.C.Conversation.awaited g.C.Conversation.number g.C.Owes.due g.met.C.Owes.gave g.C.Owes.grows g.A.Answerer.answers g.A.Answerer.drops g.A.Answerer.names
    g.A.Answerer.fails due now)) c.in_ok-flows.ensures.operators told (ap done_so_far told)
    (c.in_ok-flows.ensures.finished _ told (ap done_so_far told)) c.args.self.now.replaying _ now.replays may c.in_err-self.field-0.0 _
    (puts_here _ _ _ _ _ _ _ _ _ _ _ c.as_ref.ensures.value c.in_ok-flows.ensures.saving c.in_ok-flows.ensures.printing c.in_err-self.ensures.puts))

pub returns-in_err-self-clause-later_losses : goal.returns-in_err-self-clause-later_losses
returns-in_err-self-clause-later_losses g c =
    le_trans (losses_behind g.A.Answerer.answers g.A.Answerer.drops g.A.Answerer.fails (saves_to_of c.args.self.now.saving) c.requires.losses _ _ (leaves_by g.A.Answerer.answers g.A.Answerer.drops g.A.Answerer.fails (saves_to_of c.args.self.now.saving) _ _ _ goes_none c.in_ok-flows.ensures.files))
    c.in_err-self.ensures.later_losses

pub returns-in_err-self-clause-files : goal.returns-in_err-self-clause-files
returns-in_err-self-clause-files g c =
    let puts = puts_here _ _ _ _ _ _ _ _ _ _ _ c.as_ref.ensures.value c.in_ok-flows.ensures.saving c.in_ok-flows.ensures.printing c.in_err-self.ensures.puts in
    leaves_broke g.A.Answerer.answers g.A.Answerer.drops g.A.Answerer.fails (saves_to_of c.args.self.now.saving) _ _ puts.made _
    (goes_by g.A.Answerer.answers g.A.Answerer.drops (saves_to_of c.args.self.now.saving) _ _ c.in_ok-flows.ensures.given) puts.appends

pub returns-clause-ok : goal.returns-clause-ok
returns-clause-ok g c = λ due first start trace owes now told same stopped.
    let rests = now.rests in
    let may = may_begin g.C.Conversation.stands g.C.Conversation.awaited g.C.Conversation.number g.C.Owes.due g.met.C.Owes.gave g.C.Owes.grows g.A.Answerer.answers g.A.Answerer.drops g.A.Answerer.names
    g.A.Answerer.fails due now c.args.index _ refl c.requires.few same stopped in
    let before = done_so_far (g.N.Net.trace c.args.net.now) in (
      begin_on g.C.Conversation.stands g.C.Conversation.awaited g.C.Conversation.number g.C.Owes.due g.met.C.Owes.gave g.C.Owes.grows g.A.Answerer.answers g.A.Answerer.drops g.A.Answerer.names
          g.A.Answerer.fails due first (saves_to_of c.args.self.now.saving) c.args.self.now.router c.args.self.now.operators c.args.self.now.printing start _ trace _ rests
          _ c.begin_one.new.self.router c.begin_one.new.self.operators _ _ before c.in_ok-flows.flows.items
          (c.in_ok-flows.ensures.ok due (course_from first rests.changes rests.operations) rests.trace owes rests.stands (now_of g.C.Conversation.stands g.C.Conversation.awaited g.C.Conversation.number g.C.Owes.due g.met.C.Owes.gave g.C.Owes.grows g.A.Answerer.answers g.A.Answerer.drops g.A.Answerer.names
          g.A.Answerer.fails due now)) c.in_ok-flows.ensures.operators told (ap done_so_far told)
          (c.in_ok-flows.ensures.finished _ told (ap done_so_far told)) c.args.self.now.replaying _ _ _ c.args.moment _ now.replays may
          (ap (λ n. n + 1) same) refl now.is_now c.behind-self.ensures c.deref.ensures.value c.in_ok-self.field-0 _
          (puts_here _ _ _ _ _ _ _ _ _ _ _ c.as_ref.ensures.value c.in_ok-flows.ensures.saving c.in_ok-flows.ensures.printing c.in_ok-self.ensures.puts),
      ap (λ r. r.begun) c.behind-self.ensures,
    )

pub returns-clause-sound : goal.returns-clause-sound
returns-clause-sound g c =
    let sound = c.in_ok-flows.ensures.sound in
    sound_changed g.C.Conversation.stands g.C.Conversation.awaited g.C.Conversation.number g.C.Owes.due g.A.Answerer.answers g.A.Answerer.drops g.A.Answerer.names g.A.Answerer.state _ _ _
    c.begin_one.new.self.router sound

pub returns-clause-failed : goal.returns-clause-failed
returns-clause-failed g c = λ first lost low low_lost was failed.
    let later = losses_behind g.A.Answerer.answers g.A.Answerer.drops g.A.Answerer.fails (saves_to_of c.args.self.now.saving) c.requires.losses _ _ (leaves_by g.A.Answerer.answers g.A.Answerer.drops g.A.Answerer.fails (saves_to_of c.args.self.now.saving) _ _ _ goes_none c.in_ok-flows.ensures.files) in
    c.in_ok-self.ensures.failed first lost low (le_trans low_lost later)
    (λ failed_before. either_later first _ _ lost _ _ (le_refl _) later (was (sym c.in_ok-flows.ensures.printing ∙ failed_before))) failed

pub returns-clause-later_losses : goal.returns-clause-later_losses
returns-clause-later_losses g c =
    le_trans (losses_behind g.A.Answerer.answers g.A.Answerer.drops g.A.Answerer.fails (saves_to_of c.args.self.now.saving) c.requires.losses _ _ (leaves_by g.A.Answerer.answers g.A.Answerer.drops g.A.Answerer.fails (saves_to_of c.args.self.now.saving) _ _ _ goes_none c.in_ok-flows.ensures.files))
    c.in_ok-self.ensures.later_losses

pub returns-clause-given : goal.returns-clause-given
returns-clause-given g c =
    let puts = puts_here _ _ _ _ _ _ _ _ _ _ _ c.as_ref.ensures.value c.in_ok-flows.ensures.saving c.in_ok-flows.ensures.printing c.in_ok-self.ensures.puts in
    goes_appended g.A.Answerer.answers g.A.Answerer.drops (saves_to_of c.args.self.now.saving) _ _ _ puts.made
    (goes_by g.A.Answerer.answers g.A.Answerer.drops (saves_to_of c.args.self.now.saving) _ _ c.in_ok-flows.ensures.given) refl puts.appends

pub returns-clause-files : goal.returns-clause-files
returns-clause-files g c = leaves_whole g.A.Answerer.answers g.A.Answerer.drops g.A.Answerer.fails (saves_to_of c.args.self.now.saving) _ _ (returns-clause-given g c)
