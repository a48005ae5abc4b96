use Rattle.std.proofs.Common.{ap, refl, le_refl}
use Rattle.px_core.specs.Answers.{AnswererState, files_meaning}
use Rattle.px_core.specs.declared.gates.Gates.{Gates}
use Rattle.px_resend.specs.Due.{most_replayed}
use Rattle.px_resend.specs.declared.replays.Replays.{Replays}
use Rattle.px_stack.specs.declared.placed.Placed.{Placed}
use Rattle.px_app.specs.Over.{course_from}
use Rattle.px_app.specs.Saved.{saves_to_of}
use Rattle.px_app.proofs.EndLemmas.{not_failed}
use Rattle.px_app.proofs.RanLemmas.{due_of_same, made_due, ran_saving}
use Rattle.px_app.proofs.StepLemmas.{leaves_from, leaves_saving}
use Rattle.px_app.proofs.serve.serve_by.Goals as goal

pub serve_all-status-requires : goal.serve_all-status-requires
serve_all-status-requires g c =
    let due = made_due c.new-serving.result.maker in
    let files = files_meaning g.F.Files.contents g.F.Files.calls g.F.Files.misses g.F.Files.faults g.F.Files.losses c.args.files.now in
    let first : AnswererState g.A.Answerer.State = record { own = g.A.Answerer.state c.args.answerer; files = files } in
    let rests = (c.new-serving.ensures.rests due files (most_replayed c.new-serving.result.maker.layers.flows.items) (g.S.Sink.written c.args.out.now)).rests in
    record { losses = c.requires.losses; sound = (due, course_from first rests.changes rests.operations, rests.trace, (λ conv peer moves. refl), rests.stands) }

pub returns-clause-run : goal.returns-clause-run
returns-clause-run g c = λ due owes empty.
    let files = files_meaning g.F.Files.contents g.F.Files.calls g.F.Files.misses g.F.Files.faults g.F.Files.losses c.args.files.now in
    let start = g.S.Sink.written c.args.out.now in
    let same = c.new-serving.ensures.maker in
    ran_saving g.A.Answerer.answers g.A.Answerer.drops g.A.Answerer.names g.A.Answerer.fails due _ c.args.budget _ _ _ start _ _ c.new-serving.ensures.saving
    (ap (λ (m : Gates (Replays Placed)). most_replayed m.layers.flows.items) same)
    (c.serve_all-status.ensures.run due _ start (due_of_same c.new-serving.result.maker c.args.maker same owes)
    (c.new-serving.ensures.rests due files (most_replayed c.new-serving.result.maker.layers.flows.items) start) empty)

pub returns-clause-failed : goal.returns-clause-failed
returns-clause-failed g c = λ failed.
    c.serve_all-status.ensures.failed (g.S.Sink.faults c.args.out.now) (g.F.Files.losses c.args.files.now) (le_refl _) (le_refl _)
    (λ was. absurd (not_failed c.new-serving.result.printing c.new-serving.ensures.printing was)) failed

pub returns-clause-files : goal.returns-clause-files
returns-clause-files g c =
    leaves_from g.A.Answerer.answers g.A.Answerer.drops g.A.Answerer.fails (saves_to_of c.args.saving) _ _ _ _ c.new-serving.ensures.answerer
    (leaves_saving g.A.Answerer.answers g.A.Answerer.drops g.A.Answerer.fails _ _ c.new-serving.ensures.saving c.serve_all-status.ensures.files)
