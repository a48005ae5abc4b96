use Rattle.px_gen.proofs.NotedLemmas.{noted_so_far, on_err}
use Rattle.px_gen.proofs.notes.note_all.Goals as goal

pub returns-in_err-note_one-clause-part : goal.returns-in_err-note_one-clause-part
returns-in_err-note_one-clause-part g c =
    on_err c.from_residual.result (noted_so_far c.args.steps.now c.loop-step.step-index (g.N.Net.trace c.args.net.now) _ _
    c.loop-step.invariant.told c.in_err-note_one.ensures.err)
