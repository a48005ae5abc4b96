use Rattle.std.proofs.Common.{◌≡◌, refl, arith}
use Rattle.px_app.specs.declared.status.Status.TheVariants.{Ended, NoMemory}
use Rattle.px_app.proofs.EndLemmas.{no_line_ended, no_line_memory, no_line_either, not_ended_either, ends_still}
use Rattle.px_app.proofs.program.end.Goals as goal

pub returns-in-Whole-clause-prints : goal.returns-in-Whole-clause-prints
returns-in-Whole-clause-prints g c = λ start text has.
    ends_still c.args.ending.printing text start _ _ (g.S.Sink.faults c.args.out.now) _ Ended no_line_ended refl (omega arith) (λ _. c.in-Whole.is) has

pub returns-in-OutputFailed-clause-prints : goal.returns-in-OutputFailed-clause-prints
returns-in-OutputFailed-clause-prints g c = λ start text has.
    ends_still c.args.ending.printing text start _ _ (g.S.Sink.faults c.args.out.now) _ c.args.ending.status (no_line_either c.args.ending.status c.in-OutputFailed.is) refl (omega arith)
    (λ ended. absurd (not_ended_either c.args.ending.status c.in-OutputFailed.is ended)) has

pub returns-in-Err-clause-prints : goal.returns-in-Err-clause-prints
returns-in-Err-clause-prints g c = λ start text has.
    ends_still c.args.ending.printing text start _ _ (g.S.Sink.faults c.args.out.now) _ NoMemory no_line_memory c.in-Err.ensures.err c.print.ensures.later
    (λ (wrong : NoMemory ≡ Ended). absurd (cc)) has
