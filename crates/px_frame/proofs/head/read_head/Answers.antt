use Rattle.std.proofs.Common.{length, subst, sym}
use Rattle.px_frame.specs.declared.head.HeadStep.{HeadStep}
use Rattle.px_frame.specs.HeadFits.{Fits}
use Rattle.px_frame.proofs.HeadLemmas.{fits_head}
use Rattle.px_frame.proofs.head.read_head.Goals as goal

pub returns-clause-fits : goal.returns-clause-fits
returns-clause-fits c =
    subst (λ (step : HeadStep). Fits c.args.begun (length c.args.bytes.now) step) (sym c.read_first.ensures)
    (fits_head c.args.masked c.args.begun c.args.last c.args.bytes.now)
