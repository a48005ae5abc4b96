use Rattle.std.proofs.Common.{ap, option_copied}
use Rattle.px_app.specs.Saved.{pieces_of, saves_to_of}
use Rattle.px_app.proofs.SavedLemmas.{saves_none}
use Rattle.px_app.proofs.printing.save.Goals as goal

pub returns-in-None-clause-saves : goal.returns-in-None-clause-saves
returns-in-None-clause-saves g c =
    saves_none (saves_to_of (option_copied c.args.saving)) c.args.flow _ (ap (λ saving. pieces_of (saves_to_of (option_copied saving)) c.args.flow) c.in-None.is)
