use Rattle.std.proofs.Common.{◌∙◌, ap, refl}
use Rattle.px_core.specs.Drafts.{edited_at}
use Rattle.px_draft.specs.Edits.{changed}
use Rattle.px_core.proofs.waiting.Waiting.change_first.Goals as goal

pub returns-in-Ok-clause-changed : goal.returns-in-Ok-clause-changed
returns-in-Ok-clause-changed c = record {
  edited = c.in-Ok.edited;
  changes = ap (λ e. changed c.args.change.now (edited_at c.args.hook c.args.self.now.draft e)) c.requires.unchanged ∙ c.in-Ok.ensures.ok;
  now = refl;
}
