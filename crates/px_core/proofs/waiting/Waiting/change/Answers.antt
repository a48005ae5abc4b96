use Rattle.std.proofs.Common.{◌∙◌, ap, refl}
use Rattle.px_core.specs.Drafts.{edited_at}
use Rattle.px_core.proofs.ResultLemmas.{on_ok_map}
use Rattle.px_draft.specs.Edits.{changed}
use Rattle.px_core.proofs.waiting.Waiting.change.Goals as goal

pub returns-in-Some-clause-changed : goal.returns-in-Some-clause-changed
returns-in-Some-clause-changed c =
    on_ok_map c.change.result
    (λ so. record {
      edited = c.change.new.self;
      changes = ap (λ e. changed c.args.change.now (edited_at c.args.hook c.args.self.now.draft e)) c.in-Some.is ∙ so;
      now = refl;
    })
    c.change.ensures.ok
