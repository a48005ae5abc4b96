use Rattle.std.proofs.Common.{refl}
use Rattle.px_core.proofs.ResultLemmas.{on_ok_map}
use Rattle.px_core.proofs.held.Held.edit.Goals as goal

pub returns-clause-edits : goal.returns-clause-edits
returns-clause-edits g c =
    on_ok_map c.change.result
    (λ changes. record {
      kept = c.in-Some.draft;
      new_kept = c.change.new.self;
      was = c.in-Some.is;
      changes = changes;
      now = refl;
    })
    c.change.ensures.changed
