use Rattle.std.proofs.Common.{◌∙◌, refl, sym, ap, inr}
use Rattle.px_draft.specs.Requests.{with_method}
use Rattle.px_draft.proofs.RequestLemmas.{method_is, no_method}
use Rattle.px_draft.proofs.messages.named.Goals as goal

pub returns-in-Ok-clause-ok : goal.returns-in-Ok-clause-ok
returns-in-Ok-clause-ok c =
    ap (with_method c.args.name) (sym c.in_ok-changed.ensures)
    ∙ method_is c.in_ok-changed.changed c.set_method.new.self c.args.name c.in-Ok.ensures.set.0 c.in-Ok.ensures.set.1

pub returns-in-Err-clause-refused : goal.returns-in-Err-clause-refused
returns-in-Err-clause-refused c = inr (refl, no_method c.args.request.now c.args.name c.in-Err.ensures.refused.1)
