use Rattle.std.proofs.Common.{◌∙◌, Some, sym, ap}
use Rattle.px_draft.specs.Requests.{with_url}
use Rattle.px_draft.proofs.RequestLemmas.{url_is}
use Rattle.px_draft.proofs.messages.share_located.Goals as goal

pub returns-in-Ok-clause-ok : goal.returns-in-Ok-clause-ok
returns-in-Ok-clause-ok c =
    ap (λ r. with_url c.args.text.now r) (sym c.in_ok-changed.ensures)
    ∙ url_is c.in_ok-changed.changed c.set_url.new.self c.args.text.now c.in-Ok.ensures.ok.0 c.in-Ok.ensures.ok.1
    ∙ ap Some (sym c.in_ok-new-in-Ok.ensures)
