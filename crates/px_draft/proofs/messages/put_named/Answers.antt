use Rattle.std.proofs.Common.{◌∙◌, sym, ap}
use Rattle.px_draft.specs.Edits.{request_by}
use Rattle.px_draft.specs.Requests.{with_method}
use Rattle.px_draft.proofs.messages.put_named.Goals as goal

pub returns-clause-put : goal.returns-clause-put
returns-clause-put c =
    ap (λ r. request_by c.args.flow.now (with_method c.args.name r)) (sym c.get.ensures)
    ∙ ap (request_by c.args.flow.now) c.in_ok-request.ensures.ok
