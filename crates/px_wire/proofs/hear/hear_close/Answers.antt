use Rattle.std.proofs.Common.{◌≡◌, ◌∙◌, ap, Some, None}
use Rattle.px_event.specs.declared.heard.Heard.TheVariants as heard
use Rattle.px_wire.specs.declared.endpoint.Endpoint.{Endpoint}
use Rattle.px_wire.proofs.FindLemmas.{endpoint_of}
use Rattle.px_wire.proofs.hear.hear_close.Goals as goal

pub returns-clause-stands : goal.returns-clause-stands
returns-clause-stands g c = λ front back endpoint at over stands.
    let e : Some c.in-Some.endpoint.now ≡ Some endpoint = c.in-Some.ensures.is ∙ endpoint_of c.args.table.now.endpoints c.args.slot front endpoint back at in
    let same : c.in-Some.endpoint.now ≡ endpoint = cc in
    c.shut_at.ensures.stands None front back endpoint at
    (c.in_ok-told.ensures.closed front back endpoint c.args.table.now.accepted
    (ap (λ (l : Endpoint). heard.Closed l.conv l.side) same) over stands)

pub returns-clause-kept : goal.returns-clause-kept
returns-clause-kept g c = λ past times since. c.shut_at.ensures.kept past times (c.in_ok-told.ensures.kept past times since)
