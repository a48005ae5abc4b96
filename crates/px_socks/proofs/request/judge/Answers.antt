use Rattle.px_socks.proofs.RequestLemmas.{connects, refused_by_host, refused_by_port}
use Rattle.px_socks.proofs.request.judge.Goals as goal

pub returns-then-port-eq0 : goal.returns-then-port-eq0
returns-then-port-eq0 c = refused_by_port c.args.host.items c.args.port c.args.used c.if-port-eq0.true

pub returns-in-Ok : goal.returns-in-Ok
returns-in-Ok c =
    connects c.args.host.items c.in-Ok.host c.args.port c.args.used c.in-Ok.ensures.ok.0 c.in-Ok.ensures.ok.1 c.if-port-eq0.false

pub returns-in-Err-Malformed : goal.returns-in-Err-Malformed
returns-in-Err-Malformed c =
    refused_by_host c.args.host.items c.args.port c.args.used (rw c.in-Err-Malformed.field-0-is at c.in-Err-Malformed.ensures.refused).1
