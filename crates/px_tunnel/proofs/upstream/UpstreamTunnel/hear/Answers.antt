use Rattle.px_tunnel.proofs.UpstreamLemmas.{leaves_rest}
use Rattle.px_tunnel.proofs.upstream.UpstreamTunnel.hear.Goals as goal

pub returns-clause-granted : goal.returns-clause-granted
returns-clause-granted c = λ text heard used is.
    leaves_rest text c.args.bytes.now c.args.self.now.reader c.feed_shared.new.self c.take_response.new.self heard.unfailed heard.rest
    c.in_ok-feed_shared.ensures.ok c.in_ok-found.ensures.state used is
