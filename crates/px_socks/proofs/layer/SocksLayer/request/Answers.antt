use Rattle.std.proofs.Common.{◌∙◌, sym, ap}
use Rattle.std.proofs.lemmas.Result.{on_ok_weaker}
use Rattle.px_socks.specs.Request.{heard, request_of}
use Rattle.px_socks.proofs.LayerLemmas.{request_asks}
use Rattle.px_socks.proofs.RequestLemmas.{requests_within}
use Rattle.px_socks.proofs.layer.SocksLayer.request.Goals as goal

pub advance-requires : goal.advance-requires
advance-requires c =
    requests_within c.args.self.now.unread c.in-Connect.address.host c.in-Connect.address.port c.in-Connect.used
    (ap request_of (sym c.as_slice.ensures) ∙ (sym c.in_ok-read_request.ensures ∙ ap heard c.in-Connect.is))

pub returns-in-Connect : goal.returns-in-Connect
returns-in-Connect c =
    let reads = ap request_of (sym c.as_slice.ensures) ∙ (sym c.in_ok-read_request.ensures ∙ ap heard c.in-Connect.is) in
    record {
      advances = on_ok_weaker c.dial.result
          (request_asks c.args.self.now (record c.args.self.now { unread = c.advance.new.self }) c.dial.new.self c.in-Connect.address c.in-Connect.used
          c.args.out.now.items c.dial.new.out.items c.requires.requesting
          (requests_within c.args.self.now.unread c.in-Connect.address.host c.in-Connect.address.port c.in-Connect.used reads) reads c.advance.ensures)
          c.dial.ensures.asks;
    }
