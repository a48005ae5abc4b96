use Rattle.px_flowfile.proofs.PlainLemmas.{fields_good}
use Rattle.px_flowfile.proofs.plain.is_valid_request.Goals as goal

pub returns : goal.returns
returns c = record {
  fields = fields_good _ c.fields_are_valid.ensures;
  trailers = fields_good _ c.fields_are_valid-2.ensures;
  host = c.bytes-host.ensures.valid;
  port = (c.args.request.now.port_not_zero, c.fits.ensures);
  method = (c.bytes-method.ensures.token, c.args.request.now.not_connect);
  path = c.bytes-path.ensures.valid;
}
