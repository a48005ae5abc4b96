use Rattle.px_flowfile.proofs.PlainLemmas.{fields_good}
use Rattle.px_flowfile.proofs.plain.is_valid_response.Goals as goal

pub returns : goal.returns
returns c = record {
  status = c.code-status.ensures.valid;
  reason = c.bytes-reason.ensures.valid;
  fields = fields_good _ c.fields_are_valid.ensures;
  trailers = fields_good _ c.fields_are_valid-2.ensures;
}
