use Rattle.std.proofs.Common.{◌∙◌}
use Rattle.px_relay.proofs.TextLemmas.{utf8_by}
use Rattle.px_relay.proofs.gathered.is_utf8.Goals as goal

pub returns : goal.returns
returns c = c.is_ok.ensures.value ∙ utf8_by c.from_utf8.result c.args.bytes.now _ _ c.from_utf8.ensures.cases
