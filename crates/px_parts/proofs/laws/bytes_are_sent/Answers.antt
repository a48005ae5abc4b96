use Rattle.px_parts.proofs.TextLemmas.{bytes-sent}
use Rattle.px_parts.proofs.laws.bytes_are_sent.Goals as goal

pub returns : goal.returns
returns c = bytes-sent
