use Rattle.px_message.proofs.FramingLemmas.{settled_streamed-framing}
use Rattle.px_message.proofs.settle_laws.streamed_is_framed_as_read.Goals as goal

pub returns : goal.returns
returns c = settled_streamed-framing
