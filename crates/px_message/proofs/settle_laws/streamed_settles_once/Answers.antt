use Rattle.px_message.proofs.FramingLemmas.{streamed-once}
use Rattle.px_message.proofs.settle_laws.streamed_settles_once.Goals as goal

pub returns : goal.returns
returns c = streamed-once
