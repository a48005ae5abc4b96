use Rattle.px_message.proofs.FramingLemmas.{streamed-stays}
use Rattle.px_message.proofs.settle_laws.streamed_stays.Goals as goal

pub returns : goal.returns
returns c = streamed-stays
