use Rattle.std.proofs.Common.{ap, false}
use Rattle.px_head.specs.Reader.{Reader}
use Rattle.px_read.specs.Reader.{at_head, response}
use Rattle.px_read.specs.Stages.{state_at}
use Rattle.px_read.proofs.ReaderLemmas.{reads-begun}
use Rattle.px_read.proofs.message_reader.MessageReader.response.Goals as goal

pub returns-clause-reads : goal.returns-clause-reads
returns-clause-reads c = reads-begun (response c.args.asked_head) _ (ap (λ (r : Reader). state_at (at_head (response c.args.asked_head)) r.rest false) c.new.ensures)
