use Rattle.std.proofs.Common.{ap, false}
use Rattle.px_head.specs.Reader.{Reader}
use Rattle.px_read.specs.Reader.{at_head, request}
use Rattle.px_read.specs.Stages.{state_at}
use Rattle.px_read.proofs.ReaderLemmas.{reads-begun}
use Rattle.px_read.proofs.message_reader.MessageReader.request.Goals as goal

pub returns-clause-reads : goal.returns-clause-reads
returns-clause-reads c = reads-begun request _ (ap (λ (r : Reader). state_at (at_head request) r.rest false) c.new.ensures)
