use Rattle.std.proofs.Common.{◌∙◌, ap, true}
use Rattle.px_read.specs.Reader.{State}
use Rattle.px_read.proofs.ReaderLemmas.{reads-closed, seen-closed}
use Rattle.px_read.proofs.message_reader.MessageReader.close.Goals as goal

pub returns-clause-reads : goal.returns-clause-reads
returns-clause-reads c message told fed closed =
    reads-closed message told fed closed c.args.self.now _
    (seen-closed c.self.inside.stage c.self.inside.rest c.self.inside.closed
    ∙ ap (λ (s : State). record s { closed = true }) c.self.view_is)
