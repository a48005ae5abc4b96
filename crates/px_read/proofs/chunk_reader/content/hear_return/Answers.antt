use Rattle.px_read.proofs.TurnLemmas.{cr_refused, cr_taken}
use Rattle.px_read.proofs.chunk_reader.content.hear_return.Goals as goal

pub returns-then-bytes-ne13 : goal.returns-then-bytes-ne13
returns-then-bytes-ne13 c = cr_refused c.args.bytes.now c.requires c.if-bytes-ne13.true

pub returns : goal.returns
returns c = cr_taken c.args.bytes.now c.requires c.if-bytes-ne13.false
