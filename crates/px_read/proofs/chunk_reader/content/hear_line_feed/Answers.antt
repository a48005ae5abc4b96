use Rattle.px_read.proofs.TurnLemmas.{lf_refused, lf_taken}
use Rattle.px_read.proofs.chunk_reader.content.hear_line_feed.Goals as goal

pub returns-then-bytes-ne10 : goal.returns-then-bytes-ne10
returns-then-bytes-ne10 c = lf_refused c.args.bytes.now c.requires c.if-bytes-ne10.true

pub returns : goal.returns
returns c = lf_taken c.args.bytes.now c.requires c.if-bytes-ne10.false
