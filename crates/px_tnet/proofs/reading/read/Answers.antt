use Rattle.px_tnet.proofs.ExactLemmas.{exact_read, exact_refused}
use Rattle.px_tnet.proofs.reading.read.Goals as goal

pub returns-clause-read : goal.returns-clause-read
returns-clause-read c = exact_read c.args.bytes.now c.read_front.result c.read_front.ensures.ok c.read_front.ensures.err

pub returns-clause-refused : goal.returns-clause-refused
returns-clause-refused c = exact_refused c.args.bytes.now c.read_front.result c.read_front.ensures.ok c.read_front.ensures.err
