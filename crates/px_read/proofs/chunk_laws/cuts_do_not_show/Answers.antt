use Rattle.px_read.proofs.CutLemmas.{cuts_hidden}
use Rattle.px_read.proofs.chunk_laws.cuts_do_not_show.Goals as goal

pub returns : goal.returns
returns c = cuts_hidden
