use Rattle.px_tnet.specs.Items.{most_deep}
use Rattle.px_tnet.proofs.SpellLemmas.{read_written}
use Rattle.px_tnet.proofs.laws.written_is_read.Goals as goal

pub returns : goal.returns
returns c tree rest sound = read_written most_deep tree sound rest
