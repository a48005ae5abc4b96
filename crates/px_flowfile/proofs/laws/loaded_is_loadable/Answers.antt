use Rattle.px_flowfile.proofs.LoadedLemmas.{loaded_good}
use Rattle.px_flowfile.proofs.laws.loaded_is_loadable.Goals as goal

pub returns : goal.returns
returns c = loaded_good
