use Rattle.px_flowfile.proofs.BackLemmas.{flow_comes_back}
use Rattle.px_flowfile.proofs.laws.written_is_loaded.Goals as goal

pub returns : goal.returns
returns c form f others loadable strange = flow_comes_back form f others loadable strange
