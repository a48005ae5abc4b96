use Rattle.px_tnet.proofs.SpellLemmas.{read_written}
use Rattle.px_tnet.specs.Items.{most_deep}
use Rattle.px_flowfile.specs.FlowTable.{tree_by}
use Rattle.px_flowfile.proofs.BackLemmas.{flow_comes_back}
use Rattle.px_flowfile.proofs.SoundTables.{flow_sound}
use Rattle.px_flowfile.proofs.laws.written_flow_is_read.Goals as goal

pub returns : goal.returns
returns c form f others rest loadable are short = (
  read_written most_deep (tree_by form f others) (flow_sound form f others loadable are short) rest,
  flow_comes_back form f others loadable are.unknown,
)
