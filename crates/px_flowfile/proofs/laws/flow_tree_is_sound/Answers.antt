use Rattle.px_flowfile.proofs.SoundTables.{flow_sound}
use Rattle.px_flowfile.proofs.laws.flow_tree_is_sound.Goals as goal

pub returns : goal.returns
returns c = flow_sound
