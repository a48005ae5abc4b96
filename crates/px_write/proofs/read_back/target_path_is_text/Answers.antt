use Rattle.px_write.proofs.TargetPathLemmas.{target_path-text}
use Rattle.px_write.proofs.read_back.target_path_is_text.Goals as goal

pub returns : goal.returns
returns c = target_path-text
