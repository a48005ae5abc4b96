use Rattle.px_replay.proofs.KeyLemmas.{key_decides}
use Rattle.px_replay.proofs.laws.keys_are_compared_whole.Goals as goal

pub returns : goal.returns
returns c a b = key_decides a b
