use Rattle.px_replay.proofs.KeyLemmas.{agreeing_keys, keys_agree}
use Rattle.px_replay.proofs.laws.equal_keys_agree_in_what_counts.Goals as goal

pub returns : goal.returns
returns c how a b = (keys_agree how a b, agreeing_keys how a b)
