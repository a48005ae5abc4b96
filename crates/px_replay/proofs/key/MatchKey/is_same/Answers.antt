use Rattle.std.proofs.Common.{◌∙◌, sym}
use Rattle.px_replay.proofs.KeyLemmas.{in_order}
use Rattle.px_replay.proofs.key.MatchKey.is_same.Goals as goal

pub returns : goal.returns
returns c = c.eq.ensures ∙ sym (in_order c.args.self.now c.args.other.now)
