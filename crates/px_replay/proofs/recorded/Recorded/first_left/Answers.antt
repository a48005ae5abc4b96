use Rattle.std.proofs.Common.{◌∙◌, ap}
use Rattle.std.specs.List.{slice_get}
use Rattle.px_replay.proofs.LeftLemmas.{first_left}
use Rattle.px_replay.specs.Replaying.{may_answer}
use Rattle.px_replay.proofs.recorded.Recorded.first_left.Goals as goal

pub returns : goal.returns
returns c =
    c.copied.ensures ∙ c.first.ensures.value ∙ ap (λ l. slice_get l 0) c.left.ensures.left
    ∙ first_left (may_answer c.args.self.now.reuse c.args.key.now) c.args.self.now.recordings
