use Rattle.std.proofs.Common.{◌∙◌}
use Rattle.px_resend.specs.JoinedLaws.{due_of_client}
use Rattle.px_resend.proofs.replays.ReplaysLayerMakerConversation.make.Goals as goal

pub returns-clause-due : goal.returns-clause-due
returns-clause-due g c = λ moves. due_of_client g.L.Chained.chain g.L.Chained.start c.in_ok-make.field-0 moves ∙ c.in_ok-make.ensures.due moves
