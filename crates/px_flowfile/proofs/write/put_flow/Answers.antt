use Rattle.std.proofs.Common.{◌∙◌}
use Rattle.px_flowfile.proofs.write.put_flow.Goals as goal

pub returns : goal.returns
returns c more =
    c.in_ok-put_marks.ensures more
    ∙ c.in_ok-put_messages.ensures _
    ∙ c.in_ok-put_front.ensures _
