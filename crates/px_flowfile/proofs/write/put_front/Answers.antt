use Rattle.std.proofs.Common.{◌∙◌}
use Rattle.px_flowfile.proofs.write.put_front.Goals as goal

pub returns : goal.returns
returns c more =
    c.in_ok-put_end-2.ensures more
    ∙ c.in_ok-put_end.ensures _
    ∙ c.in_ok-put_id.ensures _
    ∙ c.in_ok-put_text.ensures _
    ∙ c.in_ok-put_number.ensures _
