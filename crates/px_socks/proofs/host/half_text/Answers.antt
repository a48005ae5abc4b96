use Rattle.std.proofs.Common.{◌∙◌}
use Rattle.px_socks.specs.Request.{four_text}
use Rattle.px_socks.proofs.host.half_text.Goals as goal

pub returns : goal.returns
returns c =
    c.in_ok-text.ensures
    ∙ (λ i. four_text (c.group-a.ensures i) (c.group-b.ensures i) (c.group-c.ensures i) (c.group-d.ensures i))
