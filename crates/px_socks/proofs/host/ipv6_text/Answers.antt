use Rattle.std.proofs.Common.{◌∙◌, List, ℕ, ap₂}
use Rattle.px_socks.specs.Request.{in_brackets}
use Rattle.px_socks.proofs.host.ipv6_text.Goals as goal

pub returns : goal.returns
returns c =
    c.in_ok-text.ensures ∙ ap₂ (λ (first second : List ℕ). in_brackets first second) c.in_ok-first.ensures c.in_ok-second.ensures
