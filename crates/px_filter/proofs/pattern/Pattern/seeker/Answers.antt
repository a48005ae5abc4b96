use Rattle.std.proofs.Common.{sym, subst}
use Rattle.px_filter.specs.Pattern.{Seeks}
use Rattle.px_filter.proofs.PatternLemmas.{seeks}
use Rattle.px_filter.proofs.pattern.Pattern.seeker.Goals as goal

pub invariant_of-result : goal.invariant_of-result
invariant_of-result c =
    let i = c.self.invariant in
    let own = seeks _ _ _ _ i.0 i.2 i.1 in
    let by_word = subst (Seeks _) (sym c.as_str.ensures) own in
    subst (λ re. Seeks re c.as_str.result.now) (sym c.in_ok-matcher.ensures.pattern) by_word
