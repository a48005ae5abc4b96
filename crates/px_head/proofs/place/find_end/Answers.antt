use Rattle.std.proofs.Common.{◌∙◌, ap, max}
use Rattle.px_head.proofs.EndLemmas.{blank_end-from}
use Rattle.px_head.proofs.place.find_end.Goals as goal

pub returns-clause-end : goal.returns-clause-end
returns-clause-end c =
    c.search_from.ensures.end ∙ blank_end-from _ c.args.start c.args.reached _ c.requires.start c.requires.within c.requires.none (c.max-from.ensures ∙ ap (λ n. max c.args.start n) c.saturating_sub.ensures)
