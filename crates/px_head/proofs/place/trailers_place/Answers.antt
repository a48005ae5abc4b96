use Rattle.std.proofs.Common.{ℕ, ◌∙◌, ◌≡◌, sym, subst, arith}
use Rattle.px_head.specs.Marks.{HasNoEnd}
use Rattle.px_head.proofs.SearchLemmas.{none_skipped}
use Rattle.px_head.proofs.place.trailers_place.Goals as goal

pub find_end-search-requires-clause-none : goal.find_end-search-requires-clause-none
find_end-search-requires-clause-none c =
    let none : c.line_end-width.result ≡ 0 = omega arith in
    subst (λ (n : ℕ). HasNoEnd c.args.bytes.now n c.args.marks.now.reached)
    (none_skipped c.args.bytes.now c.args.marks.now c.requires (sym c.line_end-width.ensures.value ∙ none)) c.requires.reached
