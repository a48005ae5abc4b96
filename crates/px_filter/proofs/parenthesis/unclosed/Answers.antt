use Rattle.std.proofs.Common.{◌≡◌, ◌+◌, ℕ, ap, sym, ◌∙◌, drop, subst, ◌≤◌}
use Rattle.px_filter.specs.Parsing.{pending, after}
use Rattle.px_filter.proofs.ListLemmas.{drop_item}
use Rattle.px_filter.proofs.ParenthesisLemmas.{pending_after, after_depth}
use Rattle.px_filter.proofs.parenthesis.unclosed.Goals as goal

pub loop-token-preserved : goal.loop-token-preserved
loop-token-preserved c =
    let l = c.loop-token in
    let e = c.token-item.result in
    let ts = c.args.tokens.now in
    let behind = drop (l.token-index + 1) ts in
    let due = after e.token e.place l.depth l.outermost in
    let told : (c.after.result.0, c.after.result.1) ≡ due = c.after.ensures in
    let deep : due.0 ≤ l.token-index + 1 = after_depth e.token e.place l.depth l.outermost l.token-index l.invariant.0 in (
      subst (λ (p : ℕ × ℕ). p.0 ≤ l.token-index + 1) (sym told) deep,
      ap (λ (p : ℕ × ℕ). pending p.0 p.1 behind) told
          ∙ pending_after e.token e.place behind l.depth l.outermost
          ∙ ap (pending l.depth l.outermost) (sym (drop_item ts l.token-index e c.loop-token-test.true c.token-item.is))
          ∙ l.invariant.1,
    )
