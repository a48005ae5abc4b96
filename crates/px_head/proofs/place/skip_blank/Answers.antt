use Rattle.std.proofs.Common.{ℕ, List, ◌∙◌, ◌≤◌, sym, subst, ap, drop, length, length-drop, arith}
use Rattle.px_head.specs.Front.{line_end}
use Rattle.px_head.proofs.LineLemmas.{blank_lines_none, skip_step, rest_slice}
use Rattle.px_head.proofs.place.skip_blank.Goals as goal

pub returns-then-width-eq0-clause-value : goal.returns-then-width-eq0-clause-value
returns-then-width-eq0-clause-value c =
    let width = c.line_end-width.ensures.value ∙ ap line_end (rest_slice c.args.bytes.now c.loop-at.at) in
    let none = blank_lines_none (drop c.loop-at.at c.args.bytes.now) (sym width ∙ c.if-width-eq0.true) in
    let so_far = c.loop-at.invariant.1 in
    omega arith

pub loop-at-preserved : goal.loop-at-preserved
loop-at-preserved c =
    let fits = c.loop-at.invariant.0 in
    let width = c.line_end-width.ensures.value ∙ ap line_end (rest_slice c.args.bytes.now c.loop-at.at) in
    let step = skip_step c.args.bytes.now c.loop-at.at c.line_end-width.result fits width (omega arith) in
    let short = subst (λ (l : List ℕ). c.line_end-width.result ≤ length l) (rest_slice c.args.bytes.now c.loop-at.at)
    c.line_end-width.ensures.within in
    let size = length-drop c.loop-at.at c.args.bytes.now in
    (omega arith, step ∙ c.loop-at.invariant.1)
