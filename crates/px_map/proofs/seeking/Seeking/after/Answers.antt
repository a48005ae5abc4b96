use Rattle.std.proofs.Common.{◌∙◌, ◌-◌, ◌≤◌, ap, Some, List, ℕ, length, drop, option_map, take_all, length-drop, arith}
use Rattle.regex.specs.Patterns.{Re, find, span}
use Rattle.px_map.specs.Found.{after_match}
use Rattle.px_map.proofs.SeekingLemmas.{behind, found_by_text}
use Rattle.px_map.proofs.seeking.Seeking.after.Goals as goal

pub returns-in-None : goal.returns-in-None
returns-in-None c =
    let text = c.args.text.now in
    ap (behind text) c.in-None.ensures.found
    ∙ ap (λ (re : Re). behind text (option_map span (find re text 0))) c.in_ok-matcher.ensures.pattern
    ∙ found_by_text c.self.inside.pattern text (λ k. (c.type_inv.text k).fits) c.self.invariant.0 c.self.invariant.1
    ∙ ap (λ (s : List ℕ). after_match s text) c.self.view_is

pub returns : goal.returns
returns c =
    let text = c.args.text.now in
    let whole : length (drop c.end.result text) ≤ length text - c.end.result = omega (arith, length-drop c.end.result text) in
    ap Some (take_all (length text - c.end.result) (drop c.end.result text) whole ∙ ap (λ (n : ℕ). drop n text) c.end.ensures)
    ∙ ap (behind text) c.in-Some.ensures.found
    ∙ ap (λ (re : Re). behind text (option_map span (find re text 0))) c.in_ok-matcher.ensures.pattern
    ∙ found_by_text c.self.inside.pattern text (λ k. (c.type_inv.text k).fits) c.self.invariant.0 c.self.invariant.1
    ∙ ap (λ (s : List ℕ). after_match s text) c.self.view_is
