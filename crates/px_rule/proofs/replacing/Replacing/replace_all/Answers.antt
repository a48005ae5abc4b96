use Rattle.std.proofs.Common.{◌≡◌, ℕ, List, subst}
use Rattle.px_rule.specs.Pattern.{replaced_all}
use Rattle.px_rule.proofs.PatternLemmas as lemmas
use Rattle.px_rule.proofs.replacing.Replacing.replace_all.Goals as goal

pub returns : goal.returns
returns c =
    let out = c.in_ok-replace_all.ensures.written.read _ _ c.in_ok-template.ensures.read in
    let by_text = lemmas.replaced_by_text c.self.inside.pattern c.args.bytes.now c.self.inside.template _ (λ k. (c.type_inv.bytes k).fits)
    c.self.invariant.0 c.self.invariant.1
    (rw (c.capture_names-names.ensures, c.as_slice.ensures, c.in_ok-matcher.ensures.pattern) at out) in
    subst (λ (v : List ℕ × List ℕ). c.in_ok-replace_all.field-0.items ≡ replaced_all v.0 v.1 c.args.bytes.now) c.self.view_is by_text
