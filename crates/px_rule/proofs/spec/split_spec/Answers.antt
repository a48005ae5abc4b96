use Rattle.std.proofs.Common.{◌++◌, ap, ◌∙◌, sym, subst, ◌<◌}
use Rattle.std.specs.Char.{encode_utf8}
use Rattle.px_rule.proofs.SpecLemmas as lemmas
use Rattle.px_rule.proofs.spec.split_spec.Goals as goal

pub returns-then-len-most-clause-refused : goal.returns-then-len-most-clause-refused
returns-then-len-most-clause-refused c =
    let few : c.len-then-len-most.result < c.args.most = subst (λ n. n < c.args.most) (c.len.ensures ∙ sym c.len-then-len-most.ensures) c.if-len-most.true in
    lemmas.few_parts c.args.most c.in-Some.separator _ c.args.text.now c.as_str.result.now _ c.utf8.text (sym c.chars-rest.ensures.rest ∙ c.in-Some.ensures.steps.0 ∙ ap (λ t. encode_utf8 c.in-Some.separator ++ t) (sym c.as_str.ensures)) c.split_at.ensures c.len-then-len-most.ensures few

pub returns-clause-parts : goal.returns-clause-parts
returns-clause-parts c =
    lemmas.enough_parts c.args.most c.in-Some.separator _ c.args.text.now c.as_str.result.now _ c.utf8.text (sym c.chars-rest.ensures.rest ∙ c.in-Some.ensures.steps.0 ∙ ap (λ t. encode_utf8 c.in-Some.separator ++ t) (sym c.as_str.ensures)) c.split_at.ensures c.len.ensures c.if-len-most.false
