use Rattle.std.proofs.Common.{Some, ap, map, string_bytes, ◌∙◌, sym}
use Rattle.toml.specs.Data.{as_array}
use Rattle.toml.specs.View.{view}
use Rattle.px_options.specs.Rules.{texts_of}
use Rattle.px_options.proofs.RuleLemmas.{listed, told_bad}
use Rattle.px_options.proofs.rules.read_rules.Goals as goal

pub returns-in-Ok-clause-ok : goal.returns-in-Ok-clause-ok
returns-in-Ok-clause-ok g c =
    listed c.args.key g.L.RuleList.reads (texts_of (as_array (view c.args.value.now))) (map string_bytes c.deref.result.now) _
    (c.in_ok-texts.ensures.ok ∙ ap (λ texts. Some (map string_bytes texts)) (sym c.deref.ensures.value)) c.in-Ok.ensures.ok

pub returns-clause-err : goal.returns-clause-err
returns-clause-err g c =
    told_bad c.args.key g.L.RuleList.reads (texts_of (as_array (view c.args.value.now))) (map string_bytes c.deref.result.now) (map string_bytes c.deref-in-Err.result.now) _ _ _
    (c.in_ok-texts.ensures.ok ∙ ap (λ texts. Some (map string_bytes texts)) (sym c.deref.ensures.value))
    (ap (λ texts. map string_bytes texts) (c.deref-in-Err.ensures.value ∙ sym c.deref.ensures.value))
    c.in-Err.ensures.err c.bad_rule.ensures.full c.bad_rule.ensures.bad
