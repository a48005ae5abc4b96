use Rattle.std.proofs.Common.{◌++◌, ap, sym, ◌∙◌}
use Rattle.std.proofs.lemmas.List.{append-nil}
use Rattle.px_options.proofs.ShownLemmas.{filter_noted, filter_unnoted}
use Rattle.px_options.proofs.shown.push_filter.Goals as goal

pub returns-in-Ok-clause-ok : goal.returns-in-Ok-clause-ok
returns-in-Ok-clause-ok c =
    rw (filter_noted c.args.text.now c.args.cause.now c.in-Ok.ensures.cases.1, ← c.in-Ok.ensures.cases.0) c.show_refusal.ensures.ok

pub returns-in-Err-clause-ok : goal.returns-in-Err-clause-ok
returns-in-Err-clause-ok c =
    sym (ap (λ note. c.args.out.now.items ++ note) (filter_unnoted c.args.text.now c.args.cause.now c.in-Err.ensures.cases.0) ∙ append-nil c.args.out.now.items)
