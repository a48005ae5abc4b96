use Rattle.std.proofs.Common.{inl, inr}
use Rattle.toml.specs.View.{table_view}
use Rattle.px_options.proofs.GatherLemmas.{if_err_as}
use Rattle.px_options.proofs.options.read_options.Goals as goal

pub returns-clause-err : goal.returns-clause-err
returns-clause-err c =
    if_err_as c.options_of.result
    (λ e said. elim said [ inl full ↦ inl full | inr bad ↦ inr (inr (table_view c.in_ok-table.table, c.in_ok-table.ensures.ok.0, c.in_ok-table.ensures.ok.1, bad)) ])
    c.options_of.ensures.err
