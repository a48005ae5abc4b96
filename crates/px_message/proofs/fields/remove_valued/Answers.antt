use borrow.Author.Tests.{tests}
use Rattle.std.proofs.Common.{not, rules}
use Rattle.px_message.specs.Fields.{is_valued}
use Rattle.px_message.proofs.ListLemmas.{filter_from_kept}
use Rattle.px_message.proofs.fields.remove_valued.Goals as goal

pub returns : goal.returns
returns c =
    let name = c.args.name.now in
    let value = c.args.value.now in
    filter_from_kept _ (λ f. not (is_valued name value f)) _ (λ x b q h. search (rules, tests)) _ _ c.retain.ensures.filtered
