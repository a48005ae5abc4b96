use borrow.Author.Tests.{tests}
use Rattle.std.proofs.Common.{not, rules}
use Rattle.px_message.specs.Fields.{is_named}
use Rattle.px_message.proofs.ListLemmas.{filter_from_kept}
use Rattle.px_message.proofs.fields.remove_named.Goals as goal

pub returns : goal.returns
returns c =
    let name = c.args.name.now in
    filter_from_kept _ (λ f. not (is_named name f)) _ (λ x b q h. search (rules, tests)) _ _ c.retain.ensures.filtered
