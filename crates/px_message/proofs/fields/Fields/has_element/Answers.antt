use borrow.Author.Tests.{tests}
use Rattle.std.proofs.Common.{◌∙◌, rules, sym}
use Rattle.std.proofs.lemmas.Iterator.Consumers.{YieldsList-from_first}
use Rattle.std.proofs.lemmas.Iterator.Search.{any_from_yields_List}
use Rattle.std.specs.List.{list_any}
use Rattle.px_message.specs.Fields.{elements, is_same_name, values_of}
use Rattle.px_message.proofs.ListLemmas.{list_any-flat_map}
use Rattle.px_message.proofs.fields.Fields.has_element.Goals as goal

pub returns : goal.returns
returns c =
    any_from_yields_List (λ value. list_any (λ e. is_same_name e c.args.element.now) (elements value)) _ _ _ c.any.ensures.ran
    (YieldsList-from_first (λ x. x.now) (λ s. s) (values_of c.args.name.now c.args.self.now) c.get_all.ensures)
    (λ x b q k. search (rules, tests))
    ∙ sym (list_any-flat_map (λ e. is_same_name e c.args.element.now) elements (values_of c.args.name.now c.args.self.now))
