use borrow.Author.Tests.{tests}
use Rattle.std.proofs.Common.{◌∙◌, ◌&&◌, ◌==◌, length, not, rules, sym}
use Rattle.std.proofs.lemmas.Iterator.Search.{any_from_yields_List}
use Rattle.std.proofs.lemmas.Iterator.Splits.{YieldsList-from_slice_split}
use Rattle.std.specs.List.{slice_split}
use Rattle.px_message.specs.Fields.{is_same_name, trim_blanks}
use Rattle.px_message.proofs.ListLemmas.{list_any-filter_map}
use Rattle.px_message.proofs.elements.is_among_elements.Goals as goal

pub returns : goal.returns
returns c =
    any_from_yields_List
    (λ part. not (length (trim_blanks part) == 0) && is_same_name (trim_blanks part) c.args.element.now)
    _ _ _ c.any.ensures.ran
    (YieldsList-from_slice_split _ (λ b. b == 44) c.args.value.now c.split.ensures.rest c.split.ensures.done
    c.split.ensures.closure (λ x r q k. search (rules, tests)))
    (λ x b q k. search (rules, tests))
    ∙ sym (list_any-filter_map (λ e. is_same_name e c.args.element.now) (λ part. not (length part == 0)) trim_blanks
    (slice_split (λ b. b == 44) c.args.value.now))
