use borrow.Author.Tests.{tests}
use Rattle.std.proofs.Common.{◌==◌, rules}
use Rattle.std.proofs.lemmas.Iterator.Consumers.{fold_from_yields_List}
use Rattle.std.proofs.lemmas.Iterator.Splits.{YieldsList-from_slice_split}
use Rattle.px_text.specs.Number.{decimal_value}
use Rattle.px_message.specs.Stated.{stated_with}
use Rattle.px_message.specs.Fields.{trim_blanks}
use Rattle.px_message.proofs.stated.Stated.after.Goals as goal

pub returns : goal.returns
returns c =
    fold_from_yields_List _ (λ stated part. stated_with stated (decimal_value (trim_blanks part))) _ _ c.fold.ensures.ran
    (YieldsList-from_slice_split _ (λ b. b == 44) c.args.value.now c.split.ensures.rest c.split.ensures.done
    c.split.ensures.closure (λ x r q k. search (rules, tests)))
    (λ a x b q k. search (rules, tests))
