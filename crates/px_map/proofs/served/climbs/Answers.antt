use borrow.Author.Tests.{tests}
use Rattle.std.proofs.Common.{◌==◌, bytes_eq, codes, rules}
use Rattle.std.proofs.lemmas.Iterator.Search.{any_from_yields_List}
use Rattle.std.proofs.lemmas.Iterator.Splits.{YieldsList-from_slice_split}
use Rattle.px_map.proofs.served.climbs.Goals as goal

pub returns : goal.returns
returns c =
    any_from_yields_List (λ segment. bytes_eq segment (codes ".."))
    _ _ _ c.any.ensures.ran
    (YieldsList-from_slice_split _ (λ b. b == 47) c.args.text.now c.split.ensures.rest c.split.ensures.done
    c.split.ensures.closure (λ x r q k. search (rules, tests)))
    (λ x b q k. search (rules, tests))
