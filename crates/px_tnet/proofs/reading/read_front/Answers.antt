use Rattle.std.proofs.Common.{◌≡◌, ◌⊎◌, List, ℕ, subst}
use Rattle.px_tnet.specs.Items.{IsRefused, most_deep}
use Rattle.px_tnet.specs.declared.error.TnetError.TheVariants as error
use Rattle.px_tnet.proofs.reading.read_front.Goals as goal

pub returns-clause-err : goal.returns-clause-err
returns-clause-err c =
    let P : List ℕ → Type 0 = λ text. (c.in-Err.cause ≡ error.NoMemory) ⊎ IsRefused most_deep text c.in-Err.cause in
    subst P c.in_ok-rest.ensures c.in-Err.ensures.err
