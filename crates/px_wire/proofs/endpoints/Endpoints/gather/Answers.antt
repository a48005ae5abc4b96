use Rattle.std.proofs.Common.{◌≡◌, ◌∙◌, ap, sym, subst, List, ℕ}
use Rattle.px_wire.specs.Holds.{IsIn, items_in, slots_at}
use Rattle.px_wire.proofs.endpoints.Endpoints.gather.Goals as goal

pub returns-in-Some-clause-looked : goal.returns-in-Some-clause-looked
returns-in-Some-clause-looked c = λ is slot there.
    let same : c.deref.result.now ≡ slots_at c.args.self.now c.args.conv = c.deref.ensures.value ∙ ap items_in c.in-Some.ensures.value in
    let P : List ℕ → Type 0 = λ ls. IsIn slot ls in
    c.gather_all.ensures.looked is slot (subst P (sym same) there)
