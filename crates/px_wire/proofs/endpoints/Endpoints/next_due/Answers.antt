use Rattle.std.proofs.Common.{◌≡◌, ◌∙◌, ap, subst, Ok, ℕ}
use Rattle.px_wire.specs.Holds.{IsOverBy, endpoint_at}
use Rattle.px_wire.proofs.endpoints.Endpoints.next_due.Goals as goal

pub returns-in-Some-clause-over : goal.returns-in-Some-clause-over
returns-in-Some-clause-over c = λ slot is.
    let same : c.in-Some.slot ≡ slot = cc in
    let P : ℕ → Type 0 = λ n. IsOverBy (λ s. endpoint_at c.settle.new.self s) n in
    subst P same (c.settle.ensures.over c.in-Some.slot (c.in_ok-slot.was ∙ ap Ok c.in-Some.is))
