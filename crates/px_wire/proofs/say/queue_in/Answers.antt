use Rattle.std.proofs.Common.{◌≡◌, ◌∙◌, ◌++◌, refl, subst, rules, Some}
use Rattle.px_wire.specs.declared.endpoint.Endpoint.{Endpoint}
use Rattle.px_wire.specs.Holds.{Changes}
use Rattle.px_wire.proofs.HoldsLemmas.{changes_of}
use Rattle.px_wire.proofs.say.queue_in.Goals as goal

pub returns-clause-changes : goal.returns-clause-changes
returns-clause-changes g c = λ endpoint at.
    let seen = c.in-Some.endpoint.now in
    let new = c.queue_and_note.new.endpoint in
    let mid = record c.args.endpoints.now { by_slot = c.get_mut.follows.lender new } in
    let e : Some seen ≡ Some endpoint = c.in-Some.ensures.value ∙ at in
    let same : seen ≡ endpoint = cc in
    let N : Endpoint → Type 0 = λ l. Changes c.args.endpoints.now c.mark.new.self c.args.slot seen l in
    let P : Endpoint → Type 0 = λ l. Changes c.args.endpoints.now c.mark.new.self c.args.slot l (record l { queue = l.queue ++ c.args.bytes.now }) in
    subst P same
    (subst N c.in_ok-queue_and_note.ensures.ok (changes_of c.args.endpoints.now mid c.mark.new.self c.args.slot seen.conv seen new refl ((c.get_mut.follows.holds new).3 (search rules))
    c.mark.ensures.rest refl c.mark.ensures.marked c.mark.ensures.kept c.mark.ensures.only c.mark.ensures.once))
