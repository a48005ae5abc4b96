use Rattle.std.proofs.Common.{◌≡◌, ◌∙◌, refl, subst, rules, true, Some}
use Rattle.px_wire.specs.declared.endpoint.Endpoint.{Endpoint}
use Rattle.px_wire.specs.Holds.{Changes}
use Rattle.px_wire.proofs.HoldsLemmas.{changes_of}
use Rattle.px_wire.proofs.say.set_closing_in.Goals as goal

pub returns : goal.returns
returns c = record {
  changes = λ endpoint at.
      let seen = c.in-Some.endpoint.now in
      let new = record seen { is_closing = true } in
      let mid = record c.args.endpoints.now { by_slot = c.get_mut.follows.lender new } in
      let e : Some seen ≡ Some endpoint = c.in-Some.ensures.value ∙ at in
      let same : seen ≡ endpoint = cc in
      let P : Endpoint → Type 0 = λ l. Changes c.args.endpoints.now c.mark.new.self c.args.slot l (record l { is_closing = true }) in
      subst P same (changes_of c.args.endpoints.now mid c.mark.new.self c.args.slot seen.conv seen new refl ((c.get_mut.follows.holds new).3 (search rules))
      c.mark.ensures.rest refl c.mark.ensures.marked c.mark.ensures.kept c.mark.ensures.only c.mark.ensures.once);
}
