use Rattle.std.proofs.Common.{◌≡◌, ◌∙◌, ap, refl, subst, rules, Some, nat_eq}
use Rattle.std.specs.Map.{set_value}
use Rattle.px_wire.specs.declared.endpoint.Endpoint.{Endpoint}
use Rattle.px_wire.specs.declared.endpoints.Endpoints.{Endpoints}
use Rattle.px_wire.specs.Calls.{Tells, got_call}
use Rattle.px_wire.specs.Holds.{Changes}
use Rattle.px_wire.specs.Endpoints.{after_get}
use Rattle.px_wire.proofs.AskedLemmas.{told_kept}
use Rattle.px_wire.proofs.HoldsLemmas.{changes_of}
use Rattle.px_wire.proofs.hear.read_in.Goals as goal

pub returns-clause-reads : goal.returns-clause-reads
returns-clause-reads g c = λ endpoint at.
    let seen = c.in-Some.endpoint.now in
    let got = c.read_endpoint-got.result in
    let new = c.read_endpoint-got.new.endpoint in
    let mid = record c.args.endpoints.now { by_slot = c.get_mut.follows.lender new } in
    let e : Some seen ≡ Some endpoint = c.in-Some.ensures.value ∙ at in
    let same : seen ≡ endpoint = cc in
    let N : Endpoint → Type 0 = λ l. Changes c.args.endpoints.now c.mark.new.self c.args.slot seen l in
    let P : Endpoint → Type 0 = λ l. Changes c.args.endpoints.now c.mark.new.self c.args.slot l (after_get l got)
    × Tells (got_call l.slot c.read_endpoint-got.new.room got) (g.W.Wire.calls c.args.wire.now) (g.W.Wire.calls c.read_endpoint-got.new.wire) in
    subst P same (
      subst N c.read_endpoint-got.ensures.endpoint (changes_of c.args.endpoints.now mid c.mark.new.self c.args.slot seen.conv seen new refl ((c.get_mut.follows.holds new).3 (search rules))
          c.mark.ensures.rest refl c.mark.ensures.marked c.mark.ensures.kept c.mark.ensures.only c.mark.ensures.once),
      c.read_endpoint-got.ensures.told,
    )

pub returns-clause-entries : goal.returns-clause-entries
returns-clause-entries g c = λ endpoint at.
    let seen = c.in-Some.endpoint.now in
    let got = c.read_endpoint-got.result in
    let e : Some seen ≡ Some endpoint = c.in-Some.ensures.value ∙ at in
    let same : seen ≡ endpoint = cc in
    ap (λ (t : Endpoints). t.by_slot.entries) c.mark.ensures.rest ∙ ((c.get_mut.follows.holds c.read_endpoint-got.new.endpoint).0
    ∙ ap (set_value (nat_eq c.args.slot) c.args.endpoints.now.by_slot.entries) (c.read_endpoint-got.ensures.endpoint ∙ ap (λ (l : Endpoint). after_get l got) same))

pub returns-clause-kept : goal.returns-clause-kept
returns-clause-kept g c = told_kept _ _ _ c.read_endpoint-got.ensures.told
