use Rattle.std.proofs.Common.{◌≡◌, ◌∙◌, refl, subst, rules, Some}
use Rattle.px_wire.specs.declared.endpoint.Endpoint.{Endpoint}
use Rattle.px_wire.specs.Flushes.{Flushes}
use Rattle.px_wire.proofs.HoldsLemmas.{changes_of}
use Rattle.px_wire.proofs.flush.flush_in.Goals as goal

pub returns-clause-flushes : goal.returns-clause-flushes
returns-clause-flushes g c = λ endpoint at.
    let seen = c.in-Some.endpoint.now in
    let mid = record c.args.endpoints.now { by_slot = c.get_mut.follows.lender c.flush_endpoint-flushed.new.endpoint } in
    let e : Some seen ≡ Some endpoint = c.in-Some.ensures.value ∙ at in
    let same : seen ≡ endpoint = cc in
    let P : Endpoint → Type 0 = λ l. Flushes c.flush_endpoint-flushed.result c.args.slot l c.args.endpoints.now c.mark.new.self (g.W.Wire.calls c.args.wire.now) (g.W.Wire.calls c.flush_endpoint-flushed.new.wire) in
    subst P same (record {
      changed = c.flush_endpoint-flushed.new.endpoint;
      changes = changes_of c.args.endpoints.now mid c.mark.new.self c.args.slot seen.conv seen c.flush_endpoint-flushed.new.endpoint refl ((c.get_mut.follows.holds c.flush_endpoint-flushed.new.endpoint).3 (search rules))
          c.mark.ensures.rest refl c.mark.ensures.marked c.mark.ensures.kept c.mark.ensures.only c.mark.ensures.once;
      name = c.flush_endpoint-flushed.ensures.name;
      turn = c.flush_endpoint-flushed.ensures.turn;
      stands = c.flush_endpoint-flushed.ensures.stands;
      does = c.flush_endpoint-flushed.ensures.does;
      left = c.flush_endpoint-flushed.ensures.left;
      over = c.flush_endpoint-flushed.ensures.over;
    })
