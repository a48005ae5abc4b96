use Rattle.std.proofs.Common.{◌≡◌, ◌∙◌, ap, sym, refl, None, true, false}
use Rattle.px_wire.specs.Holds.{passes}
use Rattle.px_wire.specs.Endpoints.{is_done}
use Rattle.px_wire.proofs.CallLemmas.{ends, goes_on}
use Rattle.px_wire.proofs.FindLemmas.{endpoint_of, at_again}
use Rattle.px_wire.proofs.TableLemmas.{closes}
use Rattle.px_wire.proofs.say.close_at.Goals as goal

pub returns-then-is_done_at-clause-stands : goal.returns-then-is_done_at-clause-stands
returns-then-is_done_at-clause-stands g c = λ before front back endpoint at tells stands.
    let old = c.args.table.now in
    let new = record endpoint { is_closing = true } in
    let ch = c.set_closing_in.ensures.changes endpoint (endpoint_of old.endpoints c.args.slot front endpoint back at) in
    let done : is_done new ≡ true = ap (passes is_done) (sym ch.here) ∙ (sym c.is_done_at.ensures.is ∙ c.if-is_done_at.true) in
    c.shut_at.ensures.stands None front back new (at_again old.endpoints c.set_closing_in.new.endpoints c.args.slot front endpoint new back at ch refl refl refl)
    (ends None front back new old.accepted old.moment endpoint.slot _ done refl (closes old.accepted old.moment before _ None front back endpoint _ refl tells stands))

pub returns-else-is_done_at-clause-stands : goal.returns-else-is_done_at-clause-stands
returns-else-is_done_at-clause-stands g c = λ before front back endpoint at tells stands.
    let old = c.args.table.now in
    let new = record endpoint { is_closing = true } in
    let ch = c.set_closing_in.ensures.changes endpoint (endpoint_of old.endpoints c.args.slot front endpoint back at) in
    let goes : is_done new ≡ false = ap (passes is_done) (sym ch.here) ∙ (sym c.is_done_at.ensures.is ∙ c.if-is_done_at.false) in
    record {
      endpoints = _;
      held = (at_again old.endpoints c.set_closing_in.new.endpoints c.args.slot front endpoint new back at ch refl refl refl).held;
      stands = goes_on None front back new old.accepted old.moment endpoint.slot _ goes refl (closes old.accepted old.moment before _ None front back endpoint _ refl tells stands);
    }
