use Rattle.std.proofs.Common.{◌≡◌, ◌∙◌, ◌++◌, ◌+◌, ◌∷◌, [], ap, subst, sym, Some}
use Rattle.px_wire.specs.declared.endpoint.Endpoint.{Endpoint}
use Rattle.px_wire.specs.declared.endpoints.Endpoints.{Endpoints}
use Rattle.px_wire.specs.Holds.{Holds, IsOf, endpoint_at, without}
use Rattle.px_wire.proofs.HoldsLemmas.{end_held}
use Rattle.px_wire.proofs.MarkLemmas.{marks_from, marks_of}
use Rattle.px_wire.proofs.endpoints.Endpoints.to_end.Goals as goal

pub returns : goal.returns
returns c = record {
  holds = λ endpoints endpoint at held.
      let seen = c.in-Some.endpoint.now in
      let same : Some seen ≡ Some endpoint = c.in-Some.ensures.is ∙ at in
      let is : seen ≡ endpoint = cc in
      let here = c.set_turn.ensures.here seen (ap (λ (t : Endpoints). endpoint_at t c.args.slot) c.unready.ensures.rest ∙ sym c.in-Some.ensures.is) in
      let P : Endpoint → Type 0 = λ l. Holds c.mark.new.self (without c.args.slot endpoints ++ record l { turn = c.args.self.now.next_turn } ∷ []) in
      subst P is (end_held c.args.self.now c.unready.new.self c.set_turn.new.self c.mark.new.self c.args.slot seen endpoints (sym c.in-Some.ensures.is) c.unready.ensures.rest c.unready.ensures.gone c.unready.ensures.others
      c.set_turn.ensures.rest here c.set_turn.ensures.others c.mark.ensures.rest c.mark.ensures.marked c.mark.ensures.kept c.mark.ensures.once held);
  only =
      let mid = record c.set_turn.new.self { next_turn = c.set_turn.new.self.next_turn + 1 } in
      marks_from (λ conv. IsOf (λ s. endpoint_at c.args.self.now s) conv c.args.slot) c.args.self.now mid c.mark.new.self
      (ap (λ (t : Endpoints). t.marked.items) c.set_turn.ensures.rest ∙ ap (λ (t : Endpoints). t.marked.items) c.unready.ensures.rest)
      (marks_of (λ s. endpoint_at c.args.self.now s) mid c.mark.new.self c.args.slot c.in-Some.endpoint.now (sym c.in-Some.ensures.is) c.mark.ensures.only);
}
