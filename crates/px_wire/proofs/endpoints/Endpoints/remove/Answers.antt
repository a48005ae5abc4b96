use Rattle.std.proofs.Common.{◌∙◌, ap, refl, sym}
use Rattle.px_wire.specs.declared.endpoints.Endpoints.{Endpoints}
use Rattle.px_wire.specs.Holds.{IsOf, endpoint_at}
use Rattle.px_wire.proofs.HoldsLemmas.{removed, not_there, others_of}
use Rattle.px_wire.proofs.MarkLemmas.{marked_none, marks_from, marks_of}
use Rattle.px_wire.proofs.endpoints.Endpoints.remove.Goals as goal

pub returns-in-Some-clause-holds : goal.returns-in-Some-clause-holds
returns-in-Some-clause-holds c = λ endpoints held.
    let gone = record c.args.self.now { by_slot = c.remove.new.self } in
    removed c.args.self.now gone c.unready.new.self c.unlist.new.self c.mark.new.self c.args.slot c.in-Some.endpoint endpoints (sym c.in-Some.ensures.value) refl
    c.remove.ensures.updates.1 (others_of c.args.slot (endpoint_at gone) (endpoint_at c.args.self.now) c.remove.ensures.updates.2)
    c.unready.ensures.rest c.unready.ensures.gone c.unready.ensures.others
    c.unlist.ensures.rest c.unlist.ensures.here c.unlist.ensures.others c.unlist.ensures.filled
    c.mark.ensures.rest c.mark.ensures.marked c.mark.ensures.kept c.mark.ensures.once held

pub returns-in_default-clause-holds : goal.returns-in_default-clause-holds
returns-in_default-clause-holds c = λ endpoints held.
    let gone = record c.args.self.now { by_slot = c.remove.new.self } in
    not_there c.args.self.now gone c.args.slot endpoints (sym c.remove.ensures.value ∙ c.in_default.is) refl
    c.remove.ensures.updates.1 (others_of c.args.slot (endpoint_at gone) (endpoint_at c.args.self.now) c.remove.ensures.updates.2) held

pub returns-in-Some-clause-only : goal.returns-in-Some-clause-only
returns-in-Some-clause-only c =
    marks_from (λ conv. IsOf (λ s. endpoint_at c.args.self.now s) conv c.args.slot) c.args.self.now c.unlist.new.self c.mark.new.self
    (ap (λ (t : Endpoints). t.marked.items) c.unlist.ensures.rest ∙ ap (λ (t : Endpoints). t.marked.items) c.unready.ensures.rest)
    (marks_of (λ s. endpoint_at c.args.self.now s) c.unlist.new.self c.mark.new.self c.args.slot c.in-Some.endpoint (sym c.in-Some.ensures.value) c.mark.ensures.only)

pub returns-in_default-clause-only : goal.returns-in_default-clause-only
returns-in_default-clause-only c =
    marked_none (λ conv. IsOf (λ s. endpoint_at c.args.self.now s) conv c.args.slot) c.args.self.now (record c.args.self.now { by_slot = c.remove.new.self }) refl
