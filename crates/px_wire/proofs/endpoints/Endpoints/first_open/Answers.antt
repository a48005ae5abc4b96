use Rattle.std.proofs.Common.{◌∙◌, ap, sym, refl}
use Rattle.px_wire.specs.declared.endpoints.Endpoints.{Endpoints}
use Rattle.px_wire.proofs.DueLemmas.{dropped}
use Rattle.px_wire.proofs.endpoints.Endpoints.first_open.Goals as goal

pub loop-turn-preserved : goal.loop-turn-preserved
loop-turn-preserved c = record {
  holds = λ endpoints held.
      dropped c.loop-turn.self _ c.in-Some.turn c.in-Some.slot endpoints refl c.in-Some.ensures.there c.remove.ensures.updates.0
      (sym c.is_candidate.ensures.is ∙ c.if-is_candidate.false) (c.loop-turn.invariant.holds endpoints held);
  rest = ap (λ (t : Endpoints). record t { ready = c.remove.new.self }) c.loop-turn.invariant.rest;
}
