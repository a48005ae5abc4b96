use Rattle.std.proofs.Common.{◌≡◌, ◌∙◌, ap}
use Rattle.px_wire.specs.declared.endpoints.Endpoints.{Endpoints}
use Rattle.px_wire.proofs.HoldsLemmas.{push_held}
use Rattle.px_wire.proofs.MarkLemmas.{marks_from, marks_to}
use Rattle.px_wire.proofs.endpoints.Endpoints.push_new.Goals as goal

pub returns : goal.returns
returns c = record {
  only = marks_to (λ conv. conv ≡ c.args.endpoint.conv) c.args.self.now c.mark.new.self c.put.new.self (ap (λ (t : Endpoints). t.marked.items) c.put.ensures.rest)
      (marks_from (λ conv. conv ≡ c.args.endpoint.conv) c.args.self.now c.list.new.self c.mark.new.self
      (ap (λ (t : Endpoints). t.marked.items) c.list.ensures.rest ∙ ap (λ (t : Endpoints). t.marked.items) c.at_turn-endpoint.ensures.rest) c.mark.ensures.only);
  holds = λ endpoints held.
      push_held c.args.self.now c.at_turn-endpoint.new.self c.list.new.self c.mark.new.self c.put.new.self c.args.endpoint c.at_turn-endpoint.result endpoints c.requires.absent
      c.at_turn-endpoint.ensures.endpoint c.at_turn-endpoint.ensures.rest c.list.ensures.rest c.list.ensures.here c.list.ensures.others c.list.ensures.filled
      c.mark.ensures.rest c.mark.ensures.marked c.mark.ensures.kept c.mark.ensures.once c.put.ensures.rest c.put.ensures.here c.put.ensures.others held;
}
