use Rattle.std.proofs.Common.{◌∙◌, ap, sym, refl, arith, Ok, ◌-◌}
use Rattle.px_wire.specs.declared.endpoints.Endpoints.{Endpoints}
use Rattle.px_wire.proofs.DueLemmas.{still_held, gathered, none_of, popped_last, prefix_less, seen_last}
use Rattle.px_wire.proofs.endpoints.Endpoints.settle.Goals as goal

pub returns-in_err-found-clause-holds : goal.returns-in_err-found-clause-holds
returns-in_err-found-clause-holds c = λ endpoints held.
    still_held c.loop-self.self c.gather.new.self endpoints c.gather.ensures.rest c.gather.ensures.still c.gather.ensures.turned (c.loop-self.invariant.holds endpoints held)

pub returns-then-is_some-clause-holds : goal.returns-then-is_some-clause-holds
returns-then-is_some-clause-holds c = λ endpoints held.
    still_held c.loop-self.self c.gather.new.self endpoints c.gather.ensures.rest c.gather.ensures.still c.gather.ensures.turned (c.loop-self.invariant.holds endpoints held)

pub loop-self-preserved : goal.loop-self-preserved
loop-self-preserved c =
    let were = popped_last c.gather.new.self.marked.items c.pop.new.self.items c.pop.result c.index-conv.result.now (c.gather.new.self.marked.len - 1)
    (c.pop.ensures.value c.index-conv.result.now (omega (arith, ap (λ (t : Endpoints). t.marked.len) c.gather.ensures.rest, c.loop-self-test.true)))
    (seen_last c.loop-self.self c.gather.new.self c.index-conv.result.now c.len-in-loop-self.result c.len-in-loop-self.ensures c.gather.ensures.rest c.index-conv.ensures)
    c.pop.ensures.items in
    record {
      holds = λ endpoints held.
          gathered c.loop-self.self c.gather.new.self (record c.gather.new.self { marked = c.pop.new.self }) _ endpoints c.gather.ensures.rest c.gather.ensures.still c.gather.ensures.turned
          (c.gather.ensures.looked (c.in_ok-found.was ∙ ap Ok (none_of c.in_ok-found.found (sym c.is_some.ensures ∙ c.if-is_some.false)))) refl
          were
          (c.loop-self.invariant.holds endpoints held);
      left = prefix_less c.loop-self.self c.gather.new.self _ c.index-conv.result.now _ c.gather.ensures.rest were c.loop-self.invariant.left;
      rest = ap (λ (t : Endpoints). record t { marked = c.pop.new.self }) c.gather.ensures.rest ∙ ap (λ (t : Endpoints). record t { ready = c.gather.new.self.ready; marked = c.pop.new.self }) c.loop-self.invariant.rest;
    }
