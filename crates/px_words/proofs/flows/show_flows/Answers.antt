use Rattle.std.proofs.Common.{◌∙◌, arith, refl}
use Rattle.px_outside.specs.Count.{Rose}
use Rattle.px_words.proofs.FlowsLemmas.{gone_none, gone_on, rose_from, shows_part}
use Rattle.px_words.proofs.flows.show_flows.Goals as goal

pub flows-init : goal.flows-init
flows-init g c = record {
  gone = gone_none _ _ _ _ c.new-reader.ensures.rest;
  going = c.new-reader.ensures.fault;
  len = c.new-reader.ensures.len;
  later = omega arith;
}

pub flows-preserved : goal.flows-preserved
flows-preserved g c =
    let before = c.flows.invariant in
    record {
      gone = gone_on (Rose (g.S.Sink.faults c.flows.out) (g.S.Sink.faults c.show_next.new.out)) _ _ c.flows.reader.len c.flows.reader.rest c.show_next.new.reader.rest _ _ _ before.gone c.in-Went.ensures.turns;
      going = c.in-Went.ensures.going refl;
      len = c.in-Went.ensures.len ∙ before.len;
      later = omega (arith, c.in-Went.ensures.later, before.later);
    }

pub returns-in-NotPrinted : goal.returns-in-NotPrinted
returns-in-NotPrinted g c =
    let before = c.flows.invariant in
    record { shows = shows_part _ _ _ _ _ c.flows.reader.len c.flows.reader.rest c.show_next.new.reader.rest _ _ _ before.gone c.in-NotPrinted.ensures.turns (rose_from _ _ _ before.later) }
