use Rattle.px_outside.specs.Count.{Rose}
use Rattle.px_filter.specs.View.{expression}
use Rattle.px_words.proofs.FlowFileLemmas.{comes_so}
use Rattle.px_words.proofs.FlowsLemmas.{never_goes, turned_at, turned_by}
use Rattle.px_words.proofs.flows.show_next.Goals as goal

pub returns-in-Ok-Some-clause-turns : goal.returns-in-Ok-Some-clause-turns
returns-in-Ok-Some-clause-turns g c =
    turned_by (Rose (g.S.Sink.faults c.args.out.now) (g.S.Sink.faults c.show_entry.new.out)) (expression c.args.filter.now) c.args.reader.now.len c.args.reader.now.rest c.next.new.self.rest
    (g.S.Sink.written c.args.out.now) (g.S.Sink.written c.show_entry.new.out) c.in-Ok-Some.entry c.show_entry.result
    (comes_so _ _ _ _ c.in-Ok-Some.field-0-is (c.in-Ok-Some.ensures.ok c.requires.going)) c.show_entry.ensures.prints

pub returns-in-Err-clause-turns : goal.returns-in-Err-clause-turns
returns-in-Err-clause-turns g c =
    let none = c.in-Err.ensures.err c.requires.going in
    turned_at (Rose (g.S.Sink.faults c.args.out.now) (g.S.Sink.faults c.args.out.now)) (expression c.args.filter.now) c.args.reader.now.len c.in-Err.fault.offset c.args.reader.now.rest c.next.new.self.rest
    (g.S.Sink.written c.args.out.now) c.turn_of.result (c.in-Err.ensures.some c.requires.going) none.1 (c.turn_of.ensures.stops c.args.reader.now.rest none.0)

pub returns-in-Err-clause-going : goal.returns-in-Err-clause-going
returns-in-Err-clause-going g c = λ went.
    let none = c.in-Err.ensures.err c.requires.going in
    absurd (never_goes c.args.reader.now.rest c.in-Err.fault.offset c.turn_of.result (c.turn_of.ensures.stops c.args.reader.now.rest none.0) went)
