use Rattle.std.proofs.Common.{List, ℕ, refl, subst}
use Rattle.px_outside.specs.Count.{Rose}
use Rattle.px_words.specs.Outside.{IsTold}
use Rattle.px_words.proofs.FlowsLemmas.{lists_at}
use Rattle.px_app.proofs.GenerateLemmas.{generates_at}
use Rattle.px_app.proofs.WordLemmas.{converts_at, exports_at, not_convert_har, not_flows_convert, not_flows_har, not_four_gen, not_serve_four, not_serve_three, not_three_four, not_three_gen, one_count, one_path, picks_at, same_four, same_three, serves_at}
use Rattle.px_app.proofs.program.run.Goals as goal

pub returns-in-Some-clause-serves : goal.returns-in-Some-clause-serves
returns-in-Some-clause-serves g c = λ path is. serves_at c.in-Some.path.now path (one_path _ c.in-Some.path.now path c.in-Some.ensures is) c.serve_file.ensures

pub returns-in-Some-clause-lists : goal.returns-in-Some-clause-lists
returns-in-Some-clause-lists g c = λ path text is. absurd (not_serve_three _ c.in-Some.path.now _ path text c.in-Some.ensures is)

pub returns-in-Some-clause-converts : goal.returns-in-Some-clause-converts
returns-in-Some-clause-converts g c = λ path text is. absurd (not_serve_three _ c.in-Some.path.now _ path text c.in-Some.ensures is)

pub returns-in-Some-clause-picks : goal.returns-in-Some-clause-picks
returns-in-Some-clause-picks g c = λ path text to is. absurd (not_serve_four _ c.in-Some.path.now _ path text to c.in-Some.ensures is)

pub returns-in-Some-clause-exports : goal.returns-in-Some-clause-exports
returns-in-Some-clause-exports g c = λ path text is. absurd (not_serve_three _ c.in-Some.path.now _ path text c.in-Some.ensures is)

pub returns-in-Some-flow_words-clause-serves : goal.returns-in-Some-flow_words-clause-serves
returns-in-Some-flow_words-clause-serves g c = λ path is. absurd (not_serve_three _ path _ _ _ is c.in-Some-flow_words.ensures)

pub returns-in-Some-flow_words-clause-lists : goal.returns-in-Some-flow_words-clause-lists
returns-in-Some-flow_words-clause-lists g c = λ path text is. lists_at _ _ path text (same_three _ _ _ _ path text c.in-Some-flow_words.ensures is) c.list_flows.ensures.lists

pub returns-in-Some-flow_words-clause-converts : goal.returns-in-Some-flow_words-clause-converts
returns-in-Some-flow_words-clause-converts g c = λ path text is. absurd (not_flows_convert _ _ _ path text c.in-Some-flow_words.ensures is)

pub returns-in-Some-flow_words-clause-picks : goal.returns-in-Some-flow_words-clause-picks
returns-in-Some-flow_words-clause-picks g c = λ path text to is. absurd (not_three_four _ _ _ _ _ path text to c.in-Some-flow_words.ensures is)

pub returns-in-Some-flow_words-clause-exports : goal.returns-in-Some-flow_words-clause-exports
returns-in-Some-flow_words-clause-exports g c = λ path text is. absurd (not_flows_har _ _ _ path text c.in-Some-flow_words.ensures is)

pub returns-in-Some-flow_words-clause-generates : goal.returns-in-Some-flow_words-clause-generates
returns-in-Some-flow_words-clause-generates g c = λ count is. absurd (not_three_gen _ _ _ _ count c.in-Some-flow_words.ensures is)

pub returns-in-Some-flow_words-clause-refuses : goal.returns-in-Some-flow_words-clause-refuses
returns-in-Some-flow_words-clause-refuses g c = λ none. absurd (none.flows _ _ c.in-Some-flow_words.ensures)

pub returns-in-Some-convert_words-clause-serves : goal.returns-in-Some-convert_words-clause-serves
returns-in-Some-convert_words-clause-serves g c = λ path is. absurd (not_serve_three _ path _ _ _ is c.in-Some-convert_words.ensures)

pub returns-in-Some-convert_words-clause-lists : goal.returns-in-Some-convert_words-clause-lists
returns-in-Some-convert_words-clause-lists g c = λ path text is. absurd (not_flows_convert _ path text _ _ is c.in-Some-convert_words.ensures)

pub returns-in-Some-convert_words-clause-converts : goal.returns-in-Some-convert_words-clause-converts
returns-in-Some-convert_words-clause-converts g c = λ path text is. converts_at _ _ path text (same_three _ _ _ _ path text c.in-Some-convert_words.ensures is) c.convert.ensures.converts

pub returns-in-Some-convert_words-clause-picks : goal.returns-in-Some-convert_words-clause-picks
returns-in-Some-convert_words-clause-picks g c = λ path text to is. absurd (not_three_four _ _ _ _ _ path text to c.in-Some-convert_words.ensures is)

pub returns-in-Some-convert_words-clause-exports : goal.returns-in-Some-convert_words-clause-exports
returns-in-Some-convert_words-clause-exports g c = λ path text is. absurd (not_convert_har _ _ _ path text c.in-Some-convert_words.ensures is)

pub returns-in-Some-convert_words-clause-generates : goal.returns-in-Some-convert_words-clause-generates
returns-in-Some-convert_words-clause-generates g c = λ count is. absurd (not_three_gen _ _ _ _ count c.in-Some-convert_words.ensures is)

pub returns-in-Some-convert_words-clause-refuses : goal.returns-in-Some-convert_words-clause-refuses
returns-in-Some-convert_words-clause-refuses g c = λ none. absurd (none.convert _ _ c.in-Some-convert_words.ensures)

pub returns-in-Some-har_words-clause-serves : goal.returns-in-Some-har_words-clause-serves
returns-in-Some-har_words-clause-serves g c = λ path is. absurd (not_serve_three _ path _ _ _ is c.in-Some-har_words.ensures)

pub returns-in-Some-har_words-clause-lists : goal.returns-in-Some-har_words-clause-lists
returns-in-Some-har_words-clause-lists g c = λ path text is. absurd (not_flows_har _ path text _ _ is c.in-Some-har_words.ensures)

pub returns-in-Some-har_words-clause-converts : goal.returns-in-Some-har_words-clause-converts
returns-in-Some-har_words-clause-converts g c = λ path text is. absurd (not_convert_har _ path text _ _ is c.in-Some-har_words.ensures)

pub returns-in-Some-har_words-clause-picks : goal.returns-in-Some-har_words-clause-picks
returns-in-Some-har_words-clause-picks g c = λ path text to is. absurd (not_three_four _ _ _ _ _ path text to c.in-Some-har_words.ensures is)

pub returns-in-Some-har_words-clause-exports : goal.returns-in-Some-har_words-clause-exports
returns-in-Some-har_words-clause-exports g c = λ path text is. exports_at _ _ path text (same_three _ _ _ _ path text c.in-Some-har_words.ensures is) c.export.ensures.exports

pub returns-in-Some-har_words-clause-generates : goal.returns-in-Some-har_words-clause-generates
returns-in-Some-har_words-clause-generates g c = λ count is. absurd (not_three_gen _ _ _ _ count c.in-Some-har_words.ensures is)

pub returns-in-Some-har_words-clause-refuses : goal.returns-in-Some-har_words-clause-refuses
returns-in-Some-har_words-clause-refuses g c = λ none. absurd (none.har _ _ c.in-Some-har_words.ensures)

pub returns-in-Some-pick_words-clause-serves : goal.returns-in-Some-pick_words-clause-serves
returns-in-Some-pick_words-clause-serves g c = λ path is. absurd (not_serve_four _ path _ _ _ _ is c.in-Some-pick_words.ensures)

pub returns-in-Some-pick_words-clause-lists : goal.returns-in-Some-pick_words-clause-lists
returns-in-Some-pick_words-clause-lists g c = λ path text is. absurd (not_three_four _ _ path text _ _ _ _ is c.in-Some-pick_words.ensures)

pub returns-in-Some-pick_words-clause-converts : goal.returns-in-Some-pick_words-clause-converts
returns-in-Some-pick_words-clause-converts g c = λ path text is. absurd (not_three_four _ _ path text _ _ _ _ is c.in-Some-pick_words.ensures)

pub returns-in-Some-pick_words-clause-picks : goal.returns-in-Some-pick_words-clause-picks
returns-in-Some-pick_words-clause-picks g c = λ path text to is. picks_at _ _ _ path text to (same_four _ _ _ _ _ path text to c.in-Some-pick_words.ensures is) c.pick.ensures.picks

pub returns-in-Some-pick_words-clause-exports : goal.returns-in-Some-pick_words-clause-exports
returns-in-Some-pick_words-clause-exports g c = λ path text is. absurd (not_three_four _ _ path text _ _ _ _ is c.in-Some-pick_words.ensures)

pub returns-in-Some-pick_words-clause-generates : goal.returns-in-Some-pick_words-clause-generates
returns-in-Some-pick_words-clause-generates g c = λ count is. absurd (not_four_gen _ _ _ _ _ count c.in-Some-pick_words.ensures is)

pub returns-in-Some-pick_words-clause-refuses : goal.returns-in-Some-pick_words-clause-refuses
returns-in-Some-pick_words-clause-refuses g c = λ none. absurd (none.pick _ _ _ c.in-Some-pick_words.ensures)

pub returns-in-Some-flow_count-clause-lists : goal.returns-in-Some-flow_count-clause-lists
returns-in-Some-flow_count-clause-lists g c = λ path text is. absurd (c.in_default-flow_words.ensures path text is)

pub returns-in-Some-flow_count-clause-converts : goal.returns-in-Some-flow_count-clause-converts
returns-in-Some-flow_count-clause-converts g c = λ path text is. absurd (c.in_default-convert_words.ensures path text is)

pub returns-in-Some-flow_count-clause-picks : goal.returns-in-Some-flow_count-clause-picks
returns-in-Some-flow_count-clause-picks g c = λ path text to is. absurd (c.in_default-pick_words.ensures path text to is)

pub returns-in-Some-flow_count-clause-exports : goal.returns-in-Some-flow_count-clause-exports
returns-in-Some-flow_count-clause-exports g c = λ path text is. absurd (c.in_default-har_words.ensures path text is)

pub returns-in-Some-flow_count-clause-generates : goal.returns-in-Some-flow_count-clause-generates
returns-in-Some-flow_count-clause-generates g c = λ count is. generates_at (one_count _ c.in-Some-flow_count.count count c.in-Some-flow_count.ensures is) c.generate.ensures

pub returns-in-Some-flow_count-clause-refuses : goal.returns-in-Some-flow_count-clause-refuses
returns-in-Some-flow_count-clause-refuses g c = λ none. absurd (none.gen c.in-Some-flow_count.count c.in-Some-flow_count.ensures)

pub returns-clause-lists : goal.returns-clause-lists
returns-clause-lists g c = λ path text is. absurd (c.in_default-flow_words.ensures path text is)

pub returns-clause-converts : goal.returns-clause-converts
returns-clause-converts g c = λ path text is. absurd (c.in_default-convert_words.ensures path text is)

pub returns-clause-picks : goal.returns-clause-picks
returns-clause-picks g c = λ path text to is. absurd (c.in_default-pick_words.ensures path text to is)

pub returns-clause-exports : goal.returns-clause-exports
returns-clause-exports g c = λ path text is. absurd (c.in_default-har_words.ensures path text is)

pub returns-clause-generates : goal.returns-clause-generates
returns-clause-generates g c = λ count is. absurd (c.in_default-flow_count.ensures count is)

pub returns-clause-refuses : goal.returns-clause-refuses
returns-clause-refuses g c = λ none. record {
  is = c.stop_with.ensures.status;
  net = refl;
  kept = refl;
  prints =
      let P : List ℕ → Type 0 = λ l. IsTold (Rose (g.S.Sink.faults c.args.out.now) (g.S.Sink.faults c.stop_with.new.out)) c.stop_with.result l (g.S.Sink.written c.args.out.now) (g.S.Sink.written c.stop_with.new.out) in
      subst P c.as_bytes.ensures.value c.stop_with.ensures.prints;
  notes = c.stop_with.ensures.notes;
}
