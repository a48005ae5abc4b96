use Rattle.std.proofs.Common.{le_refl, le_trans, subst, sym}
use Rattle.px_outside.specs.Count.{Rose}
use Rattle.px_filter.specs.View.{expression}
use Rattle.px_words.specs.ExportTurns.{PrintsEntries}
use Rattle.px_words.specs.Whole.{IsWhole}
use Rattle.px_words.specs.declared.whole.Unfinished.TheVariants as breaks
use Rattle.px_words.proofs.ExportLemmas.{printed_break, printed_more, printed_none, printed_stop}
use Rattle.px_words.proofs.FlowFileLemmas.{comes_so}
use Rattle.px_words.proofs.FlowsLemmas.{rose_from}
use Rattle.px_words.proofs.WholeLemmas.{same_error}
use Rattle.px_words.proofs.exporting.print_entries.Goals as goal

pub loop-reader-init : goal.loop-reader-init
loop-reader-init g c = record {
  so_far = printed_none _ _ _ _ c.new-reader.ensures.rest;
  whole = subst (λ r. IsWhole r) (sym c.new-reader.ensures.rest) c.requires.whole;
  going = c.new-reader.ensures.fault;
  later = le_refl _;
}

pub loop-reader-preserved : goal.loop-reader-preserved
loop-reader-preserved g c =
    let before = c.loop-reader.invariant in
    let came = c.in_ok-entry.ensures in
    let printed = c.in_ok-place.ensures in
    record {
      so_far = printed_more c.parts_make_the_export.ensures _ _ c.loop-reader.reader.rest c.next_of_whole.new.reader.rest c.loop-reader.place _ _ _ _ c.in-Some.entry before.so_far
          (comes_so _ _ _ c.in-Some.entry c.in-Some.is came.ok) printed.prints printed.place;
      whole = came.whole;
      going = came.going;
      later = le_trans before.later printed.later;
    }

pub returns-in_err-place-clause-prints : goal.returns-in_err-place-clause-prints
returns-in_err-place-clause-prints g c =
    let before = c.loop-reader.invariant in
    same_error c.from_residual-in_err-place.result c.in_err-place.field-0.0
    (λ r. PrintsEntries (Rose (g.S.Sink.faults c.args.out.now) (g.S.Sink.faults c.print_entry.new.out)) (expression c.args.filter.now) c.args.bytes (g.S.Sink.written c.args.out.now) (g.S.Sink.written c.print_entry.new.out) r)
    c.from_residual-in_err-place.ensures.1
    (printed_break c.parts_make_the_export.ensures _ _ (Unit {0}) _ _ c.loop-reader.reader.rest c.next_of_whole.new.reader.rest c.loop-reader.place _ _ _ c.in-Some.entry c.in_err-place.field-0.0 before.so_far
    (comes_so _ _ _ c.in-Some.entry c.in-Some.is c.in_ok-entry.ensures.ok) c.in_ok-entry.ensures.whole c.in_err-place.ensures.prints (rose_from _ _ _ before.later))

pub returns-in_err-entry-clause-prints : goal.returns-in_err-entry-clause-prints
returns-in_err-entry-clause-prints g c =
    let before = c.loop-reader.invariant in
    same_error c.from_residual.result breaks.NoMemory
    (λ r. PrintsEntries (Rose (g.S.Sink.faults c.args.out.now) (g.S.Sink.faults c.loop-reader.out)) (expression c.args.filter.now) c.args.bytes (g.S.Sink.written c.args.out.now) (g.S.Sink.written c.loop-reader.out) r)
    c.from_residual.ensures.1
    (printed_stop (Unit {0}) (Rose (g.S.Sink.faults c.args.out.now) (g.S.Sink.faults c.loop-reader.out)) _ _ c.loop-reader.reader.rest c.loop-reader.place _ _ before.so_far before.whole)
