use Rattle.std.proofs.Common.{le_trans}
use Rattle.px_outside.specs.Count.{Rose}
use Rattle.px_filter.specs.View.{expression}
use Rattle.px_words.specs.ExportTurns.{PrintsExport}
use Rattle.px_words.proofs.ExportLemmas.{begin_breaks, end_comes, entries_break}
use Rattle.px_words.proofs.FlowsLemmas.{rose_from}
use Rattle.px_words.proofs.WholeLemmas.{same_error}
use Rattle.px_words.proofs.exporting.print_export.Goals as goal

pub returns-in_err-print_begin : goal.returns-in_err-print_begin
returns-in_err-print_begin g c = record {
  exports = same_error c.from_residual.result c.in_err-print_begin.field-0.0
      (λ r. PrintsExport (Rose (g.S.Sink.faults c.args.out.now) (g.S.Sink.faults c.print_begin.new.out)) (expression c.args.filter.now) c.args.bytes (g.S.Sink.written c.args.out.now) (g.S.Sink.written c.print_begin.new.out) r)
      c.from_residual.ensures.1
      (begin_breaks c.parts_make_the_export.ensures (expression c.args.filter.now) c.args.bytes (Unit {0}) _ _ _ c.in_err-print_begin.field-0.0 c.requires.whole c.in_err-print_begin.ensures.prints);
}

pub returns-in_err-print_entries : goal.returns-in_err-print_entries
returns-in_err-print_entries g c =
    let begun = c.in_ok-print_begin.ensures in
    record {
      exports = same_error c.from_residual-in_err-print_entries.result c.in_err-print_entries.field-0.0
          (λ r. PrintsExport (Rose (g.S.Sink.faults c.args.out.now) (g.S.Sink.faults c.print_entries.new.out)) (expression c.args.filter.now) c.args.bytes (g.S.Sink.written c.args.out.now)
          (g.S.Sink.written c.print_entries.new.out) r)
          c.from_residual-in_err-print_entries.ensures.1
          (entries_break c.parts_make_the_export.ensures (expression c.args.filter.now) c.args.bytes (Unit {0}) _ _ _ (g.S.Sink.written c.print_begin.new.out) _ c.in_err-print_entries.field-0.0 begun.prints c.in_err-print_entries.ensures.prints (rose_from _ _ _ begun.later));
    }

pub returns : goal.returns
returns g c =
    let begun = c.in_ok-print_begin.ensures in
    let gone = c.in_ok-print_entries.ensures in
    record {
      exports = end_comes c.parts_make_the_export.ensures (expression c.args.filter.now) c.args.bytes _ _ _ (g.S.Sink.written c.print_begin.new.out) (g.S.Sink.written c.print_entries.new.out) _ gone.prints.0 c.print_end.result begun.prints gone.prints.1 gone.prints.2 c.print_end.ensures.prints
          (rose_from _ _ _ (le_trans begun.later gone.later));
    }
