use Rattle.std.proofs.Common.{le_refl, le_trans, subst, sym}
use Rattle.std.specs.Prelude.{option_map}
use Rattle.px_outside.specs.Count.{Rose}
use Rattle.px_core.specs.Answers.{files_meaning}
use Rattle.px_filter.specs.View.{expression}
use Rattle.px_words.specs.ConvertTurns.{CopiesAll}
use Rattle.px_words.specs.Whole.{IsWhole}
use Rattle.px_words.proofs.ConvertLemmas.{copied_break, copied_more, copied_none}
use Rattle.px_words.proofs.FlowFileLemmas.{comes_so}
use Rattle.px_words.proofs.FlowsLemmas.{rose_from}
use Rattle.px_words.proofs.WholeLemmas.{same_error}
use Rattle.px_words.proofs.converting.copy_entries.Goals as goal

pub loop-reader-init : goal.loop-reader-init
loop-reader-init g c = record {
  copied = copied_none _ _ _ _ _ c.new-reader.ensures.rest;
  whole = subst (λ r. IsWhole r) (sym c.new-reader.ensures.rest) c.requires.whole;
  going = c.new-reader.ensures.fault;
  later = le_refl _;
}

pub loop-reader-preserved : goal.loop-reader-preserved
loop-reader-preserved g c =
    let before = c.loop-reader.invariant in
    let came = c.in_ok-entry.ensures in
    record {
      copied = copied_more _ _ _ c.loop-reader.reader.rest c.next_of_whole.new.reader.rest _ _ _ c.in-Some.entry before.copied (comes_so _ _ _ c.in-Some.entry c.in-Some.is came.ok) c.in_ok-copy_entry.ensures.copies;
      whole = came.whole;
      going = came.going;
      later = le_trans before.later c.in_ok-copy_entry.ensures.later;
    }

pub returns-in_err-copy_entry : goal.returns-in_err-copy_entry
returns-in_err-copy_entry g c =
    let before = c.loop-reader.invariant in
    record {
      copies = same_error c.from_residual-in_err-copy_entry.result c.in_err-copy_entry.field-0.0
          (λ r. CopiesAll (Rose (g.F.Files.losses c.args.files.now) (g.F.Files.losses c.copy_entry.new.files)) (option_map expression c.args.filter.now) c.args.to.now c.args.bytes
          (files_meaning g.F.Files.contents g.F.Files.calls g.F.Files.misses g.F.Files.faults g.F.Files.losses c.args.files.now)
          (files_meaning g.F.Files.contents g.F.Files.calls g.F.Files.misses g.F.Files.faults g.F.Files.losses c.copy_entry.new.files) r)
          c.from_residual-in_err-copy_entry.ensures.1
          (copied_break (Unit {0}) _ _ _ _ _ c.loop-reader.reader.rest c.next_of_whole.new.reader.rest _ _ _ c.in-Some.entry c.in_err-copy_entry.field-0.0 before.copied
          (comes_so _ _ _ c.in-Some.entry c.in-Some.is c.in_ok-entry.ensures.ok) c.in_err-copy_entry.ensures.copies (rose_from _ _ _ before.later));
    }
