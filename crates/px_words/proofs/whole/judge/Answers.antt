use Rattle.std.proofs.Common.{◌∙◌, ap, length}
use Rattle.px_words.proofs.FlowFileLemmas.{comes_so}
use Rattle.px_words.proofs.WholeLemmas.{judged_more, judged_none}
use Rattle.px_words.proofs.whole.judge.Goals as goal

pub loop-reader-init : goal.loop-reader-init
loop-reader-init c =
    let same = c.in_ok-try_clone.ensures in
    record {
      judged = judged_none _ _ (c.new-reader.ensures.rest ∙ same);
      going = c.new-reader.ensures.fault;
      len = c.new-reader.ensures.len ∙ ap length same;
    }

pub loop-reader-preserved : goal.loop-reader-preserved
loop-reader-preserved c =
    let before = c.loop-reader.invariant in
    let came = c.in_ok-entry.ensures in
    record {
      judged = judged_more c.args.bytes.now c.loop-reader.reader.rest c.next_entry.new.reader.rest c.in-Some.entry before.judged
          (comes_so c.loop-reader.reader.rest c.next_entry.new.reader.rest _ c.in-Some.entry c.in-Some.is came.ok);
      going = came.going;
      len = came.len ∙ before.len;
    }
