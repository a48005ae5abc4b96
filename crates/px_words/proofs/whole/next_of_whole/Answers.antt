use Rattle.px_words.proofs.WholeLemmas.{never_bad, no_bad, whole_next}
use Rattle.px_words.proofs.whole.next_of_whole.Goals as goal

pub unreachable-requires : goal.unreachable-requires
unreachable-requires c =
    never_bad c.each_text_has_one_tree.ensures c.what_is_read_is_not_refused.ensures c.loaded_is_not_refused.ensures c.args.reader.now.rest c.requires.whole
    (no_bad _ c.args.reader.now.rest _ _ c.in-Err-BadPlace.field-0-is c.in-Err-BadPlace.ensures.err).0

pub returns-in-Ok-clause-whole : goal.returns-in-Ok-clause-whole
returns-in-Ok-clause-whole c = whole_next c.each_text_has_one_tree.ensures c.args.reader.now.rest c.next_entry.new.reader.rest c.in-Ok.entry c.requires.whole c.in-Ok.ensures.ok
