use Rattle.px_words.proofs.ConvertLemmas.{copies_none, copies_text, no_text, text_is}
use Rattle.px_words.proofs.converting.copy_chosen.Goals as goal

pub returns-in-Ok-Some-clause-copies : goal.returns-in-Ok-Some-clause-copies
returns-in-Ok-Some-clause-copies g c =
    copies_text _ c.args.to.now c.deref.result.now c.args.entry _ _ c.append.result (text_is _ _ c.in-Ok-Some.text _ c.in-Ok-Some.ensures.text c.in-Ok-Some.field-0-is c.deref.ensures.value) c.append.ensures.came

pub returns-in-Ok-None-clause-copies : goal.returns-in-Ok-None-clause-copies
returns-in-Ok-None-clause-copies g c = copies_none c.args.to.now c.args.entry _ (no_text _ _ c.in-Ok-None.ensures.text c.in-Ok-None.field-0-is)
