use Rattle.std.proofs.Common.{Err, ap, refl}
use Rattle.px_words.proofs.ToldLemmas.{none_part}
use Rattle.px_app.proofs.generate.tell_run.Goals as goal

pub returns-then-is_err-clause-begun : goal.returns-then-is_err-clause-begun
returns-then-is_err-clause-begun g c = none_part _ _ _ refl

pub returns-in-Err-NoMemory-clause-begun : goal.returns-in-Err-NoMemory-clause-begun
returns-in-Err-NoMemory-clause-begun g c = none_part _ _ _ (c.in-Err-NoMemory.ensures.no_memory (ap Err c.in-Err-NoMemory.field-0-is))
