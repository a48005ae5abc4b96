use Rattle.px_words.proofs.ConvertLemmas.{copies_bad, copies_nothing, copies_status}
use Rattle.px_words.proofs.WholeLemmas.{bad_there}
use Rattle.px_words.proofs.converting.copy_judged.Goals as goal

pub returns-in-Ok : goal.returns-in-Ok
returns-in-Ok g c = record { copies = copies_status _ _ _ _ _ _ _ _ _ c.copy_entries.result _ c.status_of.ensures.code c.copy_entries.ensures.copies }

pub returns-in-Err-BadPlace : goal.returns-in-Err-BadPlace
returns-in-Err-BadPlace g c = record {
  copies = copies_bad _ _ _ _ _ _ c.in-Err-BadPlace.offset _ _ _ _ (bad_there _ _ _ c.in-Err-BadPlace.field-0-is c.in-Err-BadPlace.ensures.err) c.refuse_place.ensures.status c.refuse_place.ensures.prints;
}

pub returns : goal.returns
returns g c = record { copies = copies_nothing _ _ _ _ _ _ _ _ }
