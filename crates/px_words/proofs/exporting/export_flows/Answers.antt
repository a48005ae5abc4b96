use Rattle.px_words.proofs.ExportLemmas.{exports_bad, exports_nothing, exports_status}
use Rattle.px_words.proofs.WholeLemmas.{bad_there}
use Rattle.px_words.proofs.exporting.export_flows.Goals as goal

pub returns-in-Ok : goal.returns-in-Ok
returns-in-Ok g c = record { exports = exports_status _ _ _ _ _ _ c.print_export.result _ c.status_of.ensures.code c.print_export.ensures.exports }

pub returns-in-Err-BadPlace : goal.returns-in-Err-BadPlace
returns-in-Err-BadPlace g c = record {
  exports = exports_bad _ _ _ _ c.in-Err-BadPlace.offset _ _ _ (bad_there _ _ _ c.in-Err-BadPlace.field-0-is c.in-Err-BadPlace.ensures.err) c.refuse_place.ensures.status c.refuse_place.ensures.prints;
}

pub returns : goal.returns
returns g c = record { exports = exports_nothing _ _ _ _ _ }
