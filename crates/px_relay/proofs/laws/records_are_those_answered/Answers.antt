use Rattle.px_relay.proofs.RecordLemmas.{keeps_records}
use Rattle.px_relay.proofs.laws.records_are_those_answered.Goals as goal

pub returns : goal.returns
returns c = λ terms rests moves course. keeps_records terms rests moves course
