use Rattle.std.proofs.Common.{refl}
use Rattle.serde_json.proofs.OnLiterals.{serde_json_on_literals}
use Rattle.px_har.proofs.RowLemmas.{beyond, bytes_are, moment_is}
use Rattle.px_har.specs.Entry.{answer_value, characters, entry_value, no_answer, request_value, timings_value}
use Rattle.px_har.specs.Export.{har_value}
use Rattle.px_har.proofs.laws.rows_hold.Goals as goal

pub returns : goal.returns
unfolding serde_json_on_literals answer_value characters entry_value no_answer request_value timings_value har_value
returns c = record { one_byte = bytes_are; a_day_later = moment_is; leap_year = refl; other_year = refl; beyond = beyond; no_flow = refl }
