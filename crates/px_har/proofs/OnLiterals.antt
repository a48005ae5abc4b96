use Rattle.std.specs.Prelude.{⊤}
use Rattle.std.specs.Fmt.{digits}
use Rattle.std.specs.Str.{chars, is_utf8}
use Rattle.std.specs.Str.Lossy.{utf8_lossy, utf8_valid_len, utf8_error_len}
use Rattle.base64.proofs.OnLiterals.{base64_on_literals}
use Rattle.form_urlencoded.proofs.OnLiterals.{form_urlencoded_on_literals}
use Rattle.serde_json.proofs.OnLiterals.{serde_json_on_literals}
use Rattle.px_har.specs.Entry.{answer_value, characters, entry_value, no_answer, request_value, timings_value}
use Rattle.px_har.specs.Export.{har_value}
use Rattle.px_har.specs.Moment.{date_after}

-- what an answer unfolds to compute this crate's specs on a literal
unfoldable pub har_on_literals : ⊤
unfolding digits chars is_utf8 utf8_lossy utf8_valid_len utf8_error_len base64_on_literals form_urlencoded_on_literals serde_json_on_literals answer_value characters entry_value no_answer request_value timings_value har_value date_after
har_on_literals = tt
