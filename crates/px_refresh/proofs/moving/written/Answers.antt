use Rattle.std.proofs.Common.{◌≡◌, ◌∙◌, ap}
use Rattle.std.proofs.lemmas.Result.{IfOk-weaker}
use Rattle.httpdate.specs.Date.{unix_secs}
use Rattle.px_message.specs.Value.{is_value}
use Rattle.px_refresh.proofs.DateLemmas.{date_is}
use Rattle.px_refresh.proofs.MoveLemmas.{value_text}
use Rattle.px_refresh.specs.Date.{date_of}
use Rattle.px_refresh.proofs.moving.written.Goals as goal

pub of_text-requires : goal.of_text-requires
of_text-requires c = ap is_value c.to_bytes.ensures ∙ value_text c.args.date

pub returns : goal.returns
returns c =
    IfOk-weaker c.of_text.result (λ value. value ≡ c.to_bytes.result) (λ value. value ≡ date_of (unix_secs c.args.date))
    (λ value is. is ∙ c.to_bytes.ensures ∙ date_is c.args.date) c.of_text.ensures
