use Rattle.std.proofs.Common.{◌≡◌, ◌∙◌, List, ℕ, ap, rules}
use Rattle.std.proofs.lemmas.Result.{IfOk-weaker}
use Rattle.httpdate.specs.Date.{unix_secs}
use Rattle.px_refresh.proofs.MoveLemmas.{field_moved}
use Rattle.px_refresh.specs.Date.{date_of}
use Rattle.px_refresh.specs.Refresh.{refreshed_field}
use Rattle.px_refresh.proofs.moving.refreshed_value.Goals as goal

pub returns-in-Some : goal.returns-in-Some
returns-in-Some c =
    let name = c.args.name.now in
    let value = c.args.value.now in
    IfOk-weaker c.written.result (λ made. made ≡ date_of (unix_secs c.in-Some.date)) (λ made. ◌≡◌ {A = List ℕ × List ℕ} (name, made) (refreshed_field c.args.shift (name, value)))
    (λ made is. ap (λ text. (name, text)) is ∙ field_moved c.args.shift name value (unix_secs c.in-Some.date) (search rules) (search rules)) c.written.ensures
