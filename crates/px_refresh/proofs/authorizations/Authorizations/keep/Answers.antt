use Rattle.std.proofs.Common.{◌≡◌, ◌∙◌, List, ℕ, [], ◌∷◌, ◌++◌, ap₂, rules, sym}
use Rattle.std.proofs.lemmas.Result.{on_ok_weaker}
use Rattle.px_refresh.proofs.KeyLemmas.{text_decides}
use Rattle.px_refresh.proofs.PlaceLemmas.{kept_again, kept_new}
use Rattle.px_refresh.specs.Authorized.{authorizations}
use Rattle.px_refresh.specs.Text.{is_same_text}
use Rattle.px_refresh.proofs.authorizations.Authorizations.keep.Goals as goal

pub returns-in-Some-clause-kept : goal.returns-in-Some-clause-kept
returns-in-Some-clause-kept c =
    let host : c.new-host.result ≡ c.args.host.now = search rules in
    let value : c.in_ok-value.value ≡ c.args.value.now = search rules in
    c.put.ensures
    ∙ sym (kept_again is_same_text text_decides c.new-host.result c.in_ok-value.value c.args.self.now c.in-Some.place c.is_kept.ensures c.in-Some.ensures)
    ∙ ap₂ (λ (h v : List ℕ). authorizations (c.args.self.now ++ (h, v) ∷ [])) host value

pub returns-in-None-clause-kept : goal.returns-in-None-clause-kept
returns-in-None-clause-kept c =
    let host : c.new-host.result ≡ c.args.host.now = search rules in
    let value : c.in_ok-value.value ≡ c.args.value.now = search rules in
    on_ok_weaker c.add.result
    (λ is.
    is ∙ sym (kept_new is_same_text text_decides c.new-host.result c.in_ok-value.value c.args.self.now c.is_kept.ensures c.in-None.ensures)
    ∙ ap₂ (λ (h v : List ℕ). authorizations (c.args.self.now ++ (h, v) ∷ [])) host value)
    c.add.ensures.added
