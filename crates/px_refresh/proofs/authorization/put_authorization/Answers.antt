use Rattle.std.proofs.Common.{◌≡◌, ◌∙◌, ℕ, List, [], ◌∷◌, ◌++◌, Some, true, codes, refl, rules, ap, ap₂, sym}
use Rattle.std.proofs.lemmas.Result.{on_ok_weaker}
use Rattle.httparse.specs.Grammar.{is_token, is_token_byte}
use Rattle.px_refresh.specs.Authorized.{with_authorization}
use Rattle.px_refresh.specs.Fields.{with_fields}
use Rattle.px_refresh.proofs.authorization.put_authorization.Goals as goal

is_name : is_token (codes "Authorization") ≡ true
unfolding is_token_byte
is_name = refl

pub of_token-requires : goal.of_token-requires
of_token-requires c = is_name

pub returns-clause-put : goal.returns-clause-put
returns-clause-put c =
    let flow = c.args.flow.now in
    let from : c.in_ok-fields.fields ≡ flow.request.fields = search rules in
    let name : c.in_ok-of_token.field-0 ≡ codes "Authorization" = c.in_ok-of_token.ensures in
    let fields : c.add.new.self ≡ flow.request.fields ++ (codes "Authorization", c.in-Some.value) ∷ [] =
    c.in_ok-add.ensures.added ∙ ap₂ (λ (l : List (List ℕ × List ℕ)) (n : List ℕ). l ++ (n, c.in-Some.value) ∷ []) from name in
    let value : c.args.value ≡ Some c.in-Some.value = search rules in
    on_ok_weaker c.put_fields.result
    (λ is. is ∙ ap (λ fields. with_fields (λ _. fields) flow) fields ∙ sym (ap (λ value. with_authorization value flow) value))
    c.put_fields.ensures.put
