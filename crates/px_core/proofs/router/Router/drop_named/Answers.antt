use Rattle.std.proofs.Common.{◌≡◌, inl, inr, true, false, ◌&&◌, refl, ap, sym, ◌∙◌, subst}
use Rattle.std.proofs.lemmas.Bool.{cases_Bool}
use Rattle.std.proofs.lemmas.Str.{IsUtf8-from_is_utf8, is_utf8-from_IsUtf8}
use Rattle.std.specs.Str.{is_utf8}
use Rattle.px_core.specs.Addons.{has_name}
use Rattle.px_core.proofs.router.Router.drop_named.Goals as goal

pub returns-in_default-clause-refused : goal.returns-in_default-clause-refused
returns-in_default-clause-refused g c =
    let name = c.args.name.now in
    let no_text : is_utf8 name ≡ false = elim (cases_Bool (is_utf8 name)) [
      | inl text ↦ absurd (c.in_default.ensures.cases.0 (IsUtf8-from_is_utf8 name text))
      | inr none ↦ none
    ] in
    (refl, ap (λ b. b && has_name name (g.A.Answerer.names (g.A.Answerer.state c.args.self.now.answerer))) no_text, refl)

pub returns-in-Ok-drop_addon-clause-done : goal.returns-in-Ok-drop_addon-clause-done
returns-in-Ok-drop_addon-clause-done g c =
    let name = c.args.name.now in
    let names = g.A.Answerer.names (g.A.Answerer.state c.args.self.now.answerer) in
    let has_it : has_name name names ≡ true = elim (cases_Bool (has_name name names)) [
      | inl some ↦ some
      | inr none ↦ absurd (let no : false ≡ true = c.in-Ok-drop_addon.ensures.missing.1 (ap (λ n. has_name n names) c.in-Ok.ensures.cases.0 ∙ none) in cc)
    ] in
    ap (λ b. b && has_name name names) (is_utf8-from_IsUtf8 name c.in-Ok.ensures.cases.1) ∙ has_it
