use Rattle.std.proofs.Common.{◌≡◌, ◌∙◌, sym, ap, map, ◌∷◌, [], List, ℕ}
use Rattle.std.specs.Prelude.{codes}
use Rattle.std.specs.String.{string_bytes}
use Rattle.px_app.proofs.WordLemmas.{same_word, two_are}
use Rattle.px_app.proofs.words.options_path.Goals as goal

pub returns : goal.returns
returns c =
    let words = two_are c.args.words.now _ _ c.in-len2.len_at_least c.in-len2.len_below c.command-item.is c.path-item.is in
    let command : string_bytes c.command-item.result ≡ codes "serve" = same_word _ _ _ _ c.as_str.ensures.value c.if-ne.false c.ne.ensures in
    ap (λ ws. map string_bytes ws) words ∙ (ap (λ (w : List ℕ). w ∷ string_bytes c.path-item.result ∷ []) command ∙ ap (λ (w : List ℕ). codes "serve" ∷ w ∷ []) (sym c.as_str-2.ensures.value))
